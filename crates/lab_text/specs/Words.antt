-- The words of a line, and what a word says: a number in a range, or bytes.
use Rattle.std.specs.Prelude.{ℕ, ◌+◌, ◌-◌, ◌*◌, ◌^◌, nat_le, nat_lt, Bool, true, ◌==◌, ◌||◌, ◌&&◌, if◌then◌else◌}
use Rattle.std.specs.Prelude.{List, [], ◌∷◌, length, Option, Some, None, codes}
use Rattle.std.specs.Result.{result_ok}
use Rattle.std.specs.Str.{bytes_eq}
use Rattle.mix_base.specs.Options.{◌>>=◌}
use Rattle.hex.specs.Hex.{decode_of, decode_sized}

-- a space or a tab
abbrev pub is_blank : ℕ → Bool
is_blank byte = byte == 32 || byte == 9

-- whether no word goes on at the front of the bytes
abbrev pub ends_word : List ℕ → Bool
ends_word [] = true
ends_word (byte ∷ bytes) = is_blank byte

-- the words with one byte more at the front of the first
abbrev pub before_first : ℕ → List (List ℕ) → List (List ℕ)
before_first byte [] = (byte ∷ []) ∷ []
before_first byte (word ∷ words) = (byte ∷ word) ∷ words

-- the words of a line: the longest runs of bytes that are no blanks
abbrev pub words_of : List ℕ → List (List ℕ)
words_of [] = []
words_of (byte ∷ bytes) =
    if is_blank byte then words_of bytes
    else if ends_word bytes then (byte ∷ []) ∷ words_of bytes
    else before_first byte (words_of bytes)

-- the value of decimal digits, behind digits of this value
abbrev pub digits_value : ℕ → List ℕ → Option ℕ
digits_value value [] = Some value
digits_value value (byte ∷ bytes) =
    if nat_le 48 byte && nat_le byte 57 then digits_value (value * 10 + (byte - 48)) bytes else None

-- the value of a numeral: 1 to 20 decimal digits
abbrev pub numeral_value : List ℕ → Option ℕ
numeral_value word =
    if nat_le 1 (length word) && nat_le (length word) 20 then digits_value 0 word else None

-- a value that isn't outside its range
abbrev pub within : ℕ → ℕ → ℕ → Option ℕ
within low high value = if nat_le low value && nat_le value high then Some value else None

-- the value of a number in a range
abbrev pub number_in : ℕ → ℕ → List ℕ → Option ℕ
number_in low high word = numeral_value word >>= within low high

-- a value that is below a bound
abbrev pub below : ℕ → ℕ → Option ℕ
below bound value = if nat_lt value bound then Some value else None

-- the value of a number below a bound
abbrev pub number_below : ℕ → List ℕ → Option ℕ
number_below bound word = numeral_value word >>= below bound

-- the greatest moment, in milliseconds, and the greatest number of an epoch
abbrev pub last_moment : ℕ
last_moment = 2 ^ 60 - 1

-- the bytes that hexadecimal digits of either case spell two by two, or none at a dash
abbrev pub bytes_of : List ℕ → Option (List ℕ)
bytes_of word = if bytes_eq word (codes "-") then Some [] else result_ok (decode_of word)

-- the 32 bytes that 64 hexadecimal digits of either case spell
abbrev pub thirty_two : List ℕ → Option (List ℕ)
thirty_two word = result_ok (decode_sized word 32)
