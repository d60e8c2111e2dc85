-- Lines of words: how one is written, and what its words say: a number or bytes, each as the first word or as the only
-- one.
use Rattle.std.specs.Prelude.{ℕ, Bool, true, false, ◌==◌, if◌then◌else◌}
use Rattle.std.specs.Prelude.{List, [], ◌∷◌, ◌++◌, length, slice_index, is_none, Option, Some, None, codes}
use Rattle.std.specs.Result.{result_ok}
use Rattle.std.specs.Str.{bytes_eq}
use Rattle.mix_base.specs.Options.{◌>>=◌}
use Rattle.hex.specs.Hex.{decode_sized}
use Rattle.lab_text.specs.Words.{number_in, bytes_of}

-- words joined by single spaces, and ended by a line feed
abbrev pub line_of : List (List ℕ) → List ℕ
line_of [] = 10 ∷ []
line_of (word ∷ []) = word ++ 10 ∷ []
line_of (word ∷ other ∷ others) = word ++ 32 ∷ line_of (other ∷ others)

-- whether a first word begins with # (35)
abbrev pub is_comment : List ℕ → Bool
is_comment word = slice_index word 0 == 35

-- the first word and those behind it, where the line says something: it has a word, and its first doesn't begin with #
abbrev pub said_words : List (List ℕ) → Option (List ℕ × List (List ℕ))
said_words [] = None
said_words (first ∷ words) = if is_comment first then None else Some (first, words)

-- whether a line says nothing
abbrev pub says_nothing : List (List ℕ) → Bool
says_nothing words = is_none (said_words words)

-- the first word and those behind it
abbrev pub first_of : List (List ℕ) → Option (List ℕ × List (List ℕ))
first_of [] = None
first_of (word ∷ words) = Some (word, words)

-- the one word there is
abbrev pub only_word : List (List ℕ) → Option (List ℕ)
only_word [] = None
only_word (word ∷ []) = Some word
only_word (word ∷ other ∷ words) = None

-- the two words there are
abbrev pub both_words : List (List ℕ) → Option (List ℕ × List ℕ)
both_words [] = None
both_words (first ∷ []) = None
both_words (first ∷ second ∷ []) = Some (first, second)
both_words (first ∷ second ∷ other ∷ words) = None

-- a value behind which no word stands
abbrev pub alone : {A : Type 0} → A → List (List ℕ) → Option A
alone value [] = Some value
alone value (word ∷ words) = None

-- a number in a range as the first word, and the words behind it
abbrev pub first_number : ℕ → ℕ → List (List ℕ) → Option (ℕ × List (List ℕ))
first_number low high words = do
  first ← first_of words
  value ← number_in low high first.0
  Some (value, first.1)

-- bytes, where they have this length
abbrev pub of_length : ℕ → List ℕ → Option (List ℕ)
of_length count bytes = if length bytes == count then Some bytes else None

-- the bytes that a word spells, where they have this length
abbrev pub bytes_in : ℕ → List ℕ → Option (List ℕ)
bytes_in count word = bytes_of word >>= of_length count

-- such bytes as the first word, and the words behind it
abbrev pub first_bytes : ℕ → List (List ℕ) → Option (List ℕ × List (List ℕ))
first_bytes count words = do
  first ← first_of words
  bytes ← bytes_in count first.0
  Some (bytes, first.1)

-- such bytes as the only word
abbrev pub only_bytes : ℕ → List (List ℕ) → Option (List ℕ)
only_bytes count words = only_word words >>= bytes_in count

-- the 16 bytes of a reply's id
abbrev pub surb_of : List ℕ → Option (List ℕ)
surb_of word = result_ok (decode_sized word 16)

-- whether the suite is `ntru` and not `lab`
abbrev pub suite_of : List ℕ → Option Bool
suite_of word =
    if bytes_eq word (codes "ntru") then Some true
    else if bytes_eq word (codes "lab") then Some false
    else None
