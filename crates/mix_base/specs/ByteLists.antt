-- Lists of bytes: their xor, their xor with a stream, and zeros.
use Rattle.std.specs.Prelude.{ℕ, ◌+◌, ◌==◌, Bool, List, [], ◌∷◌, bit_xor}
use Rattle.std.specs.List.{list_all}

-- each byte xored with the byte of the other list at its place; what has none there stays
abbrev pub xor : List ℕ → List ℕ → List ℕ
xor [] other = []
xor (byte ∷ bytes) [] = byte ∷ bytes
xor (byte ∷ bytes) (with ∷ others) = bit_xor byte with ∷ xor bytes others

-- each byte xored with the stream's byte at its place, the first byte with that of the place given
abbrev pub xor_stream : (ℕ → ℕ) → ℕ → List ℕ → List ℕ
xor_stream stream place [] = []
xor_stream stream place (byte ∷ bytes) = bit_xor byte (stream place) ∷ xor_stream stream (place + 1) bytes

-- each byte is zero
abbrev pub all_zero : List ℕ → Bool
all_zero bytes = list_all (λ byte. byte == 0) bytes
