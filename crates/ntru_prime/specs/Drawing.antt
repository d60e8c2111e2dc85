-- Polynomials with coefficients from -1 to 1, drawn from 32-bit words.
use Rattle.std.specs.Prelude.{ℕ, ◌+◌, ◌-◌, ◌*◌, ◌/◌, ◌%◌, ◌^◌, ℤ, pos, ◌-ℤ◌, List, [], ◌∷◌, ◌++◌, map, take, drop, nat_le, if◌then◌else◌}

-- a coefficient of a word: its low 30 bits as a fraction of 2^30, times 3, rounded down and less 1
abbrev pub drawn_coefficient : ℕ → ℤ
drawn_coefficient word = pos (word % 2 ^ 30 * 3 / 2 ^ 30) -ℤ pos 1

-- the polynomial of some words, a coefficient from each
abbrev pub drawn_polynomial : List ℕ → List ℤ
drawn_polynomial words = map drawn_coefficient words

-- the words in ascending order: each is put before the first that isn't smaller
abbrev pub placed : ℕ → List ℕ → List ℕ
placed word [] = word ∷ []
placed word (other ∷ others) = if nat_le word other then word ∷ other ∷ others else other ∷ placed word others

unfoldable pub sorted : List ℕ → List ℕ
sorted [] = []
sorted (word ∷ words) = placed word (sorted words)

-- a word with bit 0 cleared: its low two bits are 0 or 2
abbrev pub even : ℕ → ℕ
even word = word - word % 2

-- a word with bit 1 cleared and bit 0 set: its low two bits are 1
abbrev pub one_of_four : ℕ → ℕ
one_of_four word = word - word % 4 + 1

-- the words that a polynomial of weight 286 is sorted from: the first 286 stand for coefficients other than 0
unfoldable pub marked : List ℕ → List ℕ
marked words = map even (take 286 words) ++ map one_of_four (drop 286 words)

-- the coefficient that a marked word carries: its low two bits less 1
abbrev pub carried_coefficient : ℕ → ℤ
carried_coefficient word = pos (word % 4) -ℤ pos 1

-- the polynomial of weight 286 of some words: their order decides which places have which coefficients
abbrev pub weight_polynomial : List ℕ → List ℤ
weight_polynomial words = map carried_coefficient (sorted (marked words))
