-- Words to come, one for each place from 0, and words as bytes.
use Rattle.std.specs.Prelude.{ℕ, zero, suc, ◌+◌, ◌≡◌, List, [], ◌∷◌, ◌++◌}
use Rattle.std.specs.Int.{w32, to_le_bytes}
use Rattle.std.specs.List.{flat_map}

-- some words at the front were taken: place i has the word that stood that many places further
abbrev pub GoesOn : (ℕ → ℕ) → (ℕ → ℕ) → Type 0
GoesOn before after = (taken : ℕ) × ((place : ℕ) → after place ≡ before (taken + place))

-- this many words at the front were taken
abbrev pub SkipsWords : ℕ → (ℕ → ℕ) → (ℕ → ℕ) → Type 0
SkipsWords taken before after = (place : ℕ) → after place ≡ before (taken + place)

-- the first n of the words to come
unfoldable pub first_words : (ℕ → ℕ) → ℕ → List ℕ
first_words words zero = []
first_words words (suc n) = first_words words n ++ words n ∷ []

-- 32-bit words as bytes, each as four, the low byte first
abbrev pub word_bytes : List ℕ → List ℕ
word_bytes words = flat_map (to_le_bytes w32) words
