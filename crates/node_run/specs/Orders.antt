-- Numbers that differ, and numbers in their order; and the packets' numbers in a tale.
use Rattle.std.specs.Prelude.{◌≡◌, ◌≢◌, ℕ, ◌%◌, ◌<◌, AllPairs, List, [], ◌∷◌, flat_map}
use Rattle.mix_shard.specs.declared.entries.Entry.{Entry}
use Rattle.mix_shard.specs.declared.entries.Entry.TheVariants.{Claim, Take, Rotate, Done, Reopened}
use Rattle.mix_shard.specs.declared.entries.Told.{Told}

-- none stands twice
abbrev pub Differ : {X : Type 0} → List X → Type 0
Differ entries = AllPairs (λ x y. x ≢ y) entries

-- packets of so many listeners: those of one and the same have their numbers in order
abbrev pub InOrder : ℕ → List ℕ → Type 0
InOrder listeners numbers = AllPairs (λ x y. x % listeners ≡ y % listeners → x < y) numbers

-- the number that was claimed
abbrev pub claimed_number : Entry → List ℕ
claimed_number (Claim caller number epoch tag at answer) = number ∷ []
claimed_number (Take caller number dest moment) = []
claimed_number (Rotate caller moment answer) = []
claimed_number (Done caller) = []
claimed_number (Reopened caller floor pairs) = []

-- the number that was taken out
abbrev pub taken_number : Entry → List ℕ
taken_number (Claim caller number epoch tag at answer) = []
taken_number (Take caller number dest moment) = number ∷ []
taken_number (Rotate caller moment answer) = []
taken_number (Done caller) = []
taken_number (Reopened caller floor pairs) = []

-- those of a tale, in its order
abbrev pub take_numbers : List Told → List ℕ
take_numbers tale = flat_map (λ told. taken_number told.entry) tale

abbrev pub claim_numbers : List Told → List ℕ
claim_numbers tale = flat_map (λ told. claimed_number told.entry) tale
