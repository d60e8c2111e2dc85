-- Stories: lists of entries, each made by one caller.
use Rattle.std.specs.Prelude.{◌≡◌, ℕ, ◌==◌, List, ◌++◌, length, drop, cond, nat_le}
use Rattle.std.specs.List.{filter}

module _ {E : Type 0} where
  -- the entries of one caller, in their order
  abbrev pub entries_by : (E → ℕ) → ℕ → List E → List E
  entries_by caller who story = filter (λ e. caller e == who) story

  -- what stands in a story behind what was seen of it
  abbrev pub after : List E → List E → List E
  after seen story = drop (length seen) story

  -- the story begins with what was seen
  abbrev pub Begins : List E → List E → Type 0
  Begins seen story = (rest : List E) × (seen ++ rest ≡ story)

  -- the longer of two stories
  abbrev pub longer : List E → List E → List E
  longer xs ys = cond (nat_le (length xs) (length ys)) ys xs
