-- Steps that may find nothing, one after the other.
use Rattle.std.specs.Prelude.{Option, Some, None}

-- the next step on what this one found; the first that finds nothing decides
infixl 10 ◌>>=◌
abbrev pub ◌>>=◌ : {A B : Type 0} → Option A → (A → Option B) → Option B
None >>= next = None
(Some found) >>= next = next found
