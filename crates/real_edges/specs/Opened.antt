-- The file of an area among a rack's files.
use Rattle.std.specs.Prelude.{◌≡◌, ℕ, zero, suc, Option, Some, None}
use Rattle.real_edges.specs.declared.area_files.Access.{Access}
use Rattle.real_edges.specs.declared.area_files.Access.TheVariants.{Unopened, Open, Lost}

-- there is one where they are open
abbrev pub file_of : {F : Type 0} → ℕ → Access F → Option F
file_of area Unopened = None
file_of zero (Open root one two) = Some root
file_of (suc zero) (Open root one two) = Some one
file_of (suc (suc n)) (Open root one two) = Some two
file_of area Lost = None

-- no area's file is open
abbrev pub HasNoFile : {F : Type 0} → Access F → Type 0
HasNoFile access = (area : ℕ) → file_of area access ≡ None
