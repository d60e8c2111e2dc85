-- Destinations, and which items are for one.
use Rattle.std.specs.Prelude.{◌≡◌, ⊤, Bool, true, false, Option, Some, None}
use Rattle.std.specs.Str.{bytes_eq}
use Rattle.due_queue.specs.declared.destinations.Dest.{Dest}
use Rattle.due_queue.specs.declared.destinations.Dest.TheVariants.{Hop, Local}

-- both are the same destination, as a test
abbrev pub same_dest : Dest → Dest → Bool
same_dest (Hop id) (Hop other) = bytes_eq id other
same_dest Local Local = true
same_dest _ _ = false

-- it is the one that is wanted, where one is
abbrev pub IsWanted : Option Dest → Dest → Type 0
IsWanted None dest = ⊤
IsWanted (Some wanted) dest = same_dest wanted dest ≡ true
