-- How far a search for the first due item has come.
use Rattle.std.specs.Prelude.{◌≡◌, ℕ, List, Option, Some, None, slice_get}
use Rattle.due_queue.specs.Queues.{IsFirstDue, NoneDue}
use Rattle.due_queue.specs.declared.destinations.Dest.{Dest}
use Rattle.due_queue.specs.declared.queue.Next.{Next}

-- at this place stands the first due item of these
abbrev pub StandsFirst : {T : Type 0} → (T → Next) → Option Dest → ℕ → List T → List T → ℕ → Type 0
StandsFirst told wanted moment items among place = (item : _) × (slice_get items place ≡ Some item) × IsFirstDue told wanted moment among item

-- what a search for the first due item among these has found: its place in the whole list, or that none is due
abbrev pub HasFound : {T : Type 0} → (T → Next) → Option Dest → ℕ → List T → List T → Option ℕ → Type 0
HasFound told wanted moment items among None = NoneDue told wanted moment among
HasFound told wanted moment items among (Some place) = StandsFirst told wanted moment items among place
