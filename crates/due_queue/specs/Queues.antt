-- The queue: a bag of items, seen as a list in no order that counts, and how many items more it has room for, for each
-- destination.
use Rattle.std.specs.Prelude.{◌≡◌, ℕ, ◌<◌, ◌≤◌, ◌⊎◌, List, Option, Contains, count_by}
use Rattle.due_queue.specs.Destinations.{IsWanted, same_dest}
use Rattle.due_queue.specs.declared.destinations.Dest.{Dest}
use Rattle.due_queue.specs.declared.queue.Next.{Next}

-- the items, and the destinations that room is kept for, one entry for each item to come
pub record QueueState (T : Type 0) : Type 0 where
  pub items : List T
  pub kept : List Dest

-- how many of these are for a destination
abbrev pub room_for : List Dest → Dest → ℕ
room_for kept dest = count_by (λ one. same_dest one dest) kept

-- how many items for a destination may be put in
abbrev pub spare : {T : Type 0} → QueueState T → Dest → ℕ
spare queue dest = room_for queue.kept dest

-- the first comes before the second, or both have the same place: by when they are due, then by their numbers
abbrev pub NotAfter : Next → Next → Type 0
NotAfter first second = (first.due < second.due) ⊎ ((first.due ≡ second.due) × (first.number ≤ second.number))

-- an item for the destination that is wanted, or for any, that is due at a moment
pub record IsDue (wanted : Option Dest) (moment : ℕ) (next : Next) : Type 0 where
  pub wanted_dest : IsWanted wanted next.dest
  pub due : next.due ≤ moment

-- the first of the items that are due; `told` says when an item is due, its number and its destination
pub record IsFirstDue {T : Type 0} (told : T → Next) (wanted : Option Dest) (moment : ℕ) (items : List T) (item : T) : Type 0 where
  pub there : Contains items item
  pub is_due : IsDue wanted moment (told item)
  pub first : (other : T) → Contains items other → IsDue wanted moment (told other) → NotAfter (told item) (told other)

-- none of them is due
abbrev pub NoneDue : {T : Type 0} → (T → Next) → Option Dest → ℕ → List T → Type 0
NoneDue told wanted moment items = (item : _) → Contains items item → ¬ IsDue wanted moment (told item)
