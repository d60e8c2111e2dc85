-- The rule of a queue, for the proof alone: what it holds and what each of its passes knows.
use Rattle.std.specs.Prelude.{◌≡◌, ◌<◌, ◌≤◌, ◌-◌, ◌^◌, ℕ, min, true, false, List, [], ◌∷◌, ◌++◌, Option, Contains}
use mathlib.Core.Option.{some}
use lib.ListN.{get_elem?}
use Rattle.atomic_table.specs.Table.{Me}
use Rattle.crossbeam_queue.specs.declared.array_queue.Doing.{Doing}
use Rattle.node_actors.specs.declared.queues.items.Item.{Item}
use Rattle.node_actors.specs.declared.queues.hands.Sent.{Sent}
use Rattle.node_actors.specs.declared.queues.hands.Hand.{Hand}
use Rattle.node_actors.specs.Queues.{items_of, marks, EndsLast}

-- the receiver's pass
abbrev pub at_home : ℕ → List Item → List Sent → Hand
at_home senders popped pushed = record { home = true; senders = senders; popped = popped; pushed = pushed }

-- the pass of one sender
abbrev pub sending : ℕ → List Item → Hand
sending from items = record { home = false; senders = 0; popped = []; pushed = record { from = from; items = items } ∷ [] }

-- a pass that was taken in
abbrev pub spent : Hand
spent = record { home = false; senders = 0; popped = []; pushed = [] }

-- what the first sender pushed for which a pass speaks
abbrev pub first_items : List Sent → List Item
first_items [] = []
first_items (s ∷ ss) = s.items

-- The receiver's pass knows what was popped. Each pass knows what each sender pushed for which it speaks
pub record Knows (senders : ℕ) (popped all : List Item) (home : ℕ) (seat : ℕ → ℕ) (port : ℕ) (v : Hand) : Type 0 where
  pub homes : v.home ≡ true → (port ≡ home) × (v.senders ≡ senders) × (v.popped ≡ popped)
  pub sends : (s : Sent) → Contains v.pushed s → (s.from < senders) × (seat s.from ≡ port) × (s.items ≡ items_of s.from all)

-- What was popped and what the queue holds is all that was pushed: of each sender in its order, with its mark as its last item
pub record IsPosted (items : List Item) (hands : List Hand) : Type 0 where
  pub senders : ℕ
  pub popped : List Item
  pub home : ℕ
  pub seat : ℕ → ℕ
  pub ends : (k : ℕ) → EndsLast (items_of k (popped ++ items))
  pub few : (k : ℕ) → senders ≤ k → items_of k (popped ++ items) ≡ []
  pub each : (port : ℕ) (v : Hand) → get_elem? hands port ≡ some v → Knows senders popped (popped ++ items) home seat port v

-- what was popped and what the queue holds has all that the first sender pushed
abbrev pub HoldsRest : List Sent → List Item → Type 0
HoldsRest pushed items = (popped : List Item) × ((s : Sent) → Contains pushed s → s.items ≡ items_of s.from (popped ++ items))

-- what the receiver learns of all senders, and of those that it has taken in
pub record Tells (v : Hand) (items : List Item) : Type 0 where
  pub ends : (k : ℕ) → EndsLast (items_of k (v.popped ++ items))
  pub few : (k : ℕ) → v.senders ≤ k → items_of k (v.popped ++ items) ≡ []
  pub known : (s : Sent) → Contains v.pushed s → s.items ≡ items_of s.from (v.popped ++ items)

-- what a sender keeps: its pass speaks for it alone, and holds no place of the queue
pub record IsSender (from : ℕ) (me : Me (Option Item) (Doing Item Hand)) : Type 0 where
  pub hand : me.1 ≡ []
  pub one : me.0.client ≡ sending from (first_items me.0.client.pushed)

-- what a receiver keeps: its pass is home, and holds no place of the queue; the marks that it has popped are counted
pub record IsReceiver (senders ended : ℕ) (me : Me (Option Item) (Doing Item Hand)) : Type 0 where
  pub hand : me.1 ≡ []
  pub home : me.0.client ≡ at_home senders me.0.client.popped me.0.client.pushed
  pub few : senders ≤ 2 ^ 32
  pub counted : ended ≡ min (marks me.0.client.popped) (2 ^ 64 - 1)
