-- Queues: what contracts see of a queue, of its senders and of its receiver.
use Rattle.std.specs.Prelude.{◌≡◌, ◌<◌, ℕ, ◌+◌, ◌==◌, ⊤, Bool, All, List, [], ◌∷◌, ◌++◌, length, Option, filter, is_none, IsTrue, if◌then◌else◌}
use Rattle.atomic_table.specs.Seated.{TableId}
use Rattle.node_actors.specs.declared.queues.items.Arrival.{Arrival}
use Rattle.node_actors.specs.declared.queues.items.Item.{Item}
use Rattle.node_actors.specs.declared.queues.hands.Sent.{Sent}

-- a sender: its queue, its number among the queue's senders, and what it pushed, in its order
pub record Sending : Type 0 where
  pub queue : TableId
  pub from : ℕ
  pub pushed : List Item

-- the receiver: its queue, how many senders it has made, what it popped, and what those senders pushed that it has taken in
pub record Receiving : Type 0 where
  pub queue : TableId
  pub senders : ℕ
  pub popped : List Item
  pub known : List Sent

-- the items of one sender, in their order
abbrev pub items_of : ℕ → List Item → List Item
items_of from items = filter (λ x. x.from == from) items

-- an item without an arrival is an end mark
abbrev pub is_mark : Item → Bool
is_mark x = is_none x.arrival

-- one for an end mark, else nothing
abbrev pub mark_of : Item → ℕ
mark_of x = if is_mark x then 1 else 0

-- how many end marks there are
abbrev pub marks : List Item → ℕ
marks [] = 0
marks (x ∷ xs) = mark_of x + marks xs

-- nothing follows an end mark
abbrev pub EndsLast : List Item → Type 0
EndsLast [] = ⊤
EndsLast (x ∷ xs) = (IsTrue (is_mark x) → xs ≡ []) × EndsLast xs

-- the first list is a front of the second
abbrev pub Begins : List Item → List Item → Type 0
Begins front whole = (rest : List Item) × (front ++ rest ≡ whole)

abbrev pub new_sender : TableId → ℕ → Sending
new_sender queue from = record { queue = queue; from = from; pushed = [] }

abbrev pub new_receiver : TableId → Receiving
new_receiver queue = record { queue = queue; senders = 0; popped = []; known = [] }

-- the sender once it has pushed an arrival, or its end mark
abbrev pub after_push : Sending → Option Arrival → Sending
after_push s arrival = record s { pushed = s.pushed ++ record { from = s.from; arrival = arrival } ∷ [] }

-- the receiver once it has popped an item
abbrev pub after_pop : Receiving → Item → Receiving
after_pop r item = record r { popped = r.popped ++ item ∷ [] }

-- what a sender pushed
abbrev pub sent_by : Sending → Sent
sent_by s = record { from = s.from; items = s.pushed }

-- the receiver once it has made one sender more
abbrev pub after_sender : Receiving → Receiving
after_sender r = record r { senders = r.senders + 1 }

-- the receiver once it has taken a sender in
abbrev pub after_take_in : Receiving → Sending → Receiving
after_take_in r s = record r { known = r.known ++ sent_by s ∷ [] }

-- of each sender that was taken in, what was popped is a front of what it pushed, in its order
abbrev pub HasFronts : Receiving → Type 0
HasFronts r = All (λ s. Begins (items_of s.from r.popped) s.items) r.known

-- of each sender that was taken in, what was popped is what it pushed, in its order
abbrev pub HasAll : Receiving → Type 0
HasAll r = All (λ s. items_of s.from r.popped ≡ s.items) r.known

-- of each sender that was taken in, nothing follows its mark
abbrev pub HaveEnds : Receiving → Type 0
HaveEnds r = All (λ s. EndsLast s.items) r.known

-- each item that was popped is of one of the receiver's senders
abbrev pub AreOfSenders : Receiving → Type 0
AreOfSenders r = All (λ x. x.from < r.senders) r.popped

-- at one moment the queue held 64 items, behind those that had been popped, and had all that the sender pushed
abbrev pub WasFull : Sending → Type 0
WasFull s = (items popped : List Item) × (length items ≡ 64) × (items_of s.from (popped ++ items) ≡ s.pushed)
