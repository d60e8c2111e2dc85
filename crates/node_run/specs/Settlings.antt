-- The queues between listeners and workers once all have ended: each receiver takes in the senders of its queue.
use Rattle.std.specs.Prelude.{◌≡◌, ◌<◌, ℕ, All, Contains, List, Some, length, slice_get}
use Rattle.std.specs.Global.{Vec}
use Rattle.atomic_table.specs.Seated.{TableId}
use Rattle.node_actors.specs.Queues.{HasAll, Receiving, Sending, AreOfSenders, after_take_in, items_of, marks, sent_by}

-- each queue's receiver
pub record AreReceiversOf (queues : List TableId) (receivers : List Receiving) : Type 0 where
  pub many : length receivers ≡ length queues
  pub own : (w : ℕ) (queue : TableId) (receiver : Receiving) → slice_get queues w ≡ Some queue → slice_get receivers w ≡ Some receiver → receiver.queue ≡ queue

-- each has popped as many end marks as it has made senders
abbrev pub HaveEnded : List Receiving → Type 0
HaveEnded receivers = (w : ℕ) (receiver : Receiving) → slice_get receivers w ≡ Some receiver → marks receiver.popped ≡ receiver.senders

-- the senders of listener k, one to each queue
pub record AreSendersOf (queues : List TableId) (k : ℕ) (senders : List Sending) : Type 0 where
  pub many : length senders ≡ length queues
  pub own : (w : ℕ) (queue : TableId) (sender : Sending) → slice_get queues w ≡ Some queue → slice_get senders w ≡ Some sender → sender.queue ≡ queue
  pub from : (w : ℕ) (sender : Sending) → slice_get senders w ≡ Some sender → sender.from ≡ k

-- all ends of these queues
pub record CanSettle (queues : List TableId) (receivers : List Receiving) (senders : List (Vec Sending)) : Type 0 where
  pub receivers_are : AreReceiversOf queues receivers
  pub ended : HaveEnded receivers
  pub senders_are : (k : ℕ) (list : Vec Sending) → slice_get senders k ≡ Some list → AreSendersOf queues k list.items

-- receiver w has popped what sender w of each listener k pushed, in its order, and it popped nothing else
pub record AreAllPopped (receivers : List Receiving) (senders : List (Vec Sending)) : Type 0 where
  pub all : (k w : ℕ) (list : Vec Sending) (sender : Sending) (receiver : Receiving) → slice_get senders k ≡ Some list → slice_get list.items w ≡ Some sender
      → slice_get receivers w ≡ Some receiver → items_of k receiver.popped ≡ sender.pushed
  pub from : (w : ℕ) (receiver : Receiving) → slice_get receivers w ≡ Some receiver → All (λ x. x.from < receiver.senders) receiver.popped

-- ---- on the way there

-- each receiver has taken the sender of its queue in
pub record TakeIn (senders : List Sending) (old new : List Receiving) : Type 0 where
  pub many : length new ≡ length old
  pub each : (w : ℕ) (was is : Receiving) (sender : Sending) → slice_get old w ≡ Some was → slice_get new w ≡ Some is → slice_get senders w ≡ Some sender
      → is ≡ after_take_in was sender

-- each receiver knows the senders of its queue, and is as it was
pub record KnowAll (senders : List (Vec Sending)) (old new : List Receiving) : Type 0 where
  pub many : length new ≡ length old
  pub same : (w : ℕ) (was is : Receiving) → slice_get old w ≡ Some was → slice_get new w ≡ Some is → is ≡ record was { known = is.known }
  pub known : (w k : ℕ) (is : Receiving) (list : Vec Sending) (sender : Sending) → slice_get new w ≡ Some is → slice_get senders k ≡ Some list
      → slice_get list.items w ≡ Some sender → Contains is.known (sent_by sender)

-- what each of the first receivers knows, it has popped
pub record AreSettledBelow (many : ℕ) (receivers : List Receiving) : Type 0 where
  pub all : (w : ℕ) (receiver : Receiving) → w < many → slice_get receivers w ≡ Some receiver → HasAll receiver
  pub from : (w : ℕ) (receiver : Receiving) → w < many → slice_get receivers w ≡ Some receiver → AreOfSenders receiver
