-- What a worker does: it deals with just the packets that came out of its queue, in that order, until as many end marks came
-- as there are listeners.
use Rattle.std.specs.Prelude.{◌≡◌, List, ◌++◌}
use Rattle.atomic_table.specs.Seated.{TableId}
use Rattle.mix_shard.specs.Items.{Item}
use Rattle.node_actors.specs.Fates.{ClaimsAsLogged, DealerState}
use Rattle.node_actors.specs.Packets.{arrived, arrived_packets, dealt_packets}
use Rattle.node_actors.specs.Queues.{after_pop, Receiving, marks}
use Rattle.node_actors.specs.Seats.{IsSameSeat, SeatState}
use Rattle.node_actors.specs.declared.actors.fates.Dealt.{Dealt}
use Rattle.node_actors.specs.declared.queues.items.Item as queued

-- a worker on its way
pub record WorkerState : Type 0 where
  pub dealer : DealerState
  pub queue : TableId
  pub receiver : Receiving

-- its fate log has the packets that it popped
pub record HasWorked (worker : WorkerState) : Type 0 where
  pub own : worker.receiver.queue ≡ worker.queue
  pub log : dealt_packets worker.dealer.log ≡ arrived_packets worker.receiver.popped

-- a worker that has ended: of its seat, its log, and its end of the queue
pub record Worked (old : WorkerState) (seat : SeatState) (log : List (Dealt Item)) (receiver : Receiving) : Type 0 where
  pub same_seat : IsSameSeat old.dealer.seat seat
  pub own : receiver.queue ≡ old.queue
  pub senders : receiver.senders ≡ old.receiver.senders
  pub ended : marks receiver.popped ≡ receiver.senders
  pub log_is : dealt_packets log ≡ arrived_packets receiver.popped
  pub claims_are : ClaimsAsLogged seat log

-- the worker's queue and its seat stay
pub record KeepsWorking (old new : WorkerState) : Type 0 where
  pub same_seat : IsSameSeat old.dealer.seat new.dealer.seat
  pub queue : new.queue ≡ old.queue
  pub senders : new.receiver.senders ≡ old.receiver.senders

-- one item more was popped, and its packet was dealt with, where it has one
pub record DealsWithNext (popped : Receiving) (log : List (Dealt Item)) (popped_now : Receiving) (log_now : List (Dealt Item)) : Type 0 where
  pub item : queued.Item
  pub receiver : popped_now ≡ after_pop popped item
  pub dealt : dealt_packets log_now ≡ dealt_packets log ++ arrived item.arrival
