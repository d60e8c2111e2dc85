-- What each actor may leave, by its kind, and the passes that it has.
use Rattle.std.specs.Prelude.{ℕ, List, [], Option, map}
use Rattle.mix_base.specs.Suites.{SuiteMeaning}
use Rattle.mix_shard.specs.Items.{Item}
use Rattle.mix_shard.specs.declared.entries.Told.{Told}
use Rattle.turn_lock.specs.Seen.{Caller}
use Rattle.node_actors.specs.Handing.{link_out}
use Rattle.node_actors.specs.Logging.{LeavesConnector, LeavesFeed, LeavesKeeper, LeavesListener, LeavesRotator, LeavesSpare, LeavesWorker}
use Rattle.node_actors.specs.declared.actors.crew.NodeActor.{NodeActor}
use Rattle.node_actors.specs.declared.actors.crew.NodeActor.TheVariants.{Listens, Works, Connects, Keeps, Rotates, Ends, Feeds}
use Rattle.node_actors.specs.declared.actors.works.Left.{Left}

-- a caller's passes, one to each shard; a feed has none
abbrev pub passes_of : {H R S N O C G K M D Z W : Type 0} → NodeActor H R S N O C G K M D Z W → List (Caller Told)
passes_of (Listens listener) = listener.dealer.seat.passes
passes_of (Works worker) = worker.dealer.seat.passes
passes_of (Connects connector) = connector.taker.seat.passes
passes_of (Keeps keeper) = keeper.taker.seat.passes
passes_of (Rotates rotator) = rotator.seat.passes
passes_of (Ends spare) = spare.seat.passes
passes_of (Feeds feeder) = []

module _ {H R S N O C G K M D Z W : Type 0} (suite : SuiteMeaning) (may_give : C → ℕ → Type 0) (left : N → Option (List ℕ)) (in_faults : N → ℕ)
    (given : O → Option (List (List ℕ))) (out_faults : O → ℕ) where
  -- what it does and leaves, by its kind: see Logging
  abbrev pub Gives : NodeActor H R S N O C G K M D Z W → Left (Caller Told) Item N O → Type 0
  Gives (Listens listener) gave = LeavesListener suite may_give left in_faults listener gave.passes.items gave.work
  Gives (Works worker) gave = LeavesWorker suite worker gave.passes.items gave.work
  Gives (Connects connector) gave = LeavesConnector suite may_give given out_faults connector gave.passes.items gave.work
  Gives (Keeps keeper) gave = LeavesKeeper suite may_give keeper gave.passes.items gave.work
  Gives (Rotates rotator) gave = LeavesRotator may_give rotator gave.passes.items gave.work
  Gives (Ends spare) gave = LeavesSpare spare.seat gave.passes.items gave.work
  Gives (Feeds feeder) gave =
      LeavesFeed given out_faults (map (λ packet. packet.items) feeder.feed.packets.items) (link_out given out_faults feeder.feed.link) gave.passes.items gave.work
