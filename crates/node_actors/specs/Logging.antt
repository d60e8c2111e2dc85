-- What an actor leaves of its logs, by its kind.
use Rattle.std.specs.Prelude.{◌≡◌, ℕ, List, [], Option}
use Rattle.mix_base.specs.Suites.{SuiteMeaning}
use Rattle.mix_shard.specs.Items.{Item}
use Rattle.mix_shard.specs.declared.entries.Told.{Told}
use Rattle.turn_lock.specs.Seen.{Caller}
use Rattle.node_actors.specs.Connecting.{ConnectorState, KeeperState, RotatorState}
use Rattle.node_actors.specs.Fates.{HasDealt}
use Rattle.node_actors.specs.Handing.{HandsFeed, HandsOver, KeepsLocal, LinkOutState, link_out}
use Rattle.node_actors.specs.Leaving.{LeavesClaims, LeavesDrained, LeavesSeat, seat_with}
use Rattle.node_actors.specs.Listening as listening
use Rattle.node_actors.specs.Seats.{HasTakenNothing, MovesAt, MovesNothing, SeatState}
use Rattle.node_actors.specs.Takings.{HasTaken}
use Rattle.node_actors.specs.Working as working
use Rattle.node_actors.specs.declared.actors.fates.Dealt.{Dealt}
use Rattle.node_actors.specs.declared.actors.takings.Taking.{Taking}
use Rattle.node_actors.specs.declared.actors.works.Work.{Work}
use Rattle.node_actors.specs.declared.actors.works.Work.TheVariants.{Listened, Worked, Connected, Kept, Rotated, Ended, Fed}

-- who deals with packets: it holds no shard, and has taken and rotated nothing; at each shard its claims are those of its fate
-- log, each fate has its cause, and it has counted those that were dropped
pub record LeavesDealer (suite : SuiteMeaning) (seat : SeatState) (passes : List (Caller Told)) (log : List (Dealt Item)) (dropped : ℕ) : Type 0 where
  pub seated : LeavesSeat seat passes
  pub moves : MovesNothing passes
  pub dealt : HasDealt suite (record { seat = seat_with seat passes; log = log; dropped = dropped })

-- who takes packets out, at such moments: it holds no shard and has claimed nothing; at each shard its takings are those of its
-- take log, each item was accepted there and is what the keys live at its receipt made of its packet, and it has counted those
-- that it didn't hand on
pub record LeavesTaker (suite : SuiteMeaning) (may : ℕ → Type 0) (seat : SeatState) (passes : List (Caller Told)) (log : List (Taking Item)) (unsent : ℕ) : Type 0 where
  pub claims : LeavesClaims seat passes
  pub moves : MovesAt may passes
  pub taken : HasTaken suite (record { seat = seat_with seat passes; log = log; unsent = unsent })

module _ {N O C : Type 0} (suite : SuiteMeaning) (may_give : C → ℕ → Type 0) where
  -- a listener: what it took is what its log and its senders have
  abbrev pub LeavesListener : (N → Option (List ℕ)) → (N → ℕ) → listening.ListenerState C → List (Caller Told) → Work Item N O → Type 0
  LeavesListener left faults listener passes (Listened link log dropped senders course ending) =
      LeavesDealer suite listener.dealer.seat passes log.items dropped
      × listening.Listened may_give listener (listening.listened left faults link log.items senders.items course.items ending)
  LeavesListener left faults listener passes _ = ⊥

  -- the connector of the link to a hop
  abbrev pub LeavesConnector : (O → Option (List (List ℕ))) → (O → ℕ) → ConnectorState C → List (Caller Told) → Work Item N O → Type 0
  LeavesConnector given faults connector passes (Connected hop link log unsent) =
      (hop ≡ connector.hop) × LeavesTaker suite (may_give connector.clock) connector.taker.seat passes log.items unsent
      × HandsOver connector.hop connector.was (link_out given faults link) log.items
  LeavesConnector given faults connector passes _ = ⊥

  -- the local connector
  abbrev pub LeavesKeeper : KeeperState C → List (Caller Told) → Work Item N O → Type 0
  LeavesKeeper keeper passes (Kept local log unsent) =
      LeavesTaker suite (may_give keeper.clock) keeper.taker.seat passes log.items unsent × KeepsLocal keeper.hops local.items log.items
  LeavesKeeper keeper passes _ = ⊥

module _ {N O : Type 0} where
  -- a worker: its log has what came out of its queue, all marks among it
  abbrev pub LeavesWorker : SuiteMeaning → working.WorkerState → List (Caller Told) → Work Item N O → Type 0
  LeavesWorker suite worker passes (Worked receiver log dropped) =
      LeavesDealer suite worker.dealer.seat passes log.items dropped
      × working.Worked worker (seat_with worker.dealer.seat passes) log.items receiver
  LeavesWorker suite worker passes _ = ⊥

  -- the rotator: it has taken nothing out, and when it last had each shard, that was drained
  abbrev pub LeavesRotator : {C : Type 0} → (C → ℕ → Type 0) → RotatorState C → List (Caller Told) → Work Item N O → Type 0
  LeavesRotator may_give rotator passes Rotated =
      LeavesDrained rotator.seat passes × HasTakenNothing (seat_with rotator.seat passes) × MovesAt (may_give rotator.clock) passes
  LeavesRotator may_give rotator passes _ = ⊥

  -- a caller that only ends
  abbrev pub LeavesSpare : SeatState → List (Caller Told) → Work Item N O → Type 0
  LeavesSpare seat passes Ended = LeavesClaims seat passes × MovesNothing passes
  LeavesSpare seat passes _ = ⊥

  -- a feed, which has no passes
  abbrev pub LeavesFeed : (O → Option (List (List ℕ))) → (O → ℕ) → List (List ℕ) → LinkOutState → List (Caller Told) → Work Item N O → Type 0
  LeavesFeed given faults packets was passes (Fed link) = (passes ≡ []) × HandsFeed packets was (link_out given faults link)
  LeavesFeed given faults packets was passes _ = ⊥
