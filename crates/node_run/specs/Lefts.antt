-- What each caller of a node left when the node had ended, by its role.
use Rattle.std.specs.Prelude.{◌≡◌, ◌<◌, ℕ, ◌+◌, ◌*◌, All, List, [], length, map, Option, Some, None, slice_get}
use Rattle.mix_base.specs.Suites.{SuiteMeaning}
use Rattle.mix_shard.specs.Items.{Item}
use Rattle.mix_shard.specs.declared.entries.Told.{Told}
use Rattle.turn_lock.specs.Seen.{Caller}
use Rattle.node_actors.specs.Connecting.{ConnectorState, KeeperState, RotatorState}
use Rattle.node_actors.specs.Handing.{link_out}
use Rattle.node_actors.specs.Listening.{ListenerState}
use Rattle.node_actors.specs.Logging.{LeavesConnector, LeavesKeeper, LeavesListener, LeavesRotator, LeavesSpare, LeavesWorker}
use Rattle.node_actors.specs.Queues.{items_of, Sending}
use Rattle.node_actors.specs.Working.{WorkerState}
use Rattle.node_actors.specs.declared.actors.works.Left.{Left}
use Rattle.node_actors.specs.declared.actors.works.Work.{Work}
use Rattle.node_actors.specs.declared.actors.works.Work.TheVariants.{Listened, Worked}
use Rattle.node_actors.specs.declared.queues.items.Item as queued
use Rattle.node_run.specs.Halls.{HallState, fresh_dealer, fresh_seat, fresh_taker}
use Rattle.node_run.specs.Roles.{role_of}
use Rattle.node_run.specs.declared.roles.Role.{Role}
use Rattle.node_run.specs.declared.roles.Role.TheVariants.{Listener, Worker, Keeper, Connector, Rotator, Spare}

-- a node of a life: what its callers share, the length of its packets, the clock, how many workers it has, and its links as
-- they were handed in
pub record Staffing (N O C : Type 0) : Type 0 where
  pub hall : HallState
  pub size : ℕ
  pub clock : C
  pub workers : ℕ
  pub incoming : List N
  pub outgoing : List (List ℕ × O)

module _ {N O C : Type 0} (suite : SuiteMeaning) (left : N → Option (List ℕ)) (in_faults : N → ℕ) (given : O → Option (List (List ℕ))) (out_faults : O → ℕ)
    (may_give : C → ℕ → Type 0) (node : Staffing N O C) where
  -- a listener that has taken nothing yet
  pub record IsNewListener (place caller : ℕ) (link : N) (listener : ListenerState C) : Type 0 where
    pub post : listener.post ≡ record { clock = node.clock; queues = node.hall.queues; size = node.size; place = place; listeners = length node.incoming }
    pub dealer : listener.dealer ≡ fresh_dealer node.hall caller
    pub link_is : listener.link ≡ record { left = left link; faults = in_faults link }
    pub course : listener.course ≡ []

  -- a worker that has popped nothing yet
  pub record IsNewWorker (place caller : ℕ) (worker : WorkerState) : Type 0 where
    pub dealer : worker.dealer ≡ fresh_dealer node.hall caller
    pub queue : slice_get node.hall.queues place ≡ Some worker.queue
    pub senders : worker.receiver.senders ≡ length node.incoming
    pub popped : worker.receiver.popped ≡ []
    pub known : worker.receiver.known ≡ []

  -- the connector of a link that has taken nothing yet, the local connector, and the rotator
  abbrev pub new_connector : ℕ → List ℕ × O → ConnectorState C
  new_connector caller out = record {
    taker = fresh_taker node.hall caller;
    clock = node.clock;
    hop = out.0;
    was = link_out given out_faults out.1;
    link = link_out given out_faults out.1;
  }

  abbrev pub new_keeper : ℕ → KeeperState C
  new_keeper caller = record { taker = fresh_taker node.hall caller; clock = node.clock; hops = map (λ out. out.0) node.outgoing; local = [] }

  abbrev pub new_rotator : ℕ → RotatorState C
  new_rotator caller = record { seat = fresh_seat node.hall caller; clock = node.clock }

  -- what a caller of this role left
  abbrev pub LeftAs : Role → ℕ → Left (Caller Told) Item N O → Type 0
  LeftAs (Listener place) caller gave =
      (link : N) × (slice_get node.incoming place ≡ Some link) × (listener : ListenerState C) × IsNewListener place caller link listener
      × LeavesListener suite may_give left in_faults listener gave.passes.items gave.work
  LeftAs (Worker place) caller gave =
      (worker : WorkerState) × IsNewWorker place caller worker × LeavesWorker suite worker gave.passes.items gave.work
  LeftAs Keeper caller gave = LeavesKeeper suite may_give (new_keeper caller) gave.passes.items gave.work
  LeftAs (Connector place) caller gave =
      (out : List ℕ × O) × (slice_get node.outgoing place ≡ Some out)
      × LeavesConnector suite may_give given out_faults (new_connector caller out) gave.passes.items gave.work
  LeftAs Rotator caller gave = LeavesRotator may_give (new_rotator caller) gave.passes.items gave.work
  LeftAs Spare caller gave = LeavesSpare (fresh_seat node.hall caller) gave.passes.items gave.work

  -- each caller left what its role says
  pub record AreLeft (lefts : List (Left (Caller Told) Item N O)) : Type 0 where
    pub many : length lefts ≡ node.hall.callers
    pub each : (caller : ℕ) (gave : Left (Caller Told) Item N O) → slice_get lefts caller ≡ Some gave
        → LeftAs (role_of (length node.incoming) node.workers (length node.outgoing) caller) caller gave

  -- ---- the queues between listeners and workers

  -- what a listener pushed to the worker of this place
  abbrev pushed_by : Option Sending → List queued.Item
  pushed_by (Some sender) = sender.pushed
  pushed_by None = []

  abbrev pub pushed_to : ℕ → Work Item N O → List queued.Item
  pushed_to place (Listened link log dropped senders course ending) = pushed_by (slice_get senders.items place)
  pushed_to place _ = []

  -- what a worker popped
  abbrev pub popped_by : Work Item N O → List queued.Item
  popped_by (Worked receiver log dropped) = receiver.popped
  popped_by _ = []

  -- what each worker popped of each listener is what that one pushed to it, in its order; and it popped nothing else
  pub record AreSettled (lefts : List (Left (Caller Told) Item N O)) : Type 0 where
    pub all : (k w : ℕ) (listener worker : Left (Caller Told) Item N O) → k < length node.incoming → w < node.workers
        → slice_get lefts (2 * k) ≡ Some listener → slice_get lefts (2 * (length node.incoming + w)) ≡ Some worker
        → items_of k (popped_by worker.work) ≡ pushed_to w listener.work
    pub from : (w : ℕ) (worker : Left (Caller Told) Item N O) → w < node.workers → slice_get lefts (2 * (length node.incoming + w)) ≡ Some worker
        → All (λ x. x.from < length node.incoming) (popped_by worker.work)
