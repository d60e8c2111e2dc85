-- The actors of a node, by their callers' numbers, before they act.
use Rattle.std.specs.Prelude.{◌≡◌, ℕ, List, ◌++◌, length, Option, Some, slice_get}
use Rattle.mix_base.specs.Suites.{SuiteMeaning}
use Rattle.packet_form.specs.Geometry.{packet}
use Rattle.node_actors.specs.declared.actors.crew.NodeActor.{NodeActor}
use Rattle.node_actors.specs.declared.actors.crew.NodeActor.TheVariants.{Listens, Works, Connects, Keeps, Rotates, Ends}
use Rattle.node_run.specs.Halls.{HallState, fresh_seat}
use Rattle.node_run.specs.Lefts.{IsNewListener, IsNewWorker, Staffing, new_connector, new_keeper, new_rotator}
use Rattle.node_run.specs.Posts.{AreEach}
use Rattle.node_run.specs.Roles.{role_of}
use Rattle.node_run.specs.declared.roles.Role.{Role}
use Rattle.node_run.specs.declared.roles.Role.TheVariants.{Listener, Worker, Keeper, Connector, Rotator, Spare}

-- this node with a clock
abbrev pub staffing_of : {N O C : Type 0} → HallState → List N → List (List ℕ × O) → C → Staffing N O C
staffing_of hall incoming outgoing clock = record {
  hall = hall;
  size = packet hall.setup.geometry;
  clock = clock;
  workers = length hall.queues;
  incoming = incoming;
  outgoing = outgoing;
}

module _ {H R S N O C G K M D Z W : Type 0} (suite : SuiteMeaning) (may_give : C → ℕ → Type 0) (left : N → Option (List ℕ)) (in_faults : N → ℕ)
    (given : O → Option (List (List ℕ))) (out_faults : O → ℕ) (node : Staffing N O C) where
  -- the actor of a caller in this role has done nothing yet
  abbrev pub IsStaff : Role → ℕ → NodeActor H R S N O C G K M D Z W → Type 0
  IsStaff (Listener place) caller (Listens listener) =
      (link : N) × (slice_get node.incoming place ≡ Some link)
      × IsNewListener suite left in_faults given out_faults may_give node place caller link listener
  IsStaff (Worker place) caller (Works worker) = IsNewWorker suite left in_faults given out_faults may_give node place caller worker
  IsStaff Keeper caller (Keeps keeper) = keeper ≡ new_keeper suite left in_faults given out_faults may_give node caller
  IsStaff (Connector place) caller (Connects connector) =
      (out : List ℕ × O) × (slice_get node.outgoing place ≡ Some out)
      × (connector ≡ new_connector suite left in_faults given out_faults may_give node caller out)
  IsStaff Rotator caller (Rotates rotator) = rotator ≡ new_rotator suite left in_faults given out_faults may_give node caller
  IsStaff Spare caller (Ends spare) = spare.seat ≡ fresh_seat node.hall caller
  IsStaff _ caller _ = ⊥

  -- the actor of a caller
  abbrev pub IsStaffAt : ℕ → NodeActor H R S N O C G K M D Z W → Type 0
  IsStaffAt caller actor = IsStaff (role_of (length node.incoming) node.workers (length node.outgoing) caller) caller actor

  -- an actor for each caller, in their order
  pub record AreStaff (actors : List (NodeActor H R S N O C G K M D Z W)) : Type 0 where
    pub many : length actors ≡ node.hall.callers
    pub each : AreEach IsStaffAt actors

  -- these actors are behind the others
  pub record AddsStaff (old new : List (NodeActor H R S N O C G K M D Z W)) : Type 0 where
    pub staff : List (NodeActor H R S N O C G K M D Z W)
    pub new_is : new ≡ old ++ staff
    pub are : AreStaff staff
