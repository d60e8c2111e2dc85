-- Actors are put one behind the other; and what they leave is what each caller's role says.
use Rattle.std.proofs.Common.{◌≡◌, ℕ, zero, suc, List, [], ◌∷◌, length, refl, subst, ◌∙◌, Option, Some}
use Rattle.std.specs.Prelude.{slice_get}
use Rattle.std.specs.List.{AllZip}
use Rattle.std.proofs.lemmas.Slice.Zip.{AllZip-long}
use Rattle.node_actors.proofs.Seating.{some_same}
use Rattle.mix_base.specs.Suites.{SuiteMeaning}
use Rattle.mix_shard.specs.Items.{Item}
use Rattle.mix_shard.specs.declared.entries.Told.{Told}
use Rattle.turn_lock.specs.Seen.{Caller}
use Rattle.node_actors.specs.Acting.{Gives}
use Rattle.node_actors.specs.Logging.{LeavesConnector, LeavesKeeper, LeavesRotator, LeavesSpare}
use Rattle.node_actors.specs.declared.actors.crew.NodeActor.{NodeActor}
use Rattle.node_actors.specs.declared.actors.crew.NodeActor.TheVariants.{Listens, Works, Connects, Keeps, Rotates, Ends, Feeds}
use Rattle.node_actors.specs.declared.actors.works.Left.{Left}
use Rattle.node_run.specs.Lefts.{AreLeft, LeftAs, Staffing}
use Rattle.node_run.specs.Roles.{role_of}
use Rattle.node_run.specs.Posts.{AddsEach}
use Rattle.node_run.specs.Staffs.{AddsStaff, AreStaff, IsStaff, IsStaffAt}
use Rattle.node_run.specs.declared.roles.Role.{Role}
use Rattle.node_run.specs.declared.roles.Role.TheVariants.{Listener, Worker, Keeper, Connector, Rotator, Spare}

-- the element of the first list beside one of the second
pub zipped_at : {X Y : Type 0} (Are : X → Y → Type 0) (xs : List X) (ys : List Y) → AllZip Are xs ys → (i : ℕ) (y : Y) → slice_get ys i ≡ Some y
    → (x : X) × (slice_get xs i ≡ Some x) × Are x y
zipped_at Are [] [] all i y at = absurd (cc)
zipped_at Are [] (y ∷ ys) all i one at = absurd all
zipped_at Are (x ∷ xs) [] all i y at = absurd (cc)
zipped_at {Y = Y} Are (x ∷ xs) (y ∷ ys) all zero one at = (x, refl, subst (λ (z : Y). Are x z) (some_same y one at) all.0)
zipped_at Are (x ∷ xs) (y ∷ ys) all (suc i) one at = zipped_at Are xs ys all.1 i one at

module _ {H R S N O C G K M D Z W : Type 0} (suite : SuiteMeaning) (may_give : C → ℕ → Type 0) (left : N → Option (List ℕ)) (in_faults : N → ℕ)
    (given : O → Option (List (List ℕ))) (out_faults : O → ℕ) (node : Staffing N O C) where
  -- as many as there are callers
  pub all_staffed : (first now : List (NodeActor H R S N O C G K M D Z W)) (many : ℕ) → AddsEach (IsStaffAt suite may_give left in_faults given out_faults node) many first now
      → many ≡ node.hall.callers → AddsStaff suite may_give left in_faults given out_faults node first now
  all_staffed first now many adds all = record { staff = adds.added; new_is = adds.new_is; are = record { many = adds.many_are ∙ all; each = adds.each } }

  -- ---- what they leave

  -- a caller of this role left what its actor gives
  left_by : (role : Role) (caller : ℕ) (actor : NodeActor H R S N O C G K M D Z W) (gave : Left (Caller Told) Item N O) → IsStaff suite may_give left in_faults given out_faults node role caller actor
      → Gives suite may_give left in_faults given out_faults actor gave → LeftAs suite left in_faults given out_faults may_give node role caller gave
  left_by (Listener place) caller (Listens listener) gave is gives = (is.0, is.1, listener, is.2, gives)
  left_by (Listener place) caller (Works worker) gave is gives = absurd is
  left_by (Listener place) caller (Connects connector) gave is gives = absurd is
  left_by (Listener place) caller (Keeps keeper) gave is gives = absurd is
  left_by (Listener place) caller (Rotates rotator) gave is gives = absurd is
  left_by (Listener place) caller (Ends spare) gave is gives = absurd is
  left_by (Listener place) caller (Feeds feeder) gave is gives = absurd is
  left_by (Worker place) caller (Works worker) gave is gives = (worker, is, gives)
  left_by (Worker place) caller (Listens listener) gave is gives = absurd is
  left_by (Worker place) caller (Connects connector) gave is gives = absurd is
  left_by (Worker place) caller (Keeps keeper) gave is gives = absurd is
  left_by (Worker place) caller (Rotates rotator) gave is gives = absurd is
  left_by (Worker place) caller (Ends spare) gave is gives = absurd is
  left_by (Worker place) caller (Feeds feeder) gave is gives = absurd is
  left_by Keeper caller (Keeps keeper) gave is gives =
      subst (λ k. LeavesKeeper suite may_give k gave.passes.items gave.work) is gives
  left_by Keeper caller (Listens listener) gave is gives = absurd is
  left_by Keeper caller (Works worker) gave is gives = absurd is
  left_by Keeper caller (Connects connector) gave is gives = absurd is
  left_by Keeper caller (Rotates rotator) gave is gives = absurd is
  left_by Keeper caller (Ends spare) gave is gives = absurd is
  left_by Keeper caller (Feeds feeder) gave is gives = absurd is
  left_by (Connector place) caller (Connects connector) gave is gives =
      (is.0, is.1, subst (λ c. LeavesConnector suite may_give given out_faults c gave.passes.items gave.work) is.2 gives)
  left_by (Connector place) caller (Listens listener) gave is gives = absurd is
  left_by (Connector place) caller (Works worker) gave is gives = absurd is
  left_by (Connector place) caller (Keeps keeper) gave is gives = absurd is
  left_by (Connector place) caller (Rotates rotator) gave is gives = absurd is
  left_by (Connector place) caller (Ends spare) gave is gives = absurd is
  left_by (Connector place) caller (Feeds feeder) gave is gives = absurd is
  left_by Rotator caller (Rotates rotator) gave is gives =
      subst (λ r. LeavesRotator may_give r gave.passes.items gave.work) is gives
  left_by Rotator caller (Listens listener) gave is gives = absurd is
  left_by Rotator caller (Works worker) gave is gives = absurd is
  left_by Rotator caller (Connects connector) gave is gives = absurd is
  left_by Rotator caller (Keeps keeper) gave is gives = absurd is
  left_by Rotator caller (Ends spare) gave is gives = absurd is
  left_by Rotator caller (Feeds feeder) gave is gives = absurd is
  left_by Spare caller (Ends spare) gave is gives = subst (λ s. LeavesSpare s gave.passes.items gave.work) is gives
  left_by Spare caller (Listens listener) gave is gives = absurd is
  left_by Spare caller (Works worker) gave is gives = absurd is
  left_by Spare caller (Connects connector) gave is gives = absurd is
  left_by Spare caller (Keeps keeper) gave is gives = absurd is
  left_by Spare caller (Rotates rotator) gave is gives = absurd is
  left_by Spare caller (Feeds feeder) gave is gives = absurd is

  pub left_of_staff : (actors : List (NodeActor H R S N O C G K M D Z W)) (lefts : List (Left (Caller Told) Item N O)) → AreStaff suite may_give left in_faults given out_faults node actors
      → AllZip (Gives suite may_give left in_faults given out_faults) actors lefts → AreLeft suite left in_faults given out_faults may_give node lefts
  left_of_staff actors lefts are gives = record {
    many = AllZip-long (Gives suite may_give left in_faults given out_faults) actors lefts gives ∙ are.many;
    each = λ caller gave at.
        let one = zipped_at (Gives suite may_give left in_faults given out_faults) actors lefts gives caller gave at in
        left_by (role_of (length node.incoming) node.workers (length node.outgoing) caller) caller one.0 gave (are.each caller one.0 one.1) one.2;
  }
