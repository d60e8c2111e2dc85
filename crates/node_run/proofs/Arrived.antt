-- What became of the packets that arrived at a node, once it has ended.
use Rattle.std.proofs.Common.{◌≡◌, ℕ, ◌*◌, List, length, subst, Option, Some}
use Rattle.std.specs.Prelude.{slice_get}
use Rattle.mix_base.specs.Suites.{SuiteMeaning}
use Rattle.mix_shard.specs.Items.{Item}
use Rattle.mix_shard.specs.Shards.{ShardState}
use Rattle.mix_shard.specs.declared.entries.Told.{Told}
use Rattle.turn_lock.specs.Seen.{Caller}
use Rattle.node_actors.specs.declared.actors.works.Left.{Left}
use Rattle.node_run.specs.Accounts.{tales_since}
use Rattle.node_run.specs.Arrivals.{Arrivals, HasFates, HasReadLink}
use Rattle.node_run.specs.Lefts.{LeftAs, Staffing}
use Rattle.node_run.specs.declared.roles.Role.{Role}
use Rattle.node_run.proofs.Arriving.{arrived_recorded, once, record_arrived}
use Rattle.node_run.proofs.Claiming.{claims_logged}
use Rattle.node_run.proofs.Elements.{at_one, get_low}
use Rattle.node_run.proofs.Joining.{HasEnded, account_of}
use Rattle.node_run.proofs.Outcomes.{reads}
use Rattle.node_run.proofs.Playing.{is_listener}

module _ {N O C : Type 0} (suite : SuiteMeaning) (left : N → Option (List ℕ)) (in_faults : N → ℕ) (given : O → Option (List (List ℕ))) (out_faults : O → ℕ)
    (may_give : C → ℕ → Type 0) (node : Staffing N O C) (lefts : List (Left (Caller Told) Item N O)) (shards : List ShardState)
    (ended : HasEnded suite left in_faults given out_faults may_give node lefts shards) where
  abbrev Gave : Type 0
  Gave = Left (Caller Told) Item N O

  abbrev tales : List (List Told)
  tales = tales_since node.hall.locks shards

  has_fates : (caller : ℕ) (gave : Gave) → slice_get lefts caller ≡ Some gave → HasFates suite left in_faults node tales caller gave.work
  has_fates caller gave is =
      let accounted = account_of suite left in_faults given out_faults may_give node lefts shards ended caller gave is in
      record {
        causes = accounted.deals.causes;
        dropped = accounted.deals.dropped;
        claims_are = λ i tale at. claims_logged suite left in_faults given out_faults may_give node lefts shards ended i caller tale gave at is;
      }

  has_read : (place : ℕ) (link : N) (gave : Gave) → slice_get node.incoming place ≡ Some link → slice_get lefts (2 * place) ≡ Some gave
      → HasReadLink suite left in_faults node place link gave.work
  has_read place link gave link_is is =
      let low = get_low node.incoming place link link_is in
      let leaves = subst (λ (r : Role). LeftAs suite left in_faults given out_faults may_give node r (2 * place) gave)
      (is_listener (length node.incoming) node.workers (length node.outgoing) place low) (ended.are.each (2 * place) gave is) in
      subst (λ (l : N). HasReadLink suite left in_faults node place l gave.work) (at_one node.incoming place leaves.0 link leaves.1 link_is)
      (reads suite left in_faults given out_faults may_give node place (2 * place) leaves.0 leaves.2 gave.passes.items gave.work ended.workers_are leaves.3 leaves.4)

  pub arrivals : Arrivals suite left in_faults node lefts tales
  arrivals = record {
    once = once suite left in_faults given out_faults may_give node lefts ended.are ended.settled ended.workers_are ended.callers_are ended.some;
    arrived = λ caller gave packet is. (
      λ found. record_arrived suite left in_faults given out_faults may_give node lefts ended.are ended.settled ended.workers_are ended.callers_are ended.some caller gave packet is found,
      λ came. arrived_recorded suite left in_faults given out_faults may_give node lefts ended.are ended.settled ended.workers_are ended.callers_are ended.some caller gave packet is came,
    );
    fates = has_fates;
    links = has_read;
  }
