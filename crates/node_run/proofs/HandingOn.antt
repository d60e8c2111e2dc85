-- What a node handed on, once it has ended.
use Rattle.std.proofs.Common.{◌≡◌, ℕ, ◌+◌, ◌++◌, ◌*◌, List, length, subst, Option, Some, Ok}
use Rattle.std.specs.Prelude.{All, slice_get}
use Rattle.std.proofs.lemmas.List.Elements.{All-contains}
use Rattle.mix_base.specs.Suites.{SuiteMeaning}
use Rattle.mix_shard.specs.Items.{Item, IsHeld, peeled}
use Rattle.mix_shard.specs.Laws.{NoneTwice, accepted}
use Rattle.mix_shard.specs.Shards.{IsKept, ShardState}
use Rattle.mix_shard.specs.Tale.{Tale, began}
use Rattle.mix_shard.specs.declared.entries.Told.{Told}
use Rattle.mix_shard.specs.declared.setup.Setup.{Setup}
use Rattle.mix_shard.proofs.Covering.{accepted_once}
use Rattle.turn_lock.specs.Seen.{Caller}
use Rattle.node_actors.specs.Fates.{IsUnwrapped}
use Rattle.node_actors.specs.Logging.{LeavesConnector, LeavesKeeper}
use Rattle.node_actors.specs.declared.actors.takings.Taking.{Taking}
use Rattle.node_actors.specs.declared.actors.works.Left.{Left}
use Rattle.node_actors.specs.declared.actors.works.Work.{Work}
use Rattle.node_actors.specs.declared.actors.works.Work.TheVariants.{Connected, Kept}
use Rattle.node_actors.proofs.Tallies.{tale_split}
use Rattle.node_run.specs.Accounts.{takings_of, tales_since}
use Rattle.node_run.specs.HandOns.{AcceptsOnceBetween, HandOns, HasHandedOver, HasKept, HasTakings, IsAcceptedAt}
use Rattle.node_run.specs.Lefts.{LeftAs, Staffing, new_connector, new_keeper}
use Rattle.node_run.specs.declared.roles.Role.{Role}
use Rattle.node_run.proofs.Accepting.{begun, once, pairs_once, takes_logged, taking_of}
use Rattle.node_run.proofs.Between.{once_between}
use Rattle.node_run.proofs.Elements.{all_each, at_one, get_low}
use Rattle.node_run.proofs.Joining.{HasEnded, account_of}
use Rattle.node_run.proofs.Playing.{is_connector, is_keeper}

unwrapped_is : (suite : SuiteMeaning) (setup : Setup) (item : Item) → IsHeld suite item → item.setup ≡ setup → IsUnwrapped suite setup item.number item.at item.packet item
unwrapped_is suite setup item held same = record {
  setup_is = same;
  opens = subst (λ (s : Setup). peeled suite s item.number item.at item.packet ≡ Some (Ok item)) same held.opens;
}

module _ {N O C : Type 0} (suite : SuiteMeaning) (left : N → Option (List ℕ)) (in_faults : N → ℕ) (given : O → Option (List (List ℕ))) (out_faults : O → ℕ)
    (may_give : C → ℕ → Type 0) (node : Staffing N O C) where
  keeper_kept : (passes : List (Caller Told)) (work : Work Item N O) → LeavesKeeper suite may_give (new_keeper suite left in_faults given out_faults may_give node 1) passes work
      → HasKept suite given out_faults node work
  keeper_kept passes (Kept local log unsent) leaves = leaves.1
  keeper_kept passes _ leaves = absurd leaves

  connector_handed : (caller : ℕ) (out : List ℕ × O) (passes : List (Caller Told)) (work : Work Item N O)
      → LeavesConnector suite may_give given out_faults (new_connector suite left in_faults given out_faults may_give node caller out) passes work
      → HasHandedOver suite given out_faults node out work
  connector_handed caller out passes (Connected hop link log unsent) leaves = (leaves.0, leaves.2)
  connector_handed caller out passes _ leaves = absurd leaves

  module _ (lefts : List (Left (Caller Told) Item N O)) (shards : List ShardState)
      (ended : HasEnded suite left in_faults given out_faults may_give node lefts shards) (tells : Type 0) (kept : All (IsKept tells suite) shards) where
    abbrev Gave : Type 0
    Gave = Left (Caller Told) Item N O

    abbrev tales : List (List Told)
    tales = tales_since node.hall.locks shards

    has_takings : (caller : ℕ) (gave : Gave) → slice_get lefts caller ≡ Some gave → HasTakings suite given out_faults node tales caller gave.work
    has_takings caller gave is =
        let accounted = account_of suite left in_faults given out_faults may_give node lefts shards ended caller gave is in
        record {
          takes_are = λ i tale at. takes_logged suite left in_faults given out_faults may_give node lefts shards ended tells kept i caller tale gave at is;
          accepted = all_each (IsAcceptedAt tales) (takings_of gave.work) (λ taking logged.
              let taken = taking_of suite left in_faults given out_faults may_give node lefts shards ended tells kept caller gave taking is logged in
              (taken.tale, taken.at, (taken.told, taken.found, taken.is_acceptance)));
          items = all_each (λ taking. let item = taking.item.value in IsUnwrapped suite node.hall.setup item.number item.at item.packet item) (takings_of gave.work) (λ taking logged.
              unwrapped_is suite node.hall.setup taking.item.value
              (All-contains (λ (t : Taking Item). IsHeld suite t.item.value) (takings_of gave.work) taking accounted.takes.items logged)
              (All-contains (λ (t : Taking Item). t.item.value.setup ≡ node.hall.setup) (takings_of gave.work) taking accounted.takes.setups logged));
          unsent = accounted.takes.unsent;
        }

    has_kept : (gave : Gave) → slice_get lefts 1 ≡ Some gave → HasKept suite given out_faults node gave.work
    has_kept gave is =
        keeper_kept gave.passes.items gave.work
        (subst (λ (r : Role). LeftAs suite left in_faults given out_faults may_give node r 1 gave)
        (is_keeper (length node.incoming) node.workers (length node.outgoing)) (ended.are.each 1 gave is))

    has_handed : (place : ℕ) (out : List ℕ × O) (gave : Gave) → slice_get node.outgoing place ≡ Some out → slice_get lefts (2 * place + 3) ≡ Some gave
        → HasHandedOver suite given out_faults node out gave.work
    has_handed place out gave out_is is =
        let low = get_low node.outgoing place out out_is in
        let leaves = subst (λ (r : Role). LeftAs suite left in_faults given out_faults may_give node r (2 * place + 3) gave)
        (is_connector (length node.incoming) node.workers (length node.outgoing) place low) (ended.are.each (2 * place + 3) gave is) in
        subst (λ (o : List ℕ × O). HasHandedOver suite given out_faults node o gave.work) (at_one node.outgoing place leaves.0 out leaves.1 out_is)
        (connector_handed (2 * place + 3) leaves.0 gave.passes.items gave.work leaves.2)

    -- where the racks tell, no shard accepts a pair twice
    all_once : tells → All (λ (shard : ShardState). NoneTwice (accepted shard.told)) shards
    all_once t = all_each (λ (shard : ShardState). NoneTwice (accepted shard.told)) shards (λ shard found.
        accepted_once tells t suite shard.terms (began shard.terms shard.first.areas) shard.state shard.told (All-contains (IsKept tells suite) shards shard kept found).tale)

    between : (i : ℕ) (tale : List Told) → slice_get tales i ≡ Some tale → AcceptsOnceBetween tale
    between i tale at first stretch last whole closed =
        let b = begun suite left in_faults given out_faults may_give node lefts shards ended tells kept i tale at in
        let front = tale_split tells suite b.shard.terms b.first b.shard.state first (stretch ++ last)
        (subst (λ (t : List Told). Tale tells suite b.shard.terms b.first t b.shard.state) whole b.tale_is) in
        let middle = tale_split tells suite b.shard.terms front.0 b.shard.state stretch last front.2 in
        once_between tells suite b.shard.terms front.0 middle.0 stretch middle.1 closed

    pub hand_ons : HandOns suite given out_faults node tells lefts tales
    hand_ons = record {
      takings = has_takings;
      local = has_kept;
      links = has_handed;
      once = once suite left in_faults given out_faults may_give node lefts shards ended tells kept;
      pairs_once = λ t. pairs_once suite left in_faults given out_faults may_give node lefts shards ended tells kept (all_once t);
      between = between;
    }
