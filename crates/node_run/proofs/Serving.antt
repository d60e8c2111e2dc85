-- The promise of a node, once it has ended.
use Rattle.std.proofs.Common.{◌∙◌, ℕ, List, Option}
use Rattle.std.specs.Prelude.{All}
use Rattle.mix_base.specs.Suites.{SuiteMeaning}
use Rattle.mix_shard.specs.Items.{Item}
use Rattle.mix_shard.specs.Shards.{IsKept, ShardState}
use Rattle.mix_shard.specs.declared.entries.Told.{Told}
use Rattle.turn_lock.specs.Seen.{Caller}
use Rattle.node_actors.specs.declared.actors.works.Left.{Left}
use Rattle.node_run.specs.Lefts.{Staffing}
use Rattle.node_run.specs.Served.{Served}
use Rattle.node_run.proofs.Arrived.{arrivals}
use Rattle.node_run.proofs.Claiming.{moves}
use Rattle.node_run.proofs.HandingOn.{hand_ons}
use Rattle.node_run.proofs.Joining.{HasEnded}
use Rattle.node_run.proofs.Living.{lives, rests}
use Rattle.node_run.proofs.Timing.{moments}

pub served : {N O C : Type 0} (tells : Type 0) (suite : SuiteMeaning) (left : N → Option (List ℕ)) (in_faults : N → ℕ) (given : O → Option (List (List ℕ))) (out_faults : O → ℕ)
    (may_give : C → ℕ → Type 0) (node : Staffing N O C) (lefts : List (Left (Caller Told) Item N O)) (shards : List ShardState)
    → HasEnded suite left in_faults given out_faults may_give node lefts shards → All (IsKept tells suite) shards
    → Served tells suite left in_faults given out_faults may_give node lefts shards
served tells suite left in_faults given out_faults may_give node lefts shards ended kept = record {
  callers = ended.are.many ∙ ended.callers_are;
  lives = lives suite left in_faults given out_faults may_give node lefts shards ended tells kept;
  arrivals = arrivals suite left in_faults given out_faults may_give node lefts shards ended;
  moves = moves suite left in_faults given out_faults may_give node lefts shards ended;
  hand_ons = hand_ons suite left in_faults given out_faults may_give node lefts shards ended tells kept;
  rests = rests suite left in_faults given out_faults may_give node lefts shards ended tells kept;
  moments = moments suite left in_faults given out_faults may_give node lefts shards ended;
}
