-- What a node promises once it has ended.
use Rattle.std.specs.Prelude.{◌≡◌, ℕ, List, Option, length}
use Rattle.mix_base.specs.Suites.{SuiteMeaning}
use Rattle.mix_shard.specs.Items.{Item}
use Rattle.mix_shard.specs.Shards.{ShardState}
use Rattle.mix_shard.specs.declared.entries.Told.{Told}
use Rattle.turn_lock.specs.Seen.{Caller}
use Rattle.node_actors.specs.declared.actors.works.Left.{Left}
use Rattle.node_run.specs.Accounts.{tales_since}
use Rattle.node_run.specs.Arrivals.{Arrivals}
use Rattle.node_run.specs.HandOns.{HandOns}
use Rattle.node_run.specs.Lefts.{Staffing}
use Rattle.node_run.specs.Lives.{Lives, Rests}
use Rattle.node_run.specs.Moments.{KeepsMoments}
use Rattle.node_run.specs.Moves.{Moves}
use Rattle.node_run.specs.Roles.{callers_for}

-- by what each of its callers left and by its shards: what became of the shards; what became of the packets that arrived; in
-- which order they were claimed; what was handed on; and that each moment is the clock's
pub record Served {N O C : Type 0} (tells : Type 0) (suite : SuiteMeaning) (left : N → Option (List ℕ)) (in_faults : N → ℕ) (given : O → Option (List (List ℕ))) (out_faults : O → ℕ)
    (may_give : C → ℕ → Type 0) (node : Staffing N O C) (lefts : List (Left (Caller Told) Item N O)) (shards : List ShardState) : Type 0 where
  pub callers : length lefts ≡ callers_for (length node.incoming) node.workers (length node.outgoing)
  pub lives : Lives tells suite node.hall.locks lefts shards
  pub arrivals : Arrivals suite left in_faults node lefts (tales_since node.hall.locks shards)
  pub moves : Moves (length node.incoming) (tales_since node.hall.locks shards)
  pub hand_ons : HandOns suite given out_faults node tells lefts (tales_since node.hall.locks shards)
  pub rests : Rests tells shards
  pub moments : KeepsMoments (may_give node.clock) lefts (tales_since node.hall.locks shards)
