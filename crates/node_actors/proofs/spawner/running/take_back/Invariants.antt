use Rattle.std.proofs.Common.{◌+◌, map, vec_len}
use Rattle.std.specs.Prelude.{◌≤◌, vec_capacity}
use Rattle.node_actors.specs.Gates.{AreFrom}
use Rattle.node_actors.proofs.spawner.running.take_back.Given as goal

abbrev pub invariant-loop-thread : goal.invariant-loop-thread
invariant-loop-thread g l = record {
  are : AreFrom l.order.of l.actors_back.items l.actors.value.items (map (λ t. t.promise) l.threads.items);
  fit : vec_len l.actors_back + vec_len l.threads ≤ vec_capacity l.actors_back;
}

abbrev pub decreases-loop-thread : goal.decreases-loop-thread
decreases-loop-thread g l = goal.left-loop-thread g l
