use Rattle.std.proofs.Common.{◌+◌, map, vec_len}
use Rattle.std.specs.Prelude.{◌≤◌, vec_capacity}
use Rattle.node_actors.specs.Gates.{AreFrom}
use Rattle.node_actors.proofs.spawner.running.start_all.Given as goal

abbrev pub invariant-loop-actor : goal.invariant-loop-actor
invariant-loop-actor g l = record {
  are : AreFrom l.gate.id l.actors.items l.fn.actors.items (map (λ t. t.promise) l.threads.items);
  threads_fit : vec_len l.actors + vec_len l.threads ≤ vec_capacity l.threads;
  actors_fit : vec_len l.actors + vec_len l.threads ≤ vec_capacity l.actors;
}

abbrev pub decreases-loop-actor : goal.decreases-loop-actor
decreases-loop-actor g l = vec_len l.actors
