use Rattle.std.proofs.Common.{List, ◌+◌, map, vec_len}
use Rattle.std.specs.Prelude.{◌≤◌, vec_capacity}
use Rattle.std.specs.List.{AllZip}
use Rattle.node_actors.specs.Gates.{AreFrom}
use Rattle.node_actors.proofs.spawner.running.join_all.Given as goal

abbrev pub invariant-loop-thread : goal.invariant-loop-thread
invariant-loop-thread g l = (done : List g.row.A.Denot) × AreFrom l.go.of done l.actors.value.items (map (λ t. t.promise) l.threads.items) × AllZip g.A.Actor.gives done l.answers.items × (vec_len l.threads + vec_len l.answers ≤ vec_capacity l.answers)

abbrev pub decreases-loop-thread : goal.decreases-loop-thread
decreases-loop-thread g l = goal.left-loop-thread g l
