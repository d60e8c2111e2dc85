use Rattle.std.proofs.Common.{◌≡◌, ◌≤◌, ◌++◌, length, vec_capacity}
use Rattle.std.specs.Vec.Iter.{into_iter_items}
use Rattle.node_run.proofs.life.partings.take_next.Given as goal

abbrev pub invariant-loop : goal.invariant-loop
invariant-loop g l = record {
  taken_are : into_iter_items l.initial.items ≡ l.taken.items ++ into_iter_items l.items;
  long : length l.taken.items ≡ l.counter;
  room : l.many ≤ vec_capacity l.taken;
}
