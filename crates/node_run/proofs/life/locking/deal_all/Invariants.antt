use Rattle.std.proofs.Common.{◌≡◌, ◌++◌, length, map}
use Rattle.std.specs.Prelude.{vec_capacity}
use Rattle.std.specs.Vec.Iter.{into_iter_items}
use Rattle.node_run.proofs.Filling.{AreFilled}
use Rattle.node_run.proofs.life.locking.deal_all.Given as goal

abbrev pub invariant-loop-one : goal.invariant-loop-one
invariant-loop-one g l = record {
  left : l.fn.made.items ≡ l.yielded ++ into_iter_items l.one-iterator;
  locks : l.locks.items ≡ map (λ one. one.lock) l.yielded;
  room : vec_capacity l.locks ≡ vec_capacity l.fn.locks;
  hands : AreFilled l.locks.items (length l.fn.hands.items) (length l.fn.made.items) l.hands.items;
}
