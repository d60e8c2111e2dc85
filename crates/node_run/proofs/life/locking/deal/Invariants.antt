use Rattle.std.proofs.Common.{◌≡◌, drop}
use Rattle.std.specs.Vec.Iter.{into_iter_items}
use Rattle.node_run.proofs.Dealing.{AreDealtBelow}
use Rattle.node_run.proofs.life.locking.deal.Given as goal

abbrev pub invariant-loop-place : goal.invariant-loop-place
invariant-loop-place g l = record {
  left : into_iter_items l.rest ≡ drop l.place l.fn.cards.items;
  dealt : AreDealtBelow l.fn.cards.items l.initial.hands.items l.hands.items l.place;
}
