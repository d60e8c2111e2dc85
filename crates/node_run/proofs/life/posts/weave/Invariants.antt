use Rattle.std.proofs.Common.{◌≡◌, ◌+◌, drop, length}
use Rattle.std.specs.Vec.Iter.{into_iter_items, into_iter_len}
use Rattle.node_run.proofs.Weaving.{AreWovenBelow}
use Rattle.node_run.proofs.life.posts.weave.Given as goal

abbrev pub invariant-loop-even : goal.invariant-loop-even
invariant-loop-even g l = record {
  evens_left : into_iter_items l.even-iterator ≡ drop (length l.yielded) l.fn.evens.items;
  count : length l.yielded + into_iter_len l.even-iterator ≡ length l.fn.evens.items;
  odds_left : into_iter_items l.rest ≡ drop (length l.yielded) l.fn.odds.items;
  woven : AreWovenBelow l.fn.evens.items l.fn.odds.items l.woven.items (length l.yielded);
}
