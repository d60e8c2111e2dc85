use Rattle.std.proofs.Common.{◌≡◌, ◌++◌, length, map}
use Rattle.std.specs.Vec.Iter.{into_iter_items, into_iter_len}
use Rattle.node_run.specs.Closings.{AreColumns}
use Rattle.node_run.proofs.Columns.{HaveRoom}
use Rattle.node_run.proofs.life.unused.turn_round.Given as goal

abbrev pub invariant-loop-hand : goal.invariant-loop-hand
invariant-loop-hand g l = record {
  whole : l.yielded ++ into_iter_items l.hand-iterator ≡ l.fn.hands.items;
  count : into_iter_len l.hand-iterator ≡ length (into_iter_items l.hand-iterator);
  many : length l.lists.items ≡ length l.fn.lists.items;
  columns : AreColumns (map (λ hand. hand.items) l.yielded) l.lists.items;
  room : HaveRoom (length l.fn.hands.items) l.lists.items;
}
