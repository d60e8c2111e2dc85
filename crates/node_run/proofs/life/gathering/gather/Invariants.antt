use Rattle.std.proofs.Common.{◌≡◌, ◌++◌, length}
use Rattle.std.specs.Vec.Iter.{into_iter_items, into_iter_len}
use Rattle.node_run.specs.Accounts.{hands_of}
use Rattle.node_run.specs.Closings.{AreColumns}
use Rattle.node_run.specs.Gatherings.{AreSorted, all_of, link_in, link_out_in, receiver_in}
use Rattle.node_run.proofs.Columns.{HaveRoom}
use Rattle.node_run.proofs.Sorting.{HaveRoomFor}
use Rattle.node_run.proofs.life.gathering.gather.Given as goal

abbrev pub invariant-loop-left : goal.invariant-loop-left
invariant-loop-left g l = record {
  whole : l.yielded ++ into_iter_items l.left-iterator ≡ l.fn.lefts.items;
  count : into_iter_len l.left-iterator ≡ length (into_iter_items l.left-iterator);
  many : length l.lists.items ≡ length l.fn.lists.items;
  columns : AreColumns (hands_of l.yielded) l.lists.items;
  lists_room : HaveRoom (length l.fn.lefts.items) l.lists.items;
  sorted : AreSorted l.yielded l.works;
  works_room : HaveRoomFor (length (all_of link_in l.fn.lefts.items)) (length (all_of receiver_in l.fn.lefts.items)) (length (all_of link_out_in l.fn.lefts.items)) l.works;
}
