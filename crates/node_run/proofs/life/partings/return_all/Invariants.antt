use Rattle.std.proofs.Common.{◌≡◌, ◌≤◌, ◌++◌, length, map, vec_len, vec_capacity}
use Rattle.std.specs.Vec.Iter.{into_iter_items, into_iter_len}
use Rattle.node_run.specs.Crews.{AreAllHands}
use Rattle.node_run.specs.Houses.{kept_in}
use Rattle.node_run.specs.Seats.{kept_of}
use Rattle.node_run.proofs.life.partings.return_all.Given as goal

abbrev pub invariant-loop-house : goal.invariant-loop-house
invariant-loop-house g l = record {
  whole : l.fn.houses.items ≡ l.yielded ++ into_iter_items l.house-iterator;
  count : into_iter_len l.house-iterator ≡ length (into_iter_items l.house-iterator);
  hands : AreAllHands (into_iter_items l.house-iterator) (into_iter_items l.hands);
  kept : map kept_of l.seats.items ≡ map kept_in l.yielded;
  len : vec_len l.seats ≡ length l.yielded;
  room : length l.fn.houses.items ≤ vec_capacity l.seats;
}
