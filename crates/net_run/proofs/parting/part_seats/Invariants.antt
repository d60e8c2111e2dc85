use Rattle.std.proofs.Common.{◌≡◌, ◌++◌, ◌≤◌, length, map, vec_len, vec_capacity}
use Rattle.std.specs.Vec.Iter.{into_iter_items, into_iter_len}
use Rattle.net_run.specs.Parting.{shards_of_seat}
use Rattle.net_run.proofs.parting.part_seats.Given as goal

abbrev pub invariant-seats : goal.invariant-seats
invariant-seats g l = record {
  whole : l.fn.seats.items ≡ l.yielded ++ into_iter_items l.seat-iterator;
  rest : into_iter_len l.seat-iterator ≡ length (into_iter_items l.seat-iterator);
  shards : l.shards.items ≡ map shards_of_seat l.yielded;
  len : vec_len l.shards ≡ length l.yielded;
  room : length l.fn.seats.items ≤ vec_capacity l.shards;
}
