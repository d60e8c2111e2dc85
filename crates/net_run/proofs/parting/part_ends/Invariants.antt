use Rattle.std.proofs.Common.{◌≡◌, ◌++◌, ◌≤◌, length, map, vec_len, vec_capacity}
use Rattle.std.specs.Vec.Iter.{into_iter_items, into_iter_len}
use Rattle.net_run.specs.Parting.{local_in, shards_left}
use Rattle.net_run.proofs.parting.part_ends.Given as goal

abbrev pub invariant-ends : goal.invariant-ends
invariant-ends g l = record {
  whole : l.fn.ends.items ≡ l.yielded ++ into_iter_items l.end-iterator;
  rest : into_iter_len l.end-iterator ≡ length (into_iter_items l.end-iterator);
  shards : l.shards.items ≡ map shards_left l.yielded;
  locals : l.locals.items ≡ map local_in l.yielded;
  shards_len : vec_len l.shards ≡ length l.yielded;
  locals_len : vec_len l.locals ≡ length l.yielded;
  shards_room : length l.fn.ends.items ≤ vec_capacity l.shards;
  locals_room : length l.fn.ends.items ≤ vec_capacity l.locals;
}
