use Rattle.std.proofs.Common.{◌≡◌, ◌≤◌, ◌++◌, length, vec_len, vec_capacity}
use Rattle.std.specs.List.{AllZip}
use Rattle.std.specs.Vec.Iter.{into_iter_items, into_iter_len}
use Rattle.node_run.specs.Crews.{HasLink}
use Rattle.node_run.proofs.life.partings.end_feeds.Given as goal

abbrev pub invariant-loop-left : goal.invariant-loop-left
invariant-loop-left g l = record {
  whole : into_iter_items l.fn.lefts ≡ l.yielded ++ into_iter_items l.left-iterator;
  count : into_iter_len l.left-iterator ≡ length (into_iter_items l.left-iterator);
  links : AllZip HasLink l.yielded l.links.items;
  len : vec_len l.links ≡ length l.yielded;
  room : length l.feeds.value.items ≤ vec_capacity l.links;
}
