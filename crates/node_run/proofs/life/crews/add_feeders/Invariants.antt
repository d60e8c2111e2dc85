use Rattle.std.proofs.Common.{◌≡◌, ◌+◌, ◌++◌, length, vec_len, vec_capacity}
use Rattle.std.specs.Vec.Iter.{into_iter_items, into_iter_len}
use Rattle.node_run.specs.Crews.{AddsFeeders}
use Rattle.node_run.proofs.life.crews.add_feeders.Given as goal

abbrev pub invariant-loop-feed : goal.invariant-loop-feed
invariant-loop-feed g l = record {
  whole : l.fn.feeds.items ≡ l.yielded ++ into_iter_items l.feed-iterator;
  count : into_iter_len l.feed-iterator ≡ length (into_iter_items l.feed-iterator);
  added : AddsFeeders l.yielded l.fn.actors.items l.actors.items;
  len : vec_len l.actors ≡ vec_len l.fn.actors + length l.yielded;
  room : vec_capacity l.actors ≡ vec_capacity l.fn.actors;
}
