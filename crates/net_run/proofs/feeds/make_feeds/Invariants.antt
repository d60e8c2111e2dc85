use Rattle.std.proofs.Common.{◌≡◌, ◌++◌, length}
use Rattle.std.specs.List.{AllZip}
use Rattle.std.specs.Vec.Iter.{into_iter_items, into_iter_len}
use Rattle.net_run.specs.Feeds.{IsFeedFor}
use Rattle.net_run.proofs.feeds.make_feeds.Given as goal

abbrev pub invariant-links : goal.invariant-links
invariant-links g l = record {
  whole : l.fn.client.items ≡ l.yielded ++ into_iter_items l.id-iterator;
  rest : into_iter_len l.id-iterator ≡ length (into_iter_items l.id-iterator);
  feeds : AllZip (IsFeedFor l.posts) l.yielded l.feeds.items;
}
