use Rattle.std.proofs.Common.{◌≡◌, ◌++◌, length}
use Rattle.std.specs.Vec.Iter.{into_iter_items}
use Rattle.node_run.specs.Posts.{AddsEach, IsConnector}
use Rattle.node_run.proofs.life.posts.add_connectors.Given as goal

abbrev pub invariant-loop-hop : goal.invariant-loop-hop
invariant-loop-hop g l = record {
  left : l.fn.outgoing.items ≡ l.yielded ++ into_iter_items l.hop-iterator;
  posts : AddsEach (IsConnector l.fn.outgoing.items) (length l.yielded) l.initial.posts.items l.posts.items;
}
