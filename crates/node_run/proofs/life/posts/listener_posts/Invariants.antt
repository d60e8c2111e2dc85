use Rattle.std.proofs.Common.{◌≡◌, ◌++◌, length}
use Rattle.std.specs.Vec.Iter.{into_iter_items}
use Rattle.node_run.specs.Posts.{AreEach, AreReceivers, IsListener}
use Rattle.node_run.proofs.life.posts.listener_posts.Given as goal

abbrev pub invariant-loop-link : goal.invariant-loop-link
invariant-loop-link g l = record {
  left : l.fn.incoming.items ≡ l.yielded ++ into_iter_items l.link-iterator;
  many : length l.posts.items ≡ length l.yielded;
  receivers : AreReceivers (length l.yielded) l.queues l.receivers.items;
  posts : AreEach (IsListener l.queues l.size l.fn.incoming.items) l.posts.items;
}
