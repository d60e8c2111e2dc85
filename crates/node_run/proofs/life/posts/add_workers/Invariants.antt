use Rattle.std.proofs.Common.{◌≡◌, ◌++◌, length}
use Rattle.std.specs.Vec.Iter.{into_iter_items}
use Rattle.node_run.specs.Posts.{AddsEach, HasReceiver}
use Rattle.node_run.proofs.life.posts.add_workers.Given as goal

abbrev pub invariant-loop-receiver : goal.invariant-loop-receiver
invariant-loop-receiver g l = record {
  left : l.fn.receivers.items ≡ l.yielded ++ into_iter_items l.receiver-iterator;
  place : l.place ≡ length l.yielded;
  posts : AddsEach (HasReceiver l.fn.receivers.items) (length l.yielded) l.initial.posts.items l.posts.items;
}
