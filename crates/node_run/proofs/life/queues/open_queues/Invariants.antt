use Rattle.std.proofs.Common.{◌≡◌, length}
use Rattle.node_run.specs.Posts.{AreReceivers}
use Rattle.node_run.proofs.life.queues.open_queues.Given as goal

abbrev pub invariant-opening : goal.invariant-opening
invariant-opening l = record { many : length l.queues.items ≡ l.counter; receivers : AreReceivers 0 l.queues.items l.receivers.items }
