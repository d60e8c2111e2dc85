use Rattle.std.proofs.Common.{◌≡◌}
use Rattle.node_actors.specs.Queues.{marks}
use Rattle.node_actors.proofs.tests.listen.Given as goal

abbrev pub invariant-loop-number : goal.invariant-loop-number
invariant-loop-number g l = (l.sender.queue ≡ l.queue) × (marks l.sender.pushed ≡ 0)
