use Rattle.std.proofs.Common.{◌≡◌}
use Rattle.node_actors.proofs.tests.work.Given as goal

abbrev pub invariant-loop : goal.invariant-loop
invariant-loop g l = l.receiver.queue ≡ l.queue
