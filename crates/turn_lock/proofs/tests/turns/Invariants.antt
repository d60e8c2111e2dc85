use Rattle.turn_lock.specs.Seen.{IsIdle}
use Rattle.turn_lock.proofs.tests.turns.Given as goal

abbrev pub invariant-loop : goal.invariant-loop
invariant-loop g l = IsIdle l.lock l.number l.pass
