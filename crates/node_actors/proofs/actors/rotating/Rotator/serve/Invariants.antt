use Rattle.node_actors.specs.Connecting.{GoesOnRotating}
use Rattle.node_actors.proofs.actors.rotating.Rotator.serve.Given as goal

abbrev pub invariant-loop : goal.invariant-loop
invariant-loop g l = GoesOnRotating l.initial.self l.self
