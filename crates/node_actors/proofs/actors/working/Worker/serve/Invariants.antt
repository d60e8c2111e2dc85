use Rattle.node_actors.specs.Working.{KeepsWorking}
use Rattle.node_actors.proofs.actors.working.Worker.serve.Given as goal

abbrev pub invariant-loop : goal.invariant-loop
invariant-loop g l = KeepsWorking l.initial.self l.self
