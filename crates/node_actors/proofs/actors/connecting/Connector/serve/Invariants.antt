use Rattle.node_actors.specs.Connecting.{GoesOnConnecting}
use Rattle.node_actors.proofs.actors.connecting.Connector.serve.Given as goal

abbrev pub invariant-loop : goal.invariant-loop
invariant-loop g l = GoesOnConnecting l.initial.self l.self
