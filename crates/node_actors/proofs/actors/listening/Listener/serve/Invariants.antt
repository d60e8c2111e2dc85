use Rattle.node_actors.specs.Listening.{KeepsListening}
use Rattle.node_actors.proofs.actors.listening.Listener.serve.Given as goal

abbrev pub invariant-loop : goal.invariant-loop
invariant-loop g l = KeepsListening l.initial.self l.self
