use Rattle.node_actors.specs.Connecting.{GoesOnKeeping}
use Rattle.node_actors.proofs.actors.keeping.Keeper.serve.Given as goal

abbrev pub invariant-loop : goal.invariant-loop
invariant-loop g l = GoesOnKeeping l.initial.self l.self
