use Rattle.node_actors.proofs.Working.{keeps_then}
use Rattle.node_actors.proofs.actors.working.Worker.serve.Goals as goal

pub loop-preserved : goal.loop-preserved
loop-preserved g c = keeps_then _ _ _ c.loop.invariant c.work.ensures
