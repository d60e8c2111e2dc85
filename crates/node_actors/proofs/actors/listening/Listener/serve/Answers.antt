use Rattle.node_actors.proofs.Listening.{keeps_first, keeps_then}
use Rattle.node_actors.proofs.actors.listening.Listener.serve.Goals as goal

pub loop-init : goal.loop-init
loop-init g c = keeps_first _

pub loop-preserved : goal.loop-preserved
loop-preserved g c = keeps_then _ _ _ c.loop.invariant c.listen.ensures.kept

pub returns-in-Some-listen-clause-kept : goal.returns-in-Some-listen-clause-kept
returns-in-Some-listen-clause-kept g c = keeps_then _ _ _ c.loop.invariant c.listen.ensures.kept
