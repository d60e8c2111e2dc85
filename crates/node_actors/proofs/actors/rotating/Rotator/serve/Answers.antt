use Rattle.node_actors.proofs.Connecting.{rotating_first, rotating_then}
use Rattle.node_actors.proofs.actors.rotating.Rotator.serve.Goals as goal

pub loop-init : goal.loop-init
loop-init g c = rotating_first _

pub returns-then-round-clause-kept : goal.returns-then-round-clause-kept
returns-then-round-clause-kept g c = rotating_then _ _ _ c.loop.invariant c.round.ensures.kept

pub returns-then-round-clause-drained : goal.returns-then-round-clause-drained
returns-then-round-clause-drained g c = c.round.ensures.drained c.if-round.true

pub loop-preserved : goal.loop-preserved
loop-preserved g c = rotating_then _ _ _ c.loop.invariant c.round.ensures.kept
