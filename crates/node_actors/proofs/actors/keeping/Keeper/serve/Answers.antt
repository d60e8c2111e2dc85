use Rattle.node_actors.proofs.Connecting.{keeping_first, keeping_then}
use Rattle.node_actors.proofs.actors.keeping.Keeper.serve.Goals as goal

pub loop-init : goal.loop-init
loop-init g c = keeping_first _

pub loop-preserved : goal.loop-preserved
loop-preserved g c = keeping_then _ _ _ c.loop.invariant c.round-sight.ensures

pub returns-then-not-goes_on : goal.returns-then-not-goes_on
returns-then-not-goes_on g c = keeping_then _ _ _ c.loop.invariant c.round-sight.ensures
