use Rattle.node_actors.proofs.Connecting.{connecting_first, connecting_then}
use Rattle.node_actors.proofs.actors.connecting.Connector.serve.Goals as goal

pub loop-init : goal.loop-init
loop-init g c = connecting_first _

pub loop-preserved : goal.loop-preserved
loop-preserved g c = connecting_then _ _ _ c.loop.invariant c.round-sight.ensures

pub returns-then-not-goes_on : goal.returns-then-not-goes_on
returns-then-not-goes_on g c = connecting_then _ _ _ c.loop.invariant c.round-sight.ensures
