use Rattle.std.proofs.Common.{None, refl}
use Rattle.node_actors.proofs.Turning.{adds_none}
use Rattle.node_actors.proofs.actors.turns.rotate_once.Goals as goal

pub returns-then-least-floor-clause-adds : goal.returns-then-least-floor-clause-adds
returns-then-least-floor-clause-adds g c = adds_none g.R.Rack.tells g.S.Suite.meaning c.args.caller _ _ (None, refl)
