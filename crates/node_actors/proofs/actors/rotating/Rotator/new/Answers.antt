use Rattle.node_actors.proofs.Moments.{moves_first}
use Rattle.node_actors.proofs.TakeLogs.{takes_first}
use Rattle.node_actors.proofs.actors.rotating.Rotator.new.Goals as goal

pub invariant_of-result : goal.invariant_of-result
invariant_of-result g c = (c.requires.many, takes_first c.args.seat c.requires.nothing, moves_first (g.C.Clock.may_give c.args.clock.now) c.args.seat c.requires.nothing)
