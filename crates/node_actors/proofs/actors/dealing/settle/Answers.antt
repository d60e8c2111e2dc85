use Rattle.node_actors.proofs.Fating.{cause_of}
use Rattle.node_actors.proofs.actors.dealing.settle.Goals as goal

pub returns-in-Ok-clause-cause : goal.returns-in-Ok-clause-cause
returns-in-Ok-clause-cause g c = rw (← c.seat.view_is)
    (cause_of g.S.Suite.meaning c.seat.inside.setup c.args.number c.args.receipt c.args.packet.items c.in-Ok.held c.admit.result c.in-Ok.ensures.held c.admit.ensures.item c.admit.ensures.answered)

pub returns-in-Err-clause-cause : goal.returns-in-Err-clause-cause
returns-in-Err-clause-cause g c = rw (← c.seat.view_is) c.in-Err.ensures.cause
