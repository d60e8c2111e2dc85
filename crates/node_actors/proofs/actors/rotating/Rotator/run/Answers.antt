use Rattle.std.proofs.Common.{subst, sym}
use Rattle.node_actors.specs.Connecting.{GoesOnRotating, RotatorState}
use Rattle.node_actors.specs.Seats.{AllSpent, ClaimsNothing, MovesAt}
use Rattle.node_actors.proofs.actors.rotating.Rotator.run.Goals as goal

pub returns-clause-seat : goal.returns-clause-seat
returns-clause-seat g c = subst (λ (r : RotatorState g.row.C.Denot). ClaimsNothing c.args.self.seat r.seat) (sym c.self.view_is) c.serve.ensures.kept.nothing

pub returns-clause-drained : goal.returns-clause-drained
returns-clause-drained g c = subst (λ (r : RotatorState g.row.C.Denot). AllSpent r.seat) (sym c.self.view_is) c.serve.ensures.drained

pub returns-clause-moves : goal.returns-clause-moves
returns-clause-moves g c =
    let served = subst (λ (r : RotatorState g.row.C.Denot). GoesOnRotating c.args.self r) (sym c.self.view_is) c.serve.ensures.kept in
    subst (λ (clock : g.row.C.Denot). MovesAt (g.C.Clock.may_give clock) c.self.inside.seat.passes) served.clock c.self.invariant.2
