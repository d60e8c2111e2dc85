use Rattle.std.proofs.Common.{sym, subst}
use Rattle.node_actors.specs.Seats.{HasMadeNothing, IsOpen, SeatState}
use Rattle.node_run.specs.Halls.{HallState, IsHall}
use Rattle.node_run.proofs.Staffed.{fresh_nothing, fresh_open}
use Rattle.node_run.proofs.life.staffing.dealer_of.Goals as goal

pub new-requires-clause-open : goal.new-requires-clause-open
new-requires-clause-open g c =
    subst (λ (seat : SeatState). IsOpen seat) (sym c.requires.seat) (fresh_open c.args.hall.now c.args.seat.caller (subst (λ (hall : HallState). IsHall hall) c.hall.view_is c.hall.invariant) c.requires.caller)

pub new-requires-clause-nothing : goal.new-requires-clause-nothing
new-requires-clause-nothing g c =
    subst (λ (seat : SeatState). HasMadeNothing seat) (sym c.requires.seat) (fresh_nothing c.args.hall.now c.args.seat.caller)
