use Rattle.std.proofs.Common.{List, subst, sym, ℕ}
use Rattle.node_actors.specs.Connecting.{ConnectorState, GoesOnConnecting}
use Rattle.node_actors.specs.Handing.{HandsOver, link_out, LinkOutState}
use Rattle.node_actors.specs.Seats.{MovesAt}
use Rattle.node_actors.proofs.HandedOn.{hands_finished}
use Rattle.node_actors.proofs.actors.connecting.Connector.run.Goals as goal

pub returns-clause-seat : goal.returns-clause-seat
returns-clause-seat g c = (subst (λ (t : ConnectorState g.row.C.Denot). GoesOnConnecting c.args.self t) (sym c.self.view_is) c.serve.ensures).nothing

pub returns-clause-moves : goal.returns-clause-moves
returns-clause-moves g c =
    let served = subst (λ (t : ConnectorState g.row.C.Denot). GoesOnConnecting c.args.self t) (sym c.self.view_is) c.serve.ensures in
    subst (λ (clock : g.row.C.Denot). MovesAt (g.C.Clock.may_give clock) c.self.inside.seat.passes) served.clock c.self.invariant.moves

pub returns-clause-hop : goal.returns-clause-hop
returns-clause-hop g c = (subst (λ (t : ConnectorState g.row.C.Denot). GoesOnConnecting c.args.self t) (sym c.self.view_is) c.serve.ensures).hop

pub returns-clause-hands : goal.returns-clause-hands
returns-clause-hands g c =
    let served = subst (λ (t : ConnectorState g.row.C.Denot). GoesOnConnecting c.args.self t) (sym c.self.view_is) c.serve.ensures in
    let link = link_out g.O.LinkOut.given g.O.LinkOut.faults c.finish.new.self in
    subst (λ (z : List ℕ × LinkOutState). HandsOver z.0 z.1 link c.self.inside.log.items) (λ i. (served.hop i, served.was i))
    (hands_finished _ _ _ link c.self.inside.log.items c.self.invariant.hands c.finish.ensures.same c.finish.ensures.count)
