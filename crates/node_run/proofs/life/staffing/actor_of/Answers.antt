use Rattle.std.proofs.Common.{◌≡◌, ◌<◌, ℕ, List, [], get_or, length, ap, sym, subst, ◌∙◌}
use Rattle.std.proofs.lemmas.Option.{get_or_from_slice_get}
use Rattle.atomic_table.specs.Seated.{TableId}
use Rattle.node_actors.specs.Connecting.{ConnectorState}
use Rattle.node_actors.specs.Handing.{link_out}
use Rattle.node_actors.specs.Listening.{AreOpenTo}
use Rattle.node_actors.specs.Queues.{Receiving}
use Rattle.node_actors.specs.Seats.{HasMadeNothing, IsOpen, SeatState}
use Rattle.node_run.specs.Halls.{HallState, IsHall}
use Rattle.node_run.specs.Openings.{plan_of}
use Rattle.node_run.specs.Posts.{IsPost, role_in}
use Rattle.node_actors.specs.declared.actors.crew.NodeActor.TheVariants.{Connects}
use Rattle.node_run.specs.Lefts.{new_connector}
use Rattle.node_run.specs.Staffs.{IsStaff, staffing_of}
use Rattle.node_run.specs.declared.life.posts.Post.{Post}
use Rattle.node_run.specs.declared.roles.Role.{Role}
use Rattle.node_run.proofs.Staffed.{fresh_nothing, fresh_open, of_connector, of_listener, of_rotator, of_worker, open_at_first, senders_at_first}
use Rattle.node_run.proofs.life.staffing.actor_of.Goals as goal

pub new-requires-clause-some : goal.new-requires-clause-some
new-requires-clause-some g c = subst (λ (queues : List TableId). 0 < length queues) (sym (c.deref.ensures.value ∙ ap (λ (hall : HallState). hall.queues) c.hall.view_is)) c.requires.working

pub new-requires-clause-open : goal.new-requires-clause-open
new-requires-clause-open g c =
    let plan = plan_of c.args.hall.now c.args.incoming.now.value.items c.args.outgoing.now.value.items in
    let post = subst (λ (one : Post g.row.N.Denot g.row.O.Denot). IsPost plan (role_in plan c.args.seat.caller) one) c.in-Listener.is c.requires.post in
    let is = of_listener plan (role_in plan c.args.seat.caller) c.in-Listener.place c.in-Listener.listeners c.in-Listener.link c.in-Listener.senders c.in-Listener.buffer post in
    subst (λ (queues : List TableId). AreOpenTo queues c.in-Listener.senders.items) (sym (c.deref.ensures.value ∙ ap (λ (hall : HallState). hall.queues) c.hall.view_is))
    (open_at_first c.in-Listener.place plan.queues c.in-Listener.senders.items is.1.3)

pub new-requires-clause-senders : goal.new-requires-clause-senders
new-requires-clause-senders g c =
    let plan = plan_of c.args.hall.now c.args.incoming.now.value.items c.args.outgoing.now.value.items in
    let post = subst (λ (one : Post g.row.N.Denot g.row.O.Denot). IsPost plan (role_in plan c.args.seat.caller) one) c.in-Listener.is c.requires.post in
    let is = of_listener plan (role_in plan c.args.seat.caller) c.in-Listener.place c.in-Listener.listeners c.in-Listener.link c.in-Listener.senders c.in-Listener.buffer post in
    senders_at_first c.in-Listener.place plan.queues c.in-Listener.senders.items is.1.3

pub new-requires-in-Worker-clause-own : goal.new-requires-in-Worker-clause-own
new-requires-in-Worker-clause-own g c =
    let plan = plan_of c.args.hall.now c.args.incoming.now.value.items c.args.outgoing.now.value.items in
    let post = subst (λ (one : Post g.row.N.Denot g.row.O.Denot). IsPost plan (role_in plan c.args.seat.caller) one) c.in-Worker.is c.requires.post in
    let is = (of_worker plan (role_in plan c.args.seat.caller) c.in-Worker.place c.in-Worker.receiver post).1.1 in
    let queue = c.index-queue.result.now in
    let indexed : queue ≡ is.0 = c.index-queue.ensures
    ∙ (ap (λ (hall : HallState). get_or hall.queues c.in-Worker.place queue) c.hall.view_is ∙ get_or_from_slice_get plan.queues c.in-Worker.place is.0 queue is.1) in
    ap (λ (receiver : Receiving). receiver.queue) is.2 ∙ sym indexed

pub new-requires-in-Keeper-clause-nothing : goal.new-requires-in-Keeper-clause-nothing
new-requires-in-Keeper-clause-nothing g c =
    subst (λ (seat : SeatState). HasMadeNothing seat) (sym c.requires.seat) (fresh_nothing c.args.hall.now c.args.seat.caller)

pub new-requires-in-Connector : goal.new-requires-in-Connector
new-requires-in-Connector g c =
    subst (λ (seat : SeatState). HasMadeNothing seat) (sym c.requires.seat) (fresh_nothing c.args.hall.now c.args.seat.caller)

pub new-requires-in-Rotator-clause-many : goal.new-requires-in-Rotator-clause-many
new-requires-in-Rotator-clause-many g c =
    let plan = plan_of c.args.hall.now c.args.incoming.now.value.items c.args.outgoing.now.value.items in
    let post = subst (λ (one : Post g.row.N.Denot g.row.O.Denot). IsPost plan (role_in plan c.args.seat.caller) one) c.in-Rotator.is c.requires.post in
    let is = of_rotator plan (role_in plan c.args.seat.caller) c.in-Rotator.tried post in
    c.in-Rotator.tried.ok.0 ∙ (is.1 ∙ sym (ap (λ (seat : SeatState). length seat.locks) c.requires.seat))

pub new-requires-in-Rotator-clause-nothing : goal.new-requires-in-Rotator-clause-nothing
new-requires-in-Rotator-clause-nothing g c =
    subst (λ (seat : SeatState). HasMadeNothing seat) (sym c.requires.seat) (fresh_nothing c.args.hall.now c.args.seat.caller)

pub new-requires-in-Spare-clause-open : goal.new-requires-in-Spare-clause-open
new-requires-in-Spare-clause-open g c =
    subst (λ (seat : SeatState). IsOpen seat) (sym c.requires.seat)
    (fresh_open c.args.hall.now c.args.seat.caller (subst (λ (hall : HallState). IsHall hall) c.hall.view_is c.hall.invariant) c.requires.caller)

pub new-requires-in-Spare-clause-nothing : goal.new-requires-in-Spare-clause-nothing
new-requires-in-Spare-clause-nothing g c =
    subst (λ (seat : SeatState). HasMadeNothing seat) (sym c.requires.seat) (fresh_nothing c.args.hall.now c.args.seat.caller)

pub returns-in-Connector : goal.returns-in-Connector
returns-in-Connector g c =
    let hall = c.args.hall.now in
    let plan = plan_of hall c.args.incoming.now.value.items c.args.outgoing.now.value.items in
    let node = staffing_of hall c.args.incoming.now.value.items c.args.outgoing.now.value.items c.args.clock.now in
    let caller = c.args.seat.caller in
    let post = subst (λ (one : Post g.row.N.Denot g.row.O.Denot). IsPost plan (role_in plan caller) one) c.in-Connector.is c.requires.post in
    let is = of_connector plan (role_in plan caller) c.in-Connector.hop c.in-Connector.link post in
    let out : List ℕ × g.row.O.Denot = (c.in-Connector.hop, c.in-Connector.link) in
    let link = link_out g.O.LinkOut.given g.O.LinkOut.faults c.in-Connector.link in
    let fresh : SeatState → ConnectorState g.row.C.Denot =
    λ seat. record { taker = record { seat = seat; log = []; unsent = 0 }; clock = c.args.clock.now; hop = c.in-Connector.hop; was = link; link = link } in
    let connector : c.new-in-Connector.result ≡ new_connector g.S.Suite.meaning g.N.LinkIn.left g.N.LinkIn.faults g.O.LinkOut.given g.O.LinkOut.faults g.C.Clock.may_give node caller out =
    c.new-in-Connector.ensures ∙ ap fresh c.requires.seat in
    subst (λ (role : Role). IsStaff {H = g.row.H.Denot} {R = g.row.R.Denot} {S = g.row.S.Denot} {G = g.row.G.Denot} {K = g.row.S-K.Denot} {M = g.row.S-M.Denot} {D = g.row.S-D.Denot} {Z = g.row.S-C.Denot} {W = g.row.S-W.Denot}
    g.S.Suite.meaning g.C.Clock.may_give g.N.LinkIn.left g.N.LinkIn.faults g.O.LinkOut.given g.O.LinkOut.faults node role caller (Connects c.new-in-Connector.result))
    (sym is.1) (out, is.2, connector)
