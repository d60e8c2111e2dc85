use Rattle.std.proofs.Common.{ap, subst, ◌∙◌}
use Rattle.std.specs.Vec.Iter.{into_iter_items}
use Rattle.node_run.specs.Halls.{HallState, IsHall}
use Rattle.node_run.proofs.Ended.{has_served, house_can_end, house_room, own_lefts}
use Rattle.node_run.proofs.life.partings.end_house.Goals as goal

pub end_node-requires-clause-ended : goal.end_node-requires-clause-ended
end_node-requires-clause-ended g c =
    let own = c.take_next-own.result.items in
    let are = own_lefts g.S.Suite.meaning g.C.Clock.may_give g.N.LinkIn.left g.N.LinkIn.faults g.O.LinkOut.given g.O.LinkOut.faults c.args.clock.now g.S.K.Kem.CT c.args.house c.requires.stands
    (into_iter_items c.args.lefts.now) own (into_iter_items c.take_next-own.new.items) c.requires.left c.take_next-own.ensures.taken (c.take_next-own.ensures.many ∙ ap (λ (h : HallState). h.callers) c.hall.view_is) in
    house_can_end g.S.Suite.meaning g.C.Clock.may_give g.N.LinkIn.left g.N.LinkIn.faults g.O.LinkOut.given g.O.LinkOut.faults c.args.clock.now g.S.K.Kem.CT c.args.house c.requires.stands
    own are (subst IsHall c.hall.view_is c.hall.invariant)

pub end_node-requires-clause-room : goal.end_node-requires-clause-room
end_node-requires-clause-room g c =
    let own = c.take_next-own.result.items in
    let are = own_lefts g.S.Suite.meaning g.C.Clock.may_give g.N.LinkIn.left g.N.LinkIn.faults g.O.LinkOut.given g.O.LinkOut.faults c.args.clock.now g.S.K.Kem.CT c.args.house c.requires.stands
    (into_iter_items c.args.lefts.now) own (into_iter_items c.take_next-own.new.items) c.requires.left c.take_next-own.ensures.taken (c.take_next-own.ensures.many ∙ ap (λ (h : HallState). h.callers) c.hall.view_is) in
    house_room g.S.Suite.meaning g.C.Clock.may_give g.N.LinkIn.left g.N.LinkIn.faults g.O.LinkOut.given g.O.LinkOut.faults c.args.clock.now g.S.K.Kem.CT c.args.house c.requires.stands own are

pub returns-clause-served : goal.returns-clause-served
returns-clause-served g c =
    let own = c.take_next-own.result.items in
    let are = own_lefts g.S.Suite.meaning g.C.Clock.may_give g.N.LinkIn.left g.N.LinkIn.faults g.O.LinkOut.given g.O.LinkOut.faults c.args.clock.now g.S.K.Kem.CT c.args.house c.requires.stands
    (into_iter_items c.args.lefts.now) own (into_iter_items c.take_next-own.new.items) c.requires.left c.take_next-own.ensures.taken (c.take_next-own.ensures.many ∙ ap (λ (h : HallState). h.callers) c.hall.view_is) in
    let end = c.end_node.ensures in
    has_served g.S.Suite.meaning g.C.Clock.may_give g.N.LinkIn.left g.N.LinkIn.faults g.O.LinkOut.given g.O.LinkOut.faults c.args.clock.now g.S.K.Kem.CT c.args.house c.requires.stands
    g.R.Rack.tells own are (subst IsHall c.hall.view_is c.hall.invariant) c.end_node.result (ap (λ v. v.items) end.left) end.popped end.closed end.kept end.end
