use Rattle.std.proofs.Common.{length, arith}
use Rattle.std.specs.List.{AllZip}
use Rattle.node_actors.specs.Acting.{Gives}
use Rattle.node_run.specs.Crews.{AreAllHands, AreAllLeft, AreCrew, IsHandOf}
use Rattle.node_run.specs.Houses.{IsDesk}
use Rattle.node_run.proofs.Gathered.{all_hands, all_left, are_crew, crew_many}
use Rattle.node_run.proofs.Ran.{all_made, left_so, nobody_left, unrun_so}
use Rattle.node_run.proofs.Streets.{has_room_for_fewer}
use Rattle.node_run.proofs.life.running.run_crew.Goals as goal

pub run_actors-requires-after_bounds : goal.run_actors-requires-after_bounds
run_actors-requires-after_bounds g c κs within =
    let many = crew_many c.args.feeds.items c.staff_all-actors.result.items c.add_feeders-actors.result.items c.add_feeders-actors.ensures in
    has_room_for_fewer c.args.hands c.args.many (length c.add_feeders-actors.result.items) (omega (arith, many, c.staff_all-actors.ensures.len, c.requires.many)) c.requires.hands

pub returns-clause-left : goal.returns-clause-left
returns-clause-left g c =
    let crew = are_crew g.S.Suite.meaning g.C.Clock.may_give g.N.LinkIn.left g.N.LinkIn.faults g.O.LinkOut.given g.O.LinkOut.faults c.args.clock.now
    c.args.houses.now c.args.feeds.items c.staff_all-actors.result.items c.add_feeders-actors.result.items c.staff_all-actors.ensures.staff c.add_feeders-actors.ensures in
    left_so (AllZip (Gives g.S.Suite.meaning g.C.Clock.may_give g.N.LinkIn.left g.N.LinkIn.faults g.O.LinkOut.given g.O.LinkOut.faults) c.add_feeders-actors.result.items)
    (AreAllLeft g.S.Suite.meaning g.C.Clock.may_give g.N.LinkIn.left g.N.LinkIn.faults g.O.LinkOut.given g.O.LinkOut.faults c.args.clock.now c.args.houses.now c.args.feeds.items)
    (λ lefts gives. all_left g.S.Suite.meaning g.C.Clock.may_give g.N.LinkIn.left g.N.LinkIn.faults g.O.LinkOut.given g.O.LinkOut.faults c.args.clock.now
    c.args.houses.now c.args.feeds.items c.add_feeders-actors.result.items lefts crew gives) c.run_actors.result c.run_actors.ensures.left

pub returns-clause-unrun : goal.returns-clause-unrun
returns-clause-unrun g c =
    let crew = are_crew g.S.Suite.meaning g.C.Clock.may_give g.N.LinkIn.left g.N.LinkIn.faults g.O.LinkOut.given g.O.LinkOut.faults c.args.clock.now
    c.args.houses.now c.args.feeds.items c.staff_all-actors.result.items c.add_feeders-actors.result.items c.staff_all-actors.ensures.staff c.add_feeders-actors.ensures in
    unrun_so (AllZip IsHandOf c.add_feeders-actors.result.items) (AreAllHands c.args.houses.now)
    (λ hands all. all_hands g.S.Suite.meaning g.C.Clock.may_give g.N.LinkIn.left g.N.LinkIn.faults g.O.LinkOut.given g.O.LinkOut.faults c.args.clock.now
    c.args.houses.now c.args.feeds.items c.add_feeders-actors.result.items hands crew all) c.run_actors.result c.run_actors.ensures.unrun

pub returns-clause-unstaffed : goal.returns-clause-unstaffed
returns-clause-unstaffed g c = all_made (AllZip IsDesk c.args.houses.now) c.run_actors.result c.run_actors.ensures.staffed

pub returns-clause-refused : goal.returns-clause-refused
returns-clause-refused g c = λ refuses. nobody_left (λ _. ⊥) c.run_actors.result (c.run_actors.ensures.refused refuses)
