use Rattle.std.proofs.Common.{rules, ◌≡◌, ◌<◌, ◌+◌, List, [], length, refl, sym, ap, subst, ◌∙◌, vec_len, arith}
use Rattle.std.specs.List.{AllZip}
use Rattle.std.specs.Vec.Iter.{into_iter_items}
use Rattle.node_run.specs.Crews.{IsStaffOf, staff_in}
use Rattle.node_run.specs.Houses.{IsDesk, IsStanding}
use Rattle.node_run.specs.Parts.{Parted}
use Rattle.node_run.proofs.Gathered.{adds_house}
use Rattle.node_run.proofs.Parts.{next_both, none_parted, sum_fits, sum_further, whole_front}
use Rattle.node_run.proofs.life.crews.staff_all.Goals as goal

pub loop-house-init : goal.loop-house-init
loop-house-init g c = record {
  desks = subst (λ ds. AllZip IsDesk c.args.houses.now ds) (sym c.into_iter-desks.ensures.rest) c.requires.desks;
  staff = none_parted (IsStaffOf g.S.Suite.meaning g.C.Clock.may_give g.N.LinkIn.left g.N.LinkIn.faults g.O.LinkOut.given g.O.LinkOut.faults c.args.clock.now)
      c.args.actors.items c.requires.room.empty;
  len = omega (arith, c.args.actors.ok.0, ap (λ (xs : List _). length xs) c.requires.room.empty);
  room = refl;
}

pub staff-requires-clause-hands : goal.staff-requires-clause-hands
staff-requires-clause-hands g c =
    let house = c.house-item.result in
    let next = next_both IsDesk c.args.houses.now c.loop-house.house-index house (into_iter_items c.loop-house.desks) (into_iter_items c.next.new.self) c.in-Some.desk
    (search rules) c.house-item.is c.loop-house.invariant.desks c.in-Some.ensures.items in
    next.0.hands

pub staff-requires-clause-posts : goal.staff-requires-clause-posts
staff-requires-clause-posts g c =
    let house = c.house-item.result in
    let next = next_both IsDesk c.args.houses.now c.loop-house.house-index house (into_iter_items c.loop-house.desks) (into_iter_items c.next.new.self) c.in-Some.desk
    (search rules) c.house-item.is c.loop-house.invariant.desks c.in-Some.ensures.items in
    next.0.posts

pub staff-requires-clause-working : goal.staff-requires-clause-working
staff-requires-clause-working g c =
    let house = c.house-item.result in
    let stands : IsStanding g.S.K.Kem.CT house = subst (IsStanding g.S.K.Kem.CT) (sym c.house-item.is) (c.requires.standing c.loop-house.house-index house (search rules)) in
    stands.working

pub staff-requires-clause-room : goal.staff-requires-clause-room
staff-requires-clause-room g c =
    let house = c.house-item.result in
    let fits = sum_fits (λ house. house.hall.callers) c.args.houses.now c.loop-house.house-index house (search rules) c.house-item.is in
    let before = c.loop-house.invariant in
    omega (arith, fits, before.len, before.room, c.requires.room.room)

pub loop-house-preserved : goal.loop-house-preserved
loop-house-preserved g c =
    let before = c.loop-house.invariant in
    let house = c.house-item.result in
    let at = c.loop-house.house-index in
    let houses = c.args.houses.now in
    let low : at < length houses = search rules in
    let next = next_both IsDesk houses at house (into_iter_items c.loop-house.desks) (into_iter_items c.next.new.self) c.in-Some.desk low c.house-item.is before.desks c.in-Some.ensures.items in
    let further = sum_further (λ house. house.hall.callers) houses at house low c.house-item.is in
    record {
      desks = next.1;
      staff = adds_house g.S.Suite.meaning g.C.Clock.may_give g.N.LinkIn.left g.N.LinkIn.faults g.O.LinkOut.given g.O.LinkOut.faults c.args.clock.now houses at house c.in-Some.desk
          c.loop-house.actors.items c.staff.new.actors.items low c.house-item.is next.0 before.staff c.staff.ensures.staff;
      len = omega (arith, c.staff.ensures.len, before.len, further);
      room = c.staff.ensures.room ∙ before.room;
    }

pub returns-clause-staff : goal.returns-clause-staff
returns-clause-staff g c =
    subst (λ hs. Parted (IsStaffOf g.S.Suite.meaning g.C.Clock.may_give g.N.LinkIn.left g.N.LinkIn.faults g.O.LinkOut.given g.O.LinkOut.faults c.args.clock.now)
    (λ rest. rest ≡ []) hs c.loop-house.actors.items)
    (whole_front c.args.houses.now c.loop-house.house-index c.loop-house.auto.house-index-end c.loop-house-test.false) c.loop-house.invariant.staff

pub returns-clause-len : goal.returns-clause-len
returns-clause-len g c =
    subst (λ hs. vec_len c.loop-house.actors ≡ staff_in hs)
    (whole_front c.args.houses.now c.loop-house.house-index c.loop-house.auto.house-index-end c.loop-house-test.false) c.loop-house.invariant.len
