use Rattle.std.proofs.Common.{[], ◌++◌, length, ap, sym, subst, ◌∙◌, arith}
use Rattle.std.specs.List.{AllZip}
use Rattle.std.specs.Vec.Iter.{into_iter_items}
use Rattle.std.proofs.lemmas.List.{length_push}
use Rattle.node_run.specs.Crews.{AreAllLeft, AreFed, AreLeftIn}
use Rattle.node_run.specs.Houses.{IsStanding, node_of}
use Rattle.node_run.specs.Partings.{HasServed}
use Rattle.node_run.proofs.Moving.{fewer_met, is_middle, one_further}
use Rattle.node_run.proofs.Parts.{all_met, first_part, one_more_both, other_parts, rest_alone}
use Rattle.node_run.proofs.Yielding.{count_first, count_next, nothing_left}
use Rattle.node_run.proofs.life.partings.end_houses.Goals as goal

pub loop-house-init : goal.loop-house-init
loop-house-init g c =
    let gives = c.into_iter-house-iterator.ensures.into_iter_gives in
    record {
      whole = sym gives.0;
      count = count_first c.into_iter-house-iterator.result c.args.houses gives.0 gives.1;
      left = subst (λ hs. AreAllLeft g.S.Suite.meaning g.C.Clock.may_give g.N.LinkIn.left g.N.LinkIn.faults g.O.LinkOut.given g.O.LinkOut.faults c.args.clock.now
          hs c.args.feeds.now.value.items (into_iter_items c.args.lefts.now)) (sym gives.0) c.requires.left;
      served = subst (λ es. AllZip (λ house end. HasServed g.R.Rack.tells g.S.Suite.meaning g.C.Clock.may_give g.N.LinkIn.left g.N.LinkIn.faults g.O.LinkOut.given g.O.LinkOut.faults
          (node_of {R = g.row.R.Denot} {S = g.row.S.Denot} {N = g.row.N.Denot} {O = g.row.O.Denot} {K = g.row.S-K.Denot} {M = g.row.S-M.Denot} {D = g.row.S-D.Denot} {Z = g.row.S-C.Denot} {W = g.row.S-W.Denot} c.args.clock.now house) end) [] es) (sym c.requires.room.empty) tt;
      len = omega (arith, c.args.ends.ok.0, ap (λ es. length es) c.requires.room.empty);
      room = c.requires.room.room;
    }

pub end_house-requires-clause-stands : goal.end_house-requires-clause-stands
end_house-requires-clause-stands g c =
    is_middle (IsStanding g.S.K.Kem.CT) c.args.houses.items c.loop-house.yielded (into_iter_items c.next.new.self) c.in-Some.house
    (c.loop-house.invariant.whole ∙ ap (λ xs. c.loop-house.yielded ++ xs) c.in-Some.ensures.steps.0) c.requires.standing

pub end_house-requires-clause-left : goal.end_house-requires-clause-left
end_house-requires-clause-left g c =
    first_part (AreLeftIn g.S.Suite.meaning g.C.Clock.may_give g.N.LinkIn.left g.N.LinkIn.faults g.O.LinkOut.given g.O.LinkOut.faults c.args.clock.now)
    (AreFed g.O.LinkOut.given g.O.LinkOut.faults c.args.feeds.now.value.items) c.in-Some.house (into_iter_items c.next.new.self) (into_iter_items c.loop-house.lefts)
    (subst (λ hs. AreAllLeft g.S.Suite.meaning g.C.Clock.may_give g.N.LinkIn.left g.N.LinkIn.faults g.O.LinkOut.given g.O.LinkOut.faults c.args.clock.now
    hs c.args.feeds.now.value.items (into_iter_items c.loop-house.lefts)) c.in-Some.ensures.steps.0 c.loop-house.invariant.left)

pub push_reserved-requires : goal.push_reserved-requires
push_reserved-requires g c =
    let before = c.loop-house.invariant in
    let fewer = fewer_met c.args.houses.items c.loop-house.yielded (into_iter_items c.next.new.self) c.in-Some.house
    (before.whole ∙ ap (λ xs. c.loop-house.yielded ++ xs) c.in-Some.ensures.steps.0) in
    omega (arith, fewer, before.len, before.room)

pub loop-house-preserved : goal.loop-house-preserved
loop-house-preserved g c =
    let before = c.loop-house.invariant in
    let house = c.in-Some.house in
    let yielded = c.loop-house.yielded in
    let rest = into_iter_items c.next.new.self in
    record {
      whole = one_further c.args.houses.items yielded (into_iter_items c.loop-house.house-iterator) rest house before.whole c.in-Some.ensures.steps.0;
      count = count_next c.loop-house.house-iterator c.next.new.self house c.in-Some.ensures.steps before.count;
      left = other_parts (AreLeftIn g.S.Suite.meaning g.C.Clock.may_give g.N.LinkIn.left g.N.LinkIn.faults g.O.LinkOut.given g.O.LinkOut.faults c.args.clock.now)
          (AreFed g.O.LinkOut.given g.O.LinkOut.faults c.args.feeds.now.value.items) house rest (into_iter_items c.loop-house.lefts) (into_iter_items c.end_house.new.lefts) house.hall.callers
          (λ part is. is.many)
          (subst (λ hs. AreAllLeft g.S.Suite.meaning g.C.Clock.may_give g.N.LinkIn.left g.N.LinkIn.faults g.O.LinkOut.given g.O.LinkOut.faults c.args.clock.now
          hs c.args.feeds.now.value.items (into_iter_items c.loop-house.lefts)) c.in-Some.ensures.steps.0 before.left) c.end_house.ensures.taken;
      served = one_more_both (λ house end. HasServed g.R.Rack.tells g.S.Suite.meaning g.C.Clock.may_give g.N.LinkIn.left g.N.LinkIn.faults g.O.LinkOut.given g.O.LinkOut.faults
          (node_of c.args.clock.now house) end) yielded c.loop-house.ends.items c.push_reserved.new.self.items house c.end_house.result before.served c.end_house.ensures.served c.push_reserved.ensures.items;
      len = omega (arith, c.push_reserved.ensures.len, before.len, length_push yielded house);
      room = omega (arith, c.push_reserved.ensures.capacity, before.room);
    }

pub returns-clause-served : goal.returns-clause-served
returns-clause-served g c =
    let before = c.loop-house.invariant in
    let all = all_met c.args.houses.items c.loop-house.yielded (into_iter_items c.loop-house.house-iterator) before.whole
    (nothing_left c.loop-house.house-iterator before.count c.in-None.ensures.steps.0) in
    subst (λ xs. AllZip (λ house end. HasServed g.R.Rack.tells g.S.Suite.meaning g.C.Clock.may_give g.N.LinkIn.left g.N.LinkIn.faults g.O.LinkOut.given g.O.LinkOut.faults
    (node_of c.args.clock.now house) end) xs c.loop-house.ends.items) all before.served

pub returns-clause-fed : goal.returns-clause-fed
returns-clause-fed g c =
    let before = c.loop-house.invariant in
    rest_alone (AreLeftIn g.S.Suite.meaning g.C.Clock.may_give g.N.LinkIn.left g.N.LinkIn.faults g.O.LinkOut.given g.O.LinkOut.faults c.args.clock.now)
    (AreFed g.O.LinkOut.given g.O.LinkOut.faults c.args.feeds.now.value.items) (into_iter_items c.loop-house.lefts)
    (subst (λ hs. AreAllLeft g.S.Suite.meaning g.C.Clock.may_give g.N.LinkIn.left g.N.LinkIn.faults g.O.LinkOut.given g.O.LinkOut.faults c.args.clock.now
    hs c.args.feeds.now.value.items (into_iter_items c.loop-house.lefts)) (nothing_left c.loop-house.house-iterator before.count c.in-None.ensures.steps.0) before.left)
