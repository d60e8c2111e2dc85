use Rattle.std.proofs.Common.{◌++◌, length, map, ap, sym, subst, ◌∙◌, arith}
use Rattle.std.specs.Vec.Iter.{into_iter_items}
use Rattle.std.specs.Prelude.{⊤}
use Rattle.std.proofs.lemmas.List.{length_push}
use Rattle.node_run.specs.Crews.{AreAllHands, AreHandsIn}
use Rattle.node_run.specs.Houses.{IsStanding, kept_in}
use Rattle.node_run.specs.Seats.{kept_of}
use Rattle.node_run.proofs.Moving.{fewer_met, is_middle, one_further}
use Rattle.node_run.proofs.Parts.{all_met, first_part, other_parts}
use Rattle.node_run.proofs.Streets.{keeps_more}
use Rattle.node_run.proofs.Yielding.{count_first, count_next, nothing_left}
use Rattle.node_run.proofs.life.partings.return_all.Goals as goal

pub loop-house-init : goal.loop-house-init
loop-house-init g c =
    let gives = c.into_iter-house-iterator.ensures.into_iter_gives in
    record {
      whole = sym gives.0;
      count = count_first c.into_iter-house-iterator.result c.args.houses gives.0 gives.1;
      hands = subst (λ hs. AreAllHands hs (into_iter_items c.into_iter-hands.result)) (sym gives.0) (subst (λ hs. AreAllHands c.args.houses.items hs) (sym c.into_iter-hands.ensures.rest) c.requires.hands);
      kept = ap (λ ss. map kept_of ss) c.requires.room.empty;
      len = omega (arith, c.args.seats.ok.0, ap (λ ss. length ss) c.requires.room.empty);
      room = c.requires.room.room;
    }

pub return_house-requires-clause-stands : goal.return_house-requires-clause-stands
return_house-requires-clause-stands g c =
    is_middle (IsStanding g.S.K.Kem.CT) c.args.houses.items c.loop-house.yielded (into_iter_items c.next.new.self) c.in-Some.house
    (c.loop-house.invariant.whole ∙ ap (λ xs. c.loop-house.yielded ++ xs) c.in-Some.ensures.steps.0) c.requires.standing

pub return_house-requires-clause-hands : goal.return_house-requires-clause-hands
return_house-requires-clause-hands g c =
    first_part AreHandsIn (λ _. ⊤) c.in-Some.house (into_iter_items c.next.new.self) (into_iter_items c.loop-house.hands)
    (subst (λ hs. AreAllHands hs (into_iter_items c.loop-house.hands)) c.in-Some.ensures.steps.0 c.loop-house.invariant.hands)

pub push_reserved-requires : goal.push_reserved-requires
push_reserved-requires g c =
    let before = c.loop-house.invariant in
    let fewer = fewer_met c.args.houses.items c.loop-house.yielded (into_iter_items c.next.new.self) c.in-Some.house
    (before.whole ∙ ap (λ xs. c.loop-house.yielded ++ xs) c.in-Some.ensures.steps.0) in
    omega (arith, fewer, before.len, before.room)

pub loop-house-preserved : goal.loop-house-preserved
loop-house-preserved g c =
    let before = c.loop-house.invariant in
    let house = c.in-Some.house in
    let yielded = c.loop-house.yielded in
    let rest = into_iter_items c.next.new.self in
    record {
      whole = one_further c.args.houses.items yielded (into_iter_items c.loop-house.house-iterator) rest house before.whole c.in-Some.ensures.steps.0;
      count = count_next c.loop-house.house-iterator c.next.new.self house c.in-Some.ensures.steps before.count;
      hands = other_parts AreHandsIn (λ _. ⊤) house rest (into_iter_items c.loop-house.hands) (into_iter_items c.return_house.new.hands) house.hall.callers (λ part is. is.many)
          (subst (λ hs. AreAllHands hs (into_iter_items c.loop-house.hands)) c.in-Some.ensures.steps.0 before.hands) c.return_house.ensures.taken;
      kept = keeps_more kept_of kept_in c.loop-house.seats.items c.push_reserved.new.self.items c.return_house.result yielded house before.kept c.push_reserved.ensures.items c.return_house.ensures.kept;
      len = omega (arith, c.push_reserved.ensures.len, before.len, length_push yielded house);
      room = omega (arith, c.push_reserved.ensures.capacity, before.room);
    }

pub returns : goal.returns
returns g c =
    let before = c.loop-house.invariant in
    let all = all_met c.args.houses.items c.loop-house.yielded (into_iter_items c.loop-house.house-iterator) before.whole
    (nothing_left c.loop-house.house-iterator before.count c.in-None.ensures.steps.0) in
    before.kept ∙ ap (λ hs. map kept_in hs) all
