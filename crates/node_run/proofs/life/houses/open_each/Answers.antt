use Rattle.std.proofs.Common.{[], ◌∷◌, ◌++◌, length, map, reverse, append_assoc, sym, ap, subst, ◌∙◌, arith}
use Rattle.std.specs.Prelude.{All}
use Rattle.std.specs.List.{AllZip}
use Rattle.std.proofs.lemmas.List.{append-nil}
use Rattle.turn_lock.proofs.Lists.{all_middle}
use Rattle.node_run.specs.Houses.{IsDesk, IsHouse, IsStanding, kept_in}
use Rattle.node_run.specs.Seats.{CanLive, kept_of}
use Rattle.node_run.proofs.Moving.{all_and_last}
use Rattle.node_run.proofs.Streets.{back_again, fronts_zip, grows_zip, houses_keep}
use Rattle.node_run.proofs.life.houses.open_each.Goals as goal

pub loop-seat-init : goal.loop-seat-init
loop-seat-init g c =
    let houses = c.requires.houses in
    let desks = c.requires.desks in
    record {
      met = [];
      are = sym (append-nil c.args.nodes.items);
      houses = subst (λ zs. AllZip (IsHouse g.S.K.Kem.CT c.args.workers) [] (reverse zs)) (sym houses.empty) tt;
      standing = subst (All (IsStanding g.S.K.Kem.CT)) (sym houses.empty) (λ k d low. absurd (omega (arith, low)));
      desks = subst (λ zs. AllZip IsDesk (reverse zs) (reverse c.args.desks.items)) (sym houses.empty) (subst (λ zs. AllZip IsDesk [] (reverse zs)) (sym desks.empty) tt);
      seats_room = omega (arith, c.args.nodes.ok.1, c.args.houses.ok.0, ap (λ zs. length zs) houses.empty);
      houses_room = omega (arith, c.args.nodes.ok.0, houses.room, c.args.houses.ok.0, ap (λ zs. length zs) houses.empty);
      desks_room = omega (arith, c.args.nodes.ok.0, desks.room, c.args.desks.ok.0, ap (λ zs. length zs) desks.empty);
      seats_fit = omega (arith, c.args.nodes.ok.0, c.args.nodes.ok.1);
    }

pub open_house-requires : goal.open_house-requires
open_house-requires g c =
    let before = c.loop-seat.invariant in
    let seat = c.in-Some.seat in
    let new = c.pop.new.self.items in
    all_middle (CanLive g.S.K.Kem.CT c.args.workers) new before.met seat
    (subst (All (CanLive g.S.K.Kem.CT c.args.workers)) (before.are ∙ ap (λ zs. zs ++ before.met) c.in-Some.ensures.items ∙ append_assoc new (seat ∷ []) before.met) c.requires.nodes)

pub loop-seat-preserved : goal.loop-seat-preserved
loop-seat-preserved g c =
    let before = c.loop-seat.invariant in
    let seat = c.in-Some.seat in
    let new = c.pop.new.self.items in
    let house = c.in-Ok.house in
    let desk = c.in-Ok.desk in
    let is = c.in-Ok.ensures in
    let houses = c.push_reserved.new.self.items in
    let desks = c.push_reserved-in-Ok.new.self.items in
    let cases = c.in-Some.ensures.cases in
    record {
      met = seat ∷ before.met;
      are = before.are ∙ ap (λ zs. zs ++ before.met) c.in-Some.ensures.items ∙ append_assoc new (seat ∷ []) before.met;
      houses = fronts_zip (IsHouse g.S.K.Kem.CT c.args.workers) before.met seat c.loop-seat.houses.items houses house c.push_reserved.ensures.items is.house before.houses;
      standing = all_and_last (IsStanding g.S.K.Kem.CT) c.loop-seat.houses.items houses house c.push_reserved.ensures.items before.standing is.house.stands;
      desks = grows_zip IsDesk c.loop-seat.houses.items houses house c.loop-seat.desks.items desks desk c.push_reserved.ensures.items c.push_reserved-in-Ok.ensures.items is.desk before.desks;
      seats_room = (let a = cases in let b = c.push_reserved.ensures.len in let d = before.seats_room in omega arith);
      houses_room = (let a = cases in let b = c.push_reserved.ensures.len in let d = c.push_reserved.ensures.capacity in let e = before.houses_room in omega arith);
      desks_room = (let a = cases in let b = c.push_reserved-in-Ok.ensures.len in let d = c.push_reserved-in-Ok.ensures.capacity in let e = before.desks_room in omega arith);
      seats_fit = (let a = cases in let b = before.seats_fit in omega arith);
    }

pub returns-in-Err-clause-back : goal.returns-in-Err-clause-back
returns-in-Err-clause-back g c =
    let before = c.loop-seat.invariant in
    let seat = c.in-Some.seat in
    let new = c.pop.new.self.items in
    back_again kept_of kept_in c.args.nodes.items new before.met c.close_all.new.seats.items seat c.in-Err.back (reverse c.loop-seat.houses.items)
    (before.are ∙ ap (λ zs. zs ++ before.met) c.in-Some.ensures.items) c.in-Err.ensures.back
    (houses_keep g.S.K.Kem.CT c.args.workers before.met (reverse c.loop-seat.houses.items) before.houses)
    (c.close_all.ensures ∙ ap (λ zs. map kept_of zs ++ map kept_in (reverse c.loop-seat.houses.items)) c.push_reserved-in-Err.ensures.items)
