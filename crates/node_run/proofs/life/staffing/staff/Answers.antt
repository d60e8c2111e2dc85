use Rattle.std.proofs.Common.{rules, ◌≡◌, ◌<◌, ◌+◌, ℕ, refl, ap, sym, subst, ◌∙◌, arith}
use Rattle.std.specs.Vec.Iter.{into_iter_items}
use Rattle.node_actors.specs.Seats.{IsSeated, SeatState}
use Rattle.node_run.specs.Halls.{HallState, IsHall, fresh_seat}
use Rattle.node_run.specs.Openings.{plan_of}
use Rattle.node_run.specs.Posts.{IsPost, role_in}
use Rattle.node_run.specs.Staffs.{IsStaffAt, staffing_of}
use Rattle.node_run.proofs.Posting.{none_added, one_more_added}
use Rattle.node_run.proofs.Staffed.{fresh_seated, seat_of_parts}
use Rattle.node_run.proofs.Walking.{are_left, is_next}
use Rattle.node_run.proofs.life.staffing.staff.Goals as goal

pub loop-caller-init : goal.loop-caller-init
loop-caller-init g c = record {
  hands_left = c.into_iter-hands.ensures.rest;
  posts_left = c.into_iter-posts.ensures.rest;
  staff = none_added (IsStaffAt {H = g.row.H.Denot} {R = g.row.R.Denot} {S = g.row.S.Denot} {G = g.row.G.Denot} {K = g.row.S-K.Denot} {M = g.row.S-M.Denot} {D = g.row.S-D.Denot} {Z = g.row.S-C.Denot} {W = g.row.S-W.Denot}
      g.S.Suite.meaning g.C.Clock.may_give g.N.LinkIn.left g.N.LinkIn.faults g.O.LinkOut.given g.O.LinkOut.faults
      (staffing_of c.args.hall.now c.args.desk.incoming.value.items c.args.desk.outgoing.value.items c.args.clock.now)) c.args.actors.now.items;
  len = search rules;
  room = refl;
}

pub new-seat-requires : goal.new-seat-requires
new-seat-requires g c =
    let hall = c.args.hall.now in
    let caller = c.loop-caller.caller in
    let hands = c.args.desk.hands.items in
    let next = sym c.in-Some.ensures.items ∙ c.loop-caller.invariant.hands_left in
    let passes = c.requires.hands.each caller c.in-Some.passes (is_next hands caller c.in-Some.passes (into_iter_items c.next.new.self) next) in
    let is : IsHall hall = subst (λ (h : HallState). IsHall h) c.hall.view_is c.hall.invariant in
    let low : caller < hall.callers = subst (λ (h : HallState). caller < h.callers) c.hall.view_is c.loop-caller-test.true in
    subst (λ (seat : SeatState). IsSeated seat)
    (sym (seat_of_parts hall caller c.deref.result.now c.hall.inside.setup c.in-Some.passes.items (c.deref.ensures.value ∙ ap (λ (h : HallState). h.locks) c.hall.view_is) (ap (λ (h : HallState). h.setup) c.hall.view_is) passes))
    (fresh_seated hall caller is low)

pub actor_of-requires-clause-seat : goal.actor_of-requires-clause-seat
actor_of-requires-clause-seat g c =
    let hall = c.args.hall.now in
    let caller = c.loop-caller.caller in
    let hands = c.args.desk.hands.items in
    let next = sym c.in-Some.ensures.items ∙ c.loop-caller.invariant.hands_left in
    let passes = c.requires.hands.each caller c.in-Some.passes (is_next hands caller c.in-Some.passes (into_iter_items c.next.new.self) next) in
    let caller_is : c.new-seat.result.caller ≡ caller = ap (λ (seat : SeatState). seat.caller) c.new-seat.ensures in
    c.new-seat.ensures
    ∙ (seat_of_parts hall caller c.deref.result.now c.hall.inside.setup c.in-Some.passes.items (c.deref.ensures.value ∙ ap (λ (h : HallState). h.locks) c.hall.view_is) (ap (λ (h : HallState). h.setup) c.hall.view_is) passes
    ∙ ap (λ (n : ℕ). fresh_seat hall n) (sym caller_is))

pub actor_of-requires-clause-post : goal.actor_of-requires-clause-post
actor_of-requires-clause-post g c =
    let plan = plan_of c.args.hall.now c.args.desk.incoming.value.items c.args.desk.outgoing.value.items in
    let caller = c.loop-caller.caller in
    let posts = c.args.desk.posts.items in
    let next = sym c.in-Some-next.ensures.items ∙ c.loop-caller.invariant.posts_left in
    let is = c.requires.posts.each caller c.in-Some-next.post (is_next posts caller c.in-Some-next.post (into_iter_items c.next-in-loop-caller.new.self) next) in
    let caller_is : c.new-seat.result.caller ≡ caller = ap (λ (seat : SeatState). seat.caller) c.new-seat.ensures in
    subst (λ (n : ℕ). IsPost plan (role_in plan n) c.in-Some-next.post) (sym caller_is) is

pub loop-caller-preserved : goal.loop-caller-preserved
loop-caller-preserved g c =
    let before = c.loop-caller.invariant in
    let more = c.push_reserved.ensures in
    let caller = c.loop-caller.caller in
    let node = staffing_of c.args.hall.now c.args.desk.incoming.value.items c.args.desk.outgoing.value.items c.args.clock.now in
    let caller_is : c.new-seat.result.caller ≡ caller = ap (λ (seat : SeatState). seat.caller) c.new-seat.ensures in
    record {
      hands_left = are_left c.args.desk.hands.items caller c.in-Some.passes (into_iter_items c.next.new.self) (sym c.in-Some.ensures.items ∙ before.hands_left);
      posts_left = are_left c.args.desk.posts.items caller c.in-Some-next.post (into_iter_items c.next-in-loop-caller.new.self) (sym c.in-Some-next.ensures.items ∙ before.posts_left);
      staff = one_more_added (IsStaffAt {H = g.row.H.Denot} {R = g.row.R.Denot} {S = g.row.S.Denot} {G = g.row.G.Denot} {K = g.row.S-K.Denot} {M = g.row.S-M.Denot} {D = g.row.S-D.Denot} {Z = g.row.S-C.Denot} {W = g.row.S-W.Denot}
          g.S.Suite.meaning g.C.Clock.may_give g.N.LinkIn.left g.N.LinkIn.faults g.O.LinkOut.given g.O.LinkOut.faults node) caller (caller + 1)
          c.args.actors.now.items c.loop-caller.actors.items c.push_reserved.new.self.items c.actor_of.result before.staff more.items refl
          (subst (λ (n : ℕ). IsStaffAt {H = g.row.H.Denot} {R = g.row.R.Denot} {S = g.row.S.Denot} {G = g.row.G.Denot} {K = g.row.S-K.Denot} {M = g.row.S-M.Denot} {D = g.row.S-D.Denot} {Z = g.row.S-C.Denot} {W = g.row.S-W.Denot}
          g.S.Suite.meaning g.C.Clock.may_give g.N.LinkIn.left g.N.LinkIn.faults g.O.LinkOut.given g.O.LinkOut.faults node n c.actor_of.result) caller_is c.actor_of.ensures);
      len = (let a = before.len in let b = more.len in omega arith);
      room = more.capacity ∙ before.room;
    }
