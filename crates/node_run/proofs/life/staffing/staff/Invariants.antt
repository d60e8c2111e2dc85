use Rattle.std.proofs.Common.{◌≡◌, ◌+◌, drop, vec_len}
use Rattle.std.specs.Prelude.{vec_capacity}
use Rattle.std.specs.Vec.Iter.{into_iter_items}
use Rattle.node_run.specs.Posts.{AddsEach}
use Rattle.node_run.specs.Staffs.{IsStaffAt, staffing_of}
use Rattle.node_run.proofs.life.staffing.staff.Given as goal

abbrev pub invariant-loop-caller : goal.invariant-loop-caller
invariant-loop-caller g l = record {
  hands_left : into_iter_items l.hands ≡ drop l.caller l.fn.desk.hands.items;
  posts_left : into_iter_items l.posts ≡ drop l.caller l.fn.desk.posts.items;
  staff : AddsEach (IsStaffAt g.S.Suite.meaning g.C.Clock.may_give g.N.LinkIn.left g.N.LinkIn.faults g.O.LinkOut.given g.O.LinkOut.faults
      (staffing_of l.hall l.fn.desk.incoming.value.items l.fn.desk.outgoing.value.items l.clock)) l.caller l.initial.actors.items l.actors.items;
  len : vec_len l.actors ≡ vec_len l.initial.actors + l.caller;
  room : vec_capacity l.actors ≡ vec_capacity l.initial.actors;
}
