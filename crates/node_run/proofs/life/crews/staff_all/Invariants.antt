use Rattle.std.proofs.Common.{◌≡◌, ◌+◌, [], take, drop, vec_len, vec_capacity}
use Rattle.std.specs.List.{AllZip}
use Rattle.std.specs.Vec.Iter.{into_iter_items}
use Rattle.node_run.specs.Crews.{IsStaffOf, staff_in}
use Rattle.node_run.specs.Houses.{IsDesk}
use Rattle.node_run.specs.Parts.{Parted}
use Rattle.node_run.proofs.life.crews.staff_all.Given as goal

abbrev pub invariant-loop-house : goal.invariant-loop-house
invariant-loop-house g l = record {
  desks : AllZip IsDesk (drop l.house-index l.houses) (into_iter_items l.desks);
  staff : Parted (IsStaffOf g.S.Suite.meaning g.C.Clock.may_give g.N.LinkIn.left g.N.LinkIn.faults g.O.LinkOut.given g.O.LinkOut.faults l.clock)
      (λ rest. rest ≡ []) (take l.house-index l.houses) l.actors.items;
  len : vec_len l.actors ≡ staff_in (take l.house-index l.houses);
  room : vec_capacity l.actors ≡ vec_capacity l.fn.actors;
}
