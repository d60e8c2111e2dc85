use Rattle.std.proofs.Common.{◌≡◌, ◌≤◌, ◌++◌, length, vec_len, vec_capacity}
use Rattle.std.specs.List.{AllZip}
use Rattle.std.specs.Vec.Iter.{into_iter_items, into_iter_len}
use Rattle.node_run.specs.Crews.{AreAllLeft}
use Rattle.node_run.specs.Houses.{node_of}
use Rattle.node_run.specs.Partings.{HasServed}
use Rattle.node_run.proofs.life.partings.end_houses.Given as goal

abbrev pub invariant-loop-house : goal.invariant-loop-house
invariant-loop-house g l = record {
  whole : l.fn.houses.items ≡ l.yielded ++ into_iter_items l.house-iterator;
  count : into_iter_len l.house-iterator ≡ length (into_iter_items l.house-iterator);
  left : AreAllLeft g.S.Suite.meaning g.C.Clock.may_give g.N.LinkIn.left g.N.LinkIn.faults g.O.LinkOut.given g.O.LinkOut.faults l.clock
      (into_iter_items l.house-iterator) l.feeds.value.items (into_iter_items l.lefts);
  served : AllZip (λ house end. HasServed g.R.Rack.tells g.S.Suite.meaning g.C.Clock.may_give g.N.LinkIn.left g.N.LinkIn.faults g.O.LinkOut.given g.O.LinkOut.faults
      (node_of l.clock house) end) l.yielded l.ends.items;
  len : vec_len l.ends ≡ length l.yielded;
  room : length l.fn.houses.items ≤ vec_capacity l.ends;
}
