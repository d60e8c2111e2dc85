use Rattle.std.proofs.Common.{◌≡◌, ◌++◌, ◌+◌, ◌≤◌, List, length, reverse, vec_len, vec_capacity}
use Rattle.std.specs.Prelude.{All}
use Rattle.std.specs.List.{AllZip}
use Rattle.node_run.specs.Houses.{IsDesk, IsHouse, IsStanding}
use Rattle.node_run.specs.declared.life.seats.NodeSeat.{NodeSeat}
use Rattle.node_run.proofs.life.houses.open_each.Given as goal

abbrev pub invariant-loop-seat : goal.invariant-loop-seat
invariant-loop-seat g l = record {
  met : List (NodeSeat g.row.R.Denot g.row.S.Denot g.row.N.Denot g.row.O.Denot g.row.S-K.Denot g.row.S-M.Denot g.row.S-D.Denot g.row.S-C.Denot g.row.S-W.Denot);
  are : l.fn.nodes.items ≡ l.nodes.items ++ met;
  houses : AllZip (IsHouse g.S.K.Kem.CT l.workers) met (reverse l.houses.items);
  standing : All (IsStanding g.S.K.Kem.CT) l.houses.items;
  desks : AllZip IsDesk (reverse l.houses.items) (reverse l.desks.items);
  seats_room : vec_len l.nodes + vec_len l.houses ≤ vec_capacity l.nodes;
  houses_room : vec_len l.nodes + vec_len l.houses ≤ vec_capacity l.houses;
  desks_room : vec_len l.nodes + vec_len l.desks ≤ vec_capacity l.desks;
  seats_fit : length l.fn.nodes.items ≤ vec_capacity l.nodes;
}

abbrev pub decreases-loop-seat : goal.decreases-loop-seat
decreases-loop-seat g l = vec_len l.nodes
