use Rattle.std.proofs.Common.{◌≡◌, ◌++◌, ◌+◌, ◌≤◌, map, reverse, vec_len, vec_capacity}
use Rattle.std.specs.Prelude.{All}
use Rattle.std.specs.List.{AllZip}
use Rattle.node_run.specs.Houses.{IsDesk, IsStanding, kept_in}
use Rattle.node_run.specs.Seats.{kept_of}
use Rattle.node_run.proofs.life.houses.close_all.Given as goal

abbrev pub invariant-loop-house : goal.invariant-loop-house
invariant-loop-house g l = record {
  are : map kept_of l.initial.seats.items ++ map kept_in (reverse l.fn.houses.items) ≡ map kept_of l.seats.items ++ map kept_in (reverse l.houses.items);
  standing : All (IsStanding g.S.K.Kem.CT) l.houses.items;
  desks : AllZip IsDesk (reverse l.houses.items) (reverse l.desks.items);
  room : vec_len l.seats + vec_len l.houses ≤ vec_capacity l.seats;
}

abbrev pub decreases-loop-house : goal.decreases-loop-house
decreases-loop-house g l = vec_len l.houses
