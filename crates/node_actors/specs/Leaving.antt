-- What an actor leaves of its seat.
use Rattle.std.specs.Prelude.{List}
use Rattle.mix_shard.specs.declared.entries.Told.{Told}
use Rattle.turn_lock.specs.Seen.{Caller}
use Rattle.node_actors.specs.Seats.{AllSpent, ClaimsNothing, IsSeated, SeatState}

-- the seat with these passes
abbrev pub seat_with : SeatState → List (Caller Told) → SeatState
seat_with seat passes = record seat { passes = passes }

-- it holds no shard
abbrev pub LeavesSeat : SeatState → List (Caller Told) → Type 0
LeavesSeat seat passes = IsSeated (seat_with seat passes)

-- it holds no shard, and has claimed nothing
pub record LeavesClaims (seat : SeatState) (passes : List (Caller Told)) : Type 0 where
  pub seated : LeavesSeat seat passes
  pub nothing : ClaimsNothing seat (seat_with seat passes)

-- and when it last had each shard, that was drained
pub record LeavesDrained (seat : SeatState) (passes : List (Caller Told)) : Type 0 where
  pub seated : LeavesSeat seat passes
  pub nothing : ClaimsNothing seat (seat_with seat passes)
  pub spent : AllSpent (seat_with seat passes)
