use Rattle.std.proofs.Common.{◌≡◌, length, ℕ, ◌≤◌, false}
use Rattle.std.specs.Prelude.{Some, slice_get}
use Rattle.mix_shard.specs.declared.entries.Told.{Told}
use Rattle.turn_lock.specs.Seen.{Caller}
use Rattle.node_actors.specs.Calls.{has_ended}
use Rattle.node_actors.specs.Seats.{ClaimsNothing, MovesNothing}
use Rattle.node_actors.proofs.actors.dealing.end_all.Given as goal

abbrev pub invariant-loop-shard : goal.invariant-loop-shard
invariant-loop-shard g l = record {
  nothing : ClaimsNothing l.initial.seat l.seat;
  many : l.shard-end ≡ length l.seat.locks;
  moves : MovesNothing l.seat.passes;
  not_ended : (i : ℕ) (pass : Caller Told) → l.shard ≤ i → slice_get l.seat.passes i ≡ Some pass → has_ended l.seat.caller pass.seen ≡ false;
}
