use Rattle.std.proofs.Common.{◌≡◌, length, ℕ, ◌<◌, true}
use Rattle.std.specs.Prelude.{Some, slice_get}
use Rattle.mix_shard.specs.declared.entries.Told.{Told}
use Rattle.turn_lock.specs.Seen.{Caller, Lock}
use Rattle.node_actors.specs.Calls.{IsSpent, terms_in}
use Rattle.node_actors.specs.Connecting.{GoesOnRotating}
use Rattle.node_actors.proofs.actors.rotating.Rotator.round.Given as goal

abbrev pub invariant-loop-shard : goal.invariant-loop-shard
invariant-loop-shard g l = record {
  kept : GoesOnRotating l.initial.self l.self;
  many : l.shard-end ≡ length l.self.seat.locks;
  spent : l.drained ≡ true → (i : ℕ) (lock : Lock Told) (pass : Caller Told) → i < l.shard → slice_get l.self.seat.locks i ≡ Some lock
      → slice_get l.self.seat.passes i ≡ Some pass → IsSpent (terms_in lock.origin).callers pass.seen;
}
