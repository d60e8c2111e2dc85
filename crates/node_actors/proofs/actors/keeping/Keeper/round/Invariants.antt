use Rattle.std.proofs.Common.{◌≡◌, length}
use Rattle.node_actors.specs.Connecting.{GoesOnKeeping}
use Rattle.node_actors.proofs.actors.keeping.Keeper.round.Given as goal

abbrev pub invariant-loop-shard : goal.invariant-loop-shard
invariant-loop-shard g l = record {
  goes_on : GoesOnKeeping l.initial.self l.self;
  many : l.shard-end ≡ length l.self.taker.seat.locks;
}
