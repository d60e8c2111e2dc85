use Rattle.std.proofs.Common.{◌≡◌, length}
use Rattle.node_actors.specs.Connecting.{GoesOnConnecting}
use Rattle.node_actors.proofs.actors.connecting.Connector.round.Given as goal

abbrev pub invariant-loop-shard : goal.invariant-loop-shard
invariant-loop-shard g l = record {
  goes_on : GoesOnConnecting l.initial.self l.self;
  many : l.shard-end ≡ length l.self.taker.seat.locks;
}
