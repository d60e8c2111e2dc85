use Rattle.std.proofs.Common.{◌≤◌}
use Rattle.mix_top.specs.Acts.{of_each}
use Rattle.mix_top.specs.Progress.{GoesOn, Goes, act_at}
use Rattle.mix_top.proofs.serving.go_round.Given as goal

-- the shards before this one were visited
abbrev pub invariant-loop-shard : goal.invariant-loop-shard
invariant-loop-shard g l = record {
  goes : Goes g.C.Rack.tells g.S.Suite.meaning (of_each (act_at l.round) 0 l.shard) l.initial.node l.node (g.R.Receiver.took l.initial.receiver l.receiver);
  node : GoesOn g.C.Rack.tells g.S.Suite.meaning 0 l.initial.node l.node;
  write_faults : g.R.Receiver.failures l.initial.receiver ≤ g.R.Receiver.failures l.receiver;
}
