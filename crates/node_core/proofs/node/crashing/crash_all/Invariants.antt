use Rattle.node_core.proofs.Crashing.{CrashedBelow}
use Rattle.node_core.proofs.node.crashing.crash_all.Given as goal

abbrev pub invariant-loop-place : goal.invariant-loop-place
invariant-loop-place g l = CrashedBelow g.R.Rack.tells g.S.Suite.meaning l.pick l.place l.initial.shards l.shards
