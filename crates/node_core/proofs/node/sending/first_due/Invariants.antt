use Rattle.std.proofs.Common.{take}
use Rattle.node_core.specs.Inside.{HasFound}
use Rattle.node_core.specs.Nodes.{all_held}
use Rattle.node_core.proofs.node.sending.first_due.Given as goal

abbrev pub invariant-loop-place : goal.invariant-loop-place
invariant-loop-place g l = HasFound l.moment l.shards (all_held (take l.place l.shards)) l.first
