use Rattle.std.proofs.Common.{◌≡◌}
use Rattle.node_run.specs.Settlings.{AreSettledBelow}
use Rattle.node_run.proofs.life.settling.settle_each.Given as goal

abbrev pub invariant-loop-at : goal.invariant-loop-at
invariant-loop-at l = record {
  same : l.receivers.items ≡ l.initial.receivers.items;
  settled : AreSettledBelow l.at l.receivers.items;
}
