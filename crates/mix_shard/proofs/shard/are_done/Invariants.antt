use Rattle.std.proofs.Common.{drop, ◌↔◌}
use Rattle.mix_shard.specs.Kept.{AreEvenDone}
use Rattle.mix_shard.proofs.shard.are_done.Given as goal

abbrev pub invariant-loop-caller : goal.invariant-loop-caller
invariant-loop-caller l = AreEvenDone l.caller (drop l.caller l.done) ↔ AreEvenDone 0 l.done
