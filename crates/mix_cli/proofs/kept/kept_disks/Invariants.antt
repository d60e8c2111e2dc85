use Rattle.std.proofs.Common.{◌≡◌, length}
use Rattle.mix_cli.proofs.kept.kept_disks.Given as goal

abbrev pub invariant-loop-place : goal.invariant-loop-place
invariant-loop-place g l = length l.disks.items ≡ l.place
