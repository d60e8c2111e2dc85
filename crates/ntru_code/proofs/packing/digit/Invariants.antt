use Rattle.std.proofs.Common.{◌≡◌, ◌-◌}
use Rattle.ntru_code.specs.Packing.{digit}
use Rattle.ntru_code.proofs.packing.digit.Given as goal

abbrev pub invariant-loop-i : goal.invariant-loop-i
invariant-loop-i l = digit l.base (l.last - l.i) (l.place - l.i) l.rest ≡ digit l.base l.last l.place l.value
