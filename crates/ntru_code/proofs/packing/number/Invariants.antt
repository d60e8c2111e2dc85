use Rattle.std.proofs.Common.{◌≡◌, ◌+◌, ◌-◌, ◌≤◌}
use Rattle.ntru_code.specs.Packing.{number}
use Rattle.ntru_code.proofs.packing.number.Given as goal

abbrev pub invariant-loop-place : goal.invariant-loop-place
invariant-loop-place g l = (l.place ≤ l.last) × (l.value ≡ number l.base (g.D.Digits.at l.digits) (l.start + l.place) (l.last - l.place))

abbrev pub decreases-loop-place : goal.decreases-loop-place
decreases-loop-place g l = l.place
