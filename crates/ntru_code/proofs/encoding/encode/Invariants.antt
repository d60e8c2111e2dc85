use Rattle.std.proofs.Common.{◌≡◌, ℕ, ◌<◌, get_or}
use Rattle.ntru_code.specs.Packing.{translated}
use Rattle.ntru_code.proofs.encoding.encode.Given as goal

abbrev pub invariant-loop-place : goal.invariant-loop-place
invariant-loop-place g l = (k : ℕ) → k < l.place → get_or l.out k 0 ≡ translated l.form.fields l.form.bytes (g.D.Digits.at l.fields) k
