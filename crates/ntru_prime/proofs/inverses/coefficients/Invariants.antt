use Rattle.std.proofs.Common.{◌≡◌, take}
use Rattle.ntru_prime.proofs.inverses.coefficients.Given as goal

abbrev pub invariant-loop-place : goal.invariant-loop-place
invariant-loop-place l = l.list.items ≡ take l.place l.poly
