use Rattle.std.proofs.Common.{◌≡◌, map, take}
use Rattle.ntru_ring.specs.Centring.{nearest_multiple}
use Rattle.ntru_ring.proofs.coefficients.each_rounded.Given as goal

abbrev pub invariant-loop-c : goal.invariant-loop-c
invariant-loop-c l = l.coefficients.items ≡ map nearest_multiple (take l.c-index l.list)
