use Rattle.std.proofs.Common.{arith, ℕ, pos, ◌+ℤ◌, ◌-ℤ◌, ◌/◌, of_z, to_z, w16, unsigned_abs}
use Rattle.std.proofs.lemmas.Int.{ints}
use Rattle.ntru_ring.proofs.Residues.{nearest_multiple_only}
use Rattle.ntru_ring.proofs.coefficients.rounded.Goals as goal

pub returns-clause-value : goal.returns-clause-value
returns-clause-value c =
    let height : ℕ = unsigned_abs (to_z w16 (of_z w16 (to_z w16 (of_z w16 c.args.c) +ℤ pos 2296))) in
    nearest_multiple_only _ _ (record { multiple = (pos (height / 3) -ℤ pos 765, omega (arith, ints)); near = record { low = omega (arith, ints); high = omega (arith, ints) } })
