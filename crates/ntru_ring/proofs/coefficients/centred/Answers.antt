use Rattle.std.proofs.Common.{arith}
use Rattle.std.proofs.lemmas.Int.{ints, to_z-of_z}
use Rattle.ntru_ring.specs.Centring.{centred}
use Rattle.ntru_ring.proofs.Residues.{half_of_odd}
use Rattle.ntru_ring.proofs.coefficients.centred.Goals as goal

pub returns-clause-value : goal.returns-clause-value
unfolding centred
returns-clause-value c = rw half_of_odd (grind (arith, ints, to_z-of_z))
