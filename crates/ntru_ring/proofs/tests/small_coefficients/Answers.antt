use Rattle.std.proofs.Common.{negsuc, arith}
use Rattle.std.proofs.lemmas.Int.{ints}
use Rattle.ntru_ring.proofs.Lists.{replicate_is_polynomial}
use Rattle.ntru_ring.proofs.tests.small_coefficients.Goals as goal

pub from_list-requires : goal.from_list-requires
from_list-requires g c = replicate_is_polynomial 1 (negsuc 0) (record { low = omega (arith, ints); high = omega (arith, ints) })
