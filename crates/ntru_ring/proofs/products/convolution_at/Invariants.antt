use Rattle.std.proofs.Common.{◌≡◌, ◌*◌}
use Rattle.ntru_ring.specs.Centring.{IsWithin}
use Rattle.ntru_ring.specs.Product.{sum_below}
use Rattle.ntru_ring.proofs.Sums.{pair_at}
use Rattle.ntru_ring.proofs.products.convolution_at.Given as goal

-- the pairs before i are summed, and each adds at most 5,267,025
abbrev pub invariant-loop-i : goal.invariant-loop-i
invariant-loop-i l = (l.sum ≡ sum_below l.i (pair_at l.a l.b l.place)) × IsWithin (l.i * 5267025) l.sum
