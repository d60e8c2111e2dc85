use Rattle.std.proofs.Common.{◌≡◌, ◌+◌, ◌*◌}
use Rattle.ntru_ring.specs.Centring.{centred}
use Rattle.ntru_ring.specs.Polynomials.{coefficients}
use Rattle.ntru_ring.specs.Product.{ring_coefficient}
use Rattle.ntru_ring.proofs.products.product.Given as goal

abbrev pub invariant-loop-place : goal.invariant-loop-place
invariant-loop-place l = l.coefficients.items ≡ coefficients l.place (λ place. centred (2 * l.half + 1) (ring_coefficient l.a l.b place))
