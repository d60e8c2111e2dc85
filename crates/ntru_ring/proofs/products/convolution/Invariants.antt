use Rattle.std.proofs.Common.{◌≡◌, ℕ}
use Rattle.ntru_ring.specs.Centring.{IsWithin}
use Rattle.ntru_ring.specs.Polynomials.{coefficient, coefficients}
use Rattle.ntru_ring.specs.Product.{convolution}
use Rattle.ntru_ring.proofs.products.convolution.Given as goal

abbrev pub invariant-loop-place : goal.invariant-loop-place
invariant-loop-place l =
    (l.plain.items ≡ coefficients l.place (convolution (coefficient l.a) (coefficient l.b)))
    × ((k : ℕ) → IsWithin 4008206025 (coefficient l.plain.items k))
