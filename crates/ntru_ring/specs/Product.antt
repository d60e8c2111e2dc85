-- The product of the ring Z[x]/(x^761 - x - 1), over integers, and then centred modulo 3 or 4591.
use Rattle.std.specs.Prelude.{ℕ, zero, suc, ◌+◌, ◌-◌, ℤ, pos, ◌+ℤ◌, ◌*ℤ◌, List}
use Rattle.ntru_ring.specs.Centring.{centred}
use Rattle.ntru_ring.specs.Polynomials.{coefficient, coefficients}

-- the sum of the terms of the places below n
unfoldable pub sum_below : ℕ → (ℕ → ℤ) → ℤ
sum_below zero term = pos 0
sum_below (suc n) term = sum_below n term +ℤ term n

-- the plain product of two polynomials, at a place: the sum over all pairs of places that add up to it
unfoldable pub convolution : (ℕ → ℤ) → (ℕ → ℤ) → ℕ → ℤ
convolution a b place = sum_below (suc place) (λ i. a i *ℤ b (place - i))

-- Each x^761 is replaced by x + 1: what stands at the place 761 + m, with m up to 759, goes to the places m and
-- m + 1. So nothing comes to the place 0 from below, and 1520, the last place of a plain product, goes to 759
-- and 760.
unfoldable pub folded : (ℕ → ℤ) → ℕ → ℤ
folded plain zero = plain 0 +ℤ plain 761
folded plain (suc m) = plain (suc m) +ℤ plain (761 + suc m) +ℤ plain (761 + m)

-- the product over the integers, at a place below 761
unfoldable pub ring_coefficient : List ℤ → List ℤ → ℕ → ℤ
ring_coefficient a b place = folded (convolution (coefficient a) (coefficient b)) place

-- the product modulo an odd number, each coefficient centred
unfoldable pub product : ℕ → List ℤ → List ℤ → List ℤ
product modulus a b = coefficients 761 (λ place. centred modulus (ring_coefficient a b place))
