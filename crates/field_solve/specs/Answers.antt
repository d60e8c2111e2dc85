-- The two answers of an inversion: an inverse, or a polynomial other than 0 that divides 0.
use Rattle.std.specs.Prelude.{◌≡◌, ◌≢◌, ⊤, ℕ, ◌/◌, ℤ, List}
use Rattle.ntru_ring.specs.Polynomials.{IsPolynomial, one_polynomial, zero_polynomial}
use Rattle.ntru_ring.specs.Product.{product}
use Rattle.field_solve.specs.declared.elimination.Solved.{Solved}
use Rattle.field_solve.specs.declared.elimination.Solved.TheVariants.{Inverse, Divisor}

-- modulo the prime, the product with the polynomial is 1
pub record IsInverse (prime : ℕ) (poly inverse : List ℤ) : Type 0 where
  pub in_range : IsPolynomial (prime / 2) inverse
  pub product_is_one : product prime poly inverse ≡ one_polynomial

-- modulo the prime, it isn't 0, and its product with the polynomial is 0
pub record IsDivisor (prime : ℕ) (poly divisor : List ℤ) : Type 0 where
  pub in_range : IsPolynomial (prime / 2) divisor
  pub is_not_zero : divisor ≢ zero_polynomial
  pub product_is_zero : product prime poly divisor ≡ zero_polynomial

-- no polynomial but this one is an inverse
abbrev pub IsOnlyInverse : ℕ → List ℤ → List ℤ → Type 0
IsOnlyInverse prime poly inverse = (other : List ℤ) → IsInverse prime poly other → other ≡ inverse

-- none is, or none is a divisor
abbrev pub HasNoInverse : ℕ → List ℤ → Type 0
HasNoInverse prime poly = (other : List ℤ) → ¬ IsInverse prime poly other

abbrev pub HasNoDivisor : ℕ → List ℤ → Type 0
HasNoDivisor prime poly = (other : List ℤ) → ¬ IsDivisor prime poly other

-- a fact on the inverse, where the answer is one
abbrev pub IfInverse : Solved → (List ℤ → Type 0) → Type 0
IfInverse (Inverse u) fact = fact u.items
IfInverse (Divisor v) fact = ⊤

-- a fact on the divisor, where the answer is one
abbrev pub IfDivisor : Solved → (List ℤ → Type 0) → Type 0
IfDivisor (Inverse u) fact = ⊤
IfDivisor (Divisor v) fact = fact v.items
