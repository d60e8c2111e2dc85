-- Polynomials as lists of 761 integers, the coefficient of x^k at place k; and what is done to each coefficient
-- alone.
use Rattle.std.specs.Prelude.{◌≡◌, ℕ, ◌<◌, ℤ, pos, ◌*ℤ◌, List, ◌∷◌, length, map, replicate, slice_index_or, nat_lt, unsigned_abs, count_by}
use Rattle.std.specs.List.{range_with_len}
use Rattle.ntru_ring.specs.Centring.{IsWithin, IsResidue, IsNearestMultiple, centred, nearest_multiple}

-- the coefficient at a place; past the last one it is zero
abbrev pub coefficient : List ℤ → ℕ → ℤ
coefficient polynomial place = slice_index_or polynomial place (pos 0)

-- the list of the first coefficients, in the number that is asked for
unfoldable pub coefficients : ℕ → (ℕ → ℤ) → List ℤ
coefficients count at = map at (range_with_len 0 count)

-- 761 coefficients, each within the bound
pub record IsPolynomial (bound : ℕ) (polynomial : List ℤ) : Type 0 where
  pub whole : length polynomial ≡ 761
  pub in_range : (place : ℕ) → IsWithin bound (coefficient polynomial place)

-- each coefficient is the centred residue of the integer for its place
abbrev pub AreResidues : ℕ → (ℕ → ℤ) → List ℤ → Type 0
AreResidues modulus integer polynomial =
    (place : ℕ) → place < 761 → IsResidue modulus (integer place) (coefficient polynomial place)

-- each coefficient is the multiple of 3 that is nearest to the one at its place
abbrev pub AreNearestMultiples : List ℤ → List ℤ → Type 0
AreNearestMultiples before after =
    (place : ℕ) → IsNearestMultiple (coefficient before place) (coefficient after place)

-- the polynomials 0 and 1
unfoldable pub zero_polynomial : List ℤ
zero_polynomial = replicate 761 (pos 0)

unfoldable pub one_polynomial : List ℤ
one_polynomial = pos 1 ∷ replicate 760 (pos 0)

-- three times a polynomial, modulo 4591
abbrev pub tripled : List ℤ → List ℤ
tripled polynomial = map (λ c. centred 4591 (c *ℤ pos 3)) polynomial

-- each coefficient modulo 3
abbrev pub reduced : List ℤ → List ℤ
reduced polynomial = map (centred 3) polynomial

-- each coefficient rounded to a multiple of 3
abbrev pub rounded : List ℤ → List ℤ
rounded polynomial = map nearest_multiple polynomial

-- how many coefficients aren't zero
abbrev pub weight : List ℤ → ℕ
weight polynomial = count_by (λ c. nat_lt 0 (unsigned_abs c)) polynomial
