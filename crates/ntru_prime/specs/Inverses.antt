-- The inverse of a polynomial, by nothing but what it is: the polynomial in range whose product with it is 1. There
-- is at most one, so it is no matter in which order they are looked through. No program ever does.
use Rattle.std.specs.Prelude.{ℕ, zero, suc, ◌+◌, ◌*◌, ◌/◌, ℤ, pos, ◌-ℤ◌, List, [], ◌∷◌, map, flat_map, Bool, Option, find}
use Rattle.std.specs.List.{range_with_len}
use Rattle.std.specs.Ordering.{int_eq}
use Rattle.std.specs.Cmp.Lexicographic.{pointwise}
use Rattle.ntru_ring.specs.Polynomials.{one_polynomial}
use Rattle.ntru_ring.specs.Product.{product}

-- the integers within a bound
abbrev pub integers_within : ℕ → List ℤ
integers_within bound = map (λ n. pos n -ℤ pos bound) (range_with_len 0 (2 * bound + 1))

-- the lists of n of these entries
unfoldable pub lists_of : List ℤ → ℕ → List (List ℤ)
lists_of entries zero = [] ∷ []
lists_of entries (suc n) = flat_map (λ rest. map (λ entry. entry ∷ rest) entries) (lists_of entries n)

-- the polynomials within a bound: 761 coefficients each
unfoldable pub polynomials_within : ℕ → List (List ℤ)
polynomials_within bound = lists_of (integers_within bound) 761

-- modulo the prime, the product of the two is 1
unfoldable pub are_inverse : ℕ → List ℤ → List ℤ → Bool
are_inverse prime poly other = pointwise int_eq (product prime poly other) one_polynomial

-- the inverse of a polynomial modulo the prime, where it has one
unfoldable pub inverse_of : ℕ → List ℤ → Option (List ℤ)
inverse_of prime poly = find (are_inverse prime poly) (polynomials_within (prime / 2))
