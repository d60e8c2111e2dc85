-- The inverse that a definition by search has is every polynomial in range whose product is 1.
use Rattle.std.proofs.Common.{◌≡◌, ℕ, zero, suc, ◌+◌, ◌*◌, ◌/◌, ◌<◌, inl, inr, ℤ, pos, ◌+ℤ◌, ◌-ℤ◌, unsigned_abs, true, List, [], ◌∷◌, length, map, refl, subst, arith, Some, None}
use Rattle.std.specs.Prelude.{◌↔◌}
use Rattle.std.specs.List.{range_with_len}
use Rattle.std.specs.Cmp.Rules.{signed_items}
use Rattle.std.proofs.lemmas.Int.{ints}
use Rattle.ntru_ring.specs.Centring.{IsWithin}
use Rattle.ntru_ring.specs.Polynomials.{IsPolynomial, coefficient, one_polynomial}
use Rattle.ntru_ring.specs.Product.{product}
use Rattle.ntru_ring.proofs.Lists.{zero_within}
use Rattle.field_solve.specs.Answers.{HasNoInverse, IsInverse, IsOnlyInverse}
use Rattle.field_solve.specs.Moduli.{prime_of}
use Rattle.field_solve.specs.declared.fields.Modulus.{Modulus}
use Rattle.field_solve.proofs.Laws.{one_inverse}
use Rattle.ntru_prime.specs.Inverses.{are_inverse, integers_within, inverse_of, lists_of, polynomials_within}
use Rattle.ntru_prime.proofs.Members.{Member, Member-map, Member-map_from, Member-flat_map, Member-flat_map_from, Member-range, Member-range_from, find_none, find_only, find_passes}

-- the integers within a bound, and no others
within_is_member : (bound : ℕ) (z : ℤ) → IsWithin bound z → Member (integers_within bound) z
within_is_member bound z within =
    let n : ℕ = unsigned_abs (z +ℤ pos bound) in
    let back : pos n -ℤ pos bound ≡ z = omega (arith, ints, within.low, within.high) in
    let small : n < 2 * bound + 1 = omega (arith, ints, within.low, within.high) in
    subst (λ y. Member (integers_within bound) y) back
    (Member-map (λ (k : ℕ). pos k -ℤ pos bound) (range_with_len 0 (2 * bound + 1)) n (Member-range 0 (2 * bound + 1) n (omega arith) (omega arith)))

member_is_within : (bound : ℕ) (z : ℤ) → Member (integers_within bound) z → IsWithin bound z
member_is_within bound z member =
    let from = Member-map_from (λ (k : ℕ). pos k -ℤ pos bound) (range_with_len 0 (2 * bound + 1)) z member in
    let inside = Member-range_from 0 (2 * bound + 1) from.0 from.1 in
    record { low = omega (arith, ints, inside.1, from.2); high = omega (arith, ints, inside.1, from.2) }

-- the lists of n such integers, and no others
list_is_member : (bound n : ℕ) (xs : List ℤ) → length xs ≡ n → ((k : ℕ) → IsWithin bound (coefficient xs k)) → Member (lists_of (integers_within bound) n) xs
unfolding lists_of Member
list_is_member bound zero [] long within = inl refl
list_is_member bound zero (x ∷ xs) long within = absurd (omega (arith, long))
list_is_member bound (suc n) [] long within = absurd (omega (arith, long))
list_is_member bound (suc n) (x ∷ xs) long within =
    let rest = list_is_member bound n xs (omega (arith, long)) (λ k. within (suc k)) in
    Member-flat_map (λ ys. map (λ entry. entry ∷ ys) (integers_within bound)) (lists_of (integers_within bound) n) xs (x ∷ xs) rest
    (Member-map (λ entry. entry ∷ xs) (integers_within bound) x (within_is_member bound x (within 0)))

pub record IsListWithin (bound n : ℕ) (xs : List ℤ) : Type 0 where
  pub whole : length xs ≡ n
  pub within : (k : ℕ) → IsWithin bound (coefficient xs k)

one_more_within : (bound n : ℕ) (x : ℤ) (xs ys : List ℤ) → IsWithin bound x → IsListWithin bound n xs → x ∷ xs ≡ ys → IsListWithin bound (suc n) ys
one_more_within bound n x xs ys first rest same =
    subst (λ zs. IsListWithin bound (suc n) zs) same (record { whole = omega (arith, rest.whole); within = λ k. at k })
  where
    at : (k : ℕ) → IsWithin bound (coefficient (x ∷ xs) k)
    at zero = first
    at (suc k) = rest.within k

member_is_list : (bound n : ℕ) (xs : List ℤ) → Member (lists_of (integers_within bound) n) xs → IsListWithin bound n xs
unfolding lists_of Member
member_is_list bound zero xs (inl same) = subst (λ ys. IsListWithin bound 0 ys) same (record { whole = refl; within = λ k. zero_within bound })
member_is_list bound zero xs (inr none) = absurd none
member_is_list bound (suc n) xs member =
    let from = Member-flat_map_from (λ ys. map (λ entry. entry ∷ ys) (integers_within bound)) (lists_of (integers_within bound) n) xs member in
    let first = Member-map_from (λ entry. entry ∷ from.0) (integers_within bound) xs from.2 in
    one_more_within bound n first.0 from.0 xs (member_is_within bound first.0 first.1) (member_is_list bound n from.0 from.1) first.2

polynomial_is_member : (bound : ℕ) (xs : List ℤ) → IsPolynomial bound xs → Member (polynomials_within bound) xs
unfolding polynomials_within
polynomial_is_member bound xs polynomial = list_is_member bound 761 xs polynomial.whole polynomial.in_range

member_is_polynomial : (bound : ℕ) (xs : List ℤ) → Member (polynomials_within bound) xs → IsPolynomial bound xs
unfolding polynomials_within
member_is_polynomial bound xs member = let list = member_is_list bound 761 xs member in record { whole = list.whole; in_range = list.within }

-- the test says that the product is 1
test_says : (prime : ℕ) (poly other : List ℤ) → are_inverse prime poly other ≡ true → product prime poly other ≡ one_polynomial
unfolding are_inverse
test_says prime poly other passes = (signed_items (product prime poly other) one_polynomial).0 passes

says_test : (prime : ℕ) (poly other : List ℤ) → product prime poly other ≡ one_polynomial → are_inverse prime poly other ≡ true
unfolding are_inverse
says_test prime poly other one = (signed_items (product prime poly other) one_polynomial).1 one

-- the only inverse is the one that the definition has
pub inverse_of-only : (prime : ℕ) (poly u : List ℤ) → IsInverse prime poly u → IsOnlyInverse prime poly u → inverse_of prime poly ≡ Some u
unfolding inverse_of
inverse_of-only prime poly u inverse only =
    find_only (are_inverse prime poly) (polynomials_within (prime / 2)) u (polynomial_is_member (prime / 2) u inverse.in_range) (says_test prime poly u inverse.product_is_one)
    (λ w member passes. only w (record { in_range = member_is_polynomial (prime / 2) w member; product_is_one = test_says prime poly w passes }))

-- so the inverse of the definition is every inverse
pub inverse_of_exactly : (modulus : Modulus) (poly u : List ℤ) → IsPolynomial (prime_of modulus / 2) poly → (inverse_of (prime_of modulus) poly ≡ Some u) ↔ IsInverse (prime_of modulus) poly u
unfolding inverse_of
inverse_of_exactly modulus poly u polynomial =
    let prime = prime_of modulus in (
      λ found.
          let passes = find_passes (are_inverse prime poly) (polynomials_within (prime / 2)) u found in
          record { in_range = member_is_polynomial (prime / 2) u passes.0; product_is_one = test_says prime poly u passes.1 },
      λ inverse. inverse_of-only prime poly u inverse (λ w other. one_inverse modulus poly u w polynomial inverse other),
    )

-- where there is no inverse, the definition has none
pub inverse_of-none : (prime : ℕ) (poly : List ℤ) → HasNoInverse prime poly → inverse_of prime poly ≡ None
unfolding inverse_of
inverse_of-none prime poly never =
    find_none (are_inverse prime poly) (polynomials_within (prime / 2))
    (λ w member passes. never w (record { in_range = member_is_polynomial (prime / 2) w member; product_is_one = test_says prime poly w passes }))
