-- What the numbers show of the centred coefficients: a product in the ring that is 1 or 0.
use Rattle.std.proofs.Common.{◌≡◌, ◌≢◌, ℕ, zero, suc, ◌+◌, ◌*◌, ◌/◌, ◌%◌, ◌<◌, ◌≤◌, List, length, slice_index, inl, inr, arith, refl, sym, ap, ◌∙◌, subst, ℤ, pos, ◌+ℤ◌}
use Rattle.std.specs.Prelude.{◌*ℤ◌, ◌-ℤ◌, negsuc}
use Rattle.std.specs.Int.{int_rem_euclid}
use Rattle.std.proofs.Math.Nat.{add-mul-mod_self_right, mod-eq_of_lt}
use Rattle.std.proofs.lemmas.Bool.{cases_lt}
use Rattle.std.proofs.lemmas.Int.{ints, int_rem_euclid_is}
use Rattle.std.proofs.lemmas.List.{get_or-replicate, get_or_past, length-replicate, ext_get_or}
use Rattle.ntru_ring.specs.Centring.{IsCongruent, centred}
use Rattle.ntru_ring.specs.Polynomials.{IsPolynomial, coefficient, coefficients, one_polynomial, zero_polynomial}
use Rattle.ntru_ring.specs.Product.{product, ring_coefficient}
use Rattle.ntru_ring.proofs.Ring.{coefficient_at, length-coefficients}
use Rattle.field_solve.specs.Answers.{IsDivisor}
use Rattle.field_solve.specs.Elimination.{Divides, Inverts, times}
use Rattle.field_solve.proofs.Congruences.{congruent_chained, congruent_same, congruent_turned}
use Rattle.field_solve.proofs.Linear.{coefficient_of, coefficient_of-congruent}

-- a number that is small enough is the centred residue of all that is congruent to it
centred-near : (m b : ℕ) (a : ℤ) → b + m / 2 < m → IsCongruent m a (pos b) → centred m a ≡ pos b
unfolding centred
centred-near m b a small h = by h.0 h.1
  where
    half : ℕ
    half = m / 2

    by : (q : ℤ) → a ≡ pos b +ℤ q *ℤ pos m → int_rem_euclid (a +ℤ pos (m / 2)) (pos m) -ℤ pos (m / 2) ≡ pos b
    by (pos q) e =
        let z : a +ℤ pos (m / 2) +ℤ pos (0 * m) ≡ pos (b + m / 2 + q * m) = omega (arith, ints, e) in
        let r = int_rem_euclid_is (a +ℤ pos (m / 2)) (pos m) m 0 (b + m / 2 + q * m) (omega arith) refl z in
        let t : (b + m / 2 + q * m) % m ≡ b + m / 2 = add-mul-mod_self_right (b + m / 2) q m ∙ mod-eq_of_lt small in
        omega (arith, ints, r, t)
    by (negsuc q) e =
        let z : a +ℤ pos (m / 2) +ℤ pos (suc q * m) ≡ pos (b + m / 2) = omega (arith, ints, e) in
        let r = int_rem_euclid_is (a +ℤ pos (m / 2)) (pos m) m (suc q) (b + m / 2) (omega arith) refl z in
        let t : (b + m / 2) % m ≡ b + m / 2 = mod-eq_of_lt small in
        omega (arith, ints, r, t)

zero_or_one : (m : ℕ) → 1 < m → IsCongruent m (pos 0) (pos 1) → ⊥
zero_or_one m big h = by h.0 h.1
  where
    by : (q : ℤ) → pos 0 ≡ pos 1 +ℤ q *ℤ pos m → ⊥
    by (pos q) e = omega (arith, ints, e)
    by (negsuc q) e = let one : suc q * m ≡ 1 = omega (arith, ints, e) in omega arith

-- a list of coefficients is the one whose coefficients it has
same_polynomial : (n : ℕ) (at : ℕ → ℤ) (polynomial : List ℤ) → length polynomial ≡ n → ((place : ℕ) → place < n → at place ≡ coefficient polynomial place) → coefficients n at ≡ polynomial
same_polynomial n at polynomial whole h =
    ext_get_or (pos 0) (coefficients n at) polynomial (length-coefficients n at ∙ sym whole)
    (λ place within. let below : place < n = subst (λ (m : ℕ). place < m) (length-coefficients n at) within in coefficient_at n at place below ∙ h place below)

pub one_polynomial-whole : length one_polynomial ≡ 761
unfolding one_polynomial
one_polynomial-whole = ap suc (length-replicate 760 (pos 0))

pub one_polynomial-first : coefficient one_polynomial 0 ≡ pos 1
unfolding one_polynomial
one_polynomial-first = refl

pub one_polynomial-rest : (place : ℕ) → suc place < 761 → coefficient one_polynomial (suc place) ≡ pos 0
unfolding one_polynomial
one_polynomial-rest place within = get_or-replicate 760 place (pos 0) (pos 0) (omega arith)

pub zero_polynomial-whole : length zero_polynomial ≡ 761
unfolding zero_polynomial
zero_polynomial-whole = length-replicate 761 (pos 0)

pub zero_polynomial-at : (place : ℕ) → place < 761 → coefficient zero_polynomial place ≡ pos 0
unfolding zero_polynomial
zero_polynomial-at place within = get_or-replicate 761 place (pos 0) (pos 0) within

-- the coefficients stand for the numbers at each place
pub record StandsFor (prime : ℕ) (polynomial : List ℤ) (numbers : List ℕ) : Type 0 where
  pub whole : length polynomial ≡ 761
  pub short : length numbers ≤ 761
  pub at : (place : ℕ) → place < 761 → IsCongruent prime (coefficient polynomial place) (pos (slice_index numbers place))

everywhere : (prime : ℕ) (polynomial : List ℤ) (numbers : List ℕ) → StandsFor prime polynomial numbers → (place : ℕ) → IsCongruent prime (coefficient polynomial place) (pos (slice_index numbers place))
everywhere prime polynomial numbers stands place = elim (cases_lt place 761) [
  | inl below ↦ stands.at place below
  | inr above ↦
      let past : length polynomial ≤ place = omega (arith, stands.whole) in
      let none : length numbers ≤ place = omega (arith, stands.short) in
      congruent_same prime (coefficient polynomial place) (pos (slice_index numbers place))
      (get_or_past polynomial place (pos 0) past ∙ ap pos (sym (get_or_past numbers place 0 none)))
]

ring_coefficient-congruent : (prime : ℕ) (poly polynomial : List ℤ) (numbers : List ℕ) → StandsFor prime polynomial numbers → (place : ℕ) → IsCongruent prime (ring_coefficient poly polynomial place) (times (coefficient poly) numbers place)
unfolding ring_coefficient times coefficient_of
ring_coefficient-congruent prime poly polynomial numbers stands place =
    coefficient_of-congruent prime (coefficient poly) (coefficient polynomial) (λ i. pos (slice_index numbers i)) (everywhere prime polynomial numbers stands) place

product-near : (prime : ℕ) (poly polynomial : List ℤ) (numbers : List ℕ) (place value : ℕ) → value + prime / 2 < prime → StandsFor prime polynomial numbers
    → IsCongruent prime (times (coefficient poly) numbers place) (pos value) → centred prime (ring_coefficient poly polynomial place) ≡ pos value
product-near prime poly polynomial numbers place value small stands h =
    centred-near prime value (ring_coefficient poly polynomial place) small
    (congruent_chained prime (ring_coefficient poly polynomial place) (times (coefficient poly) numbers place) (pos value) (ring_coefficient-congruent prime poly polynomial numbers stands place) h)

inverts-at : (prime : ℕ) (t : ℤ) (start one : ℤ) → start +ℤ one ≡ pos 0 → IsCongruent prime (pos 0) (start +ℤ t) → IsCongruent prime t one
inverts-at prime t start one e h =
    let k = congruent_turned prime (pos 0) (start +ℤ t) h in
    (k.0, omega (arith, ints, k.1, e))

pub product-inverse : (prime : ℕ) (poly polynomial : List ℤ) (numbers : List ℕ) → 1 + prime / 2 < prime → StandsFor prime polynomial numbers → Inverts prime (coefficient poly) numbers → product prime poly polynomial ≡ one_polynomial
unfolding product
product-inverse prime poly polynomial numbers small stands inverts =
    same_polynomial 761 (λ place. centred prime (ring_coefficient poly polynomial place)) one_polynomial one_polynomial-whole by
  where
    by : (place : ℕ) → place < 761 → centred prime (ring_coefficient poly polynomial place) ≡ coefficient one_polynomial place
    by zero within = product-near prime poly polynomial numbers 0 1 small stands (inverts-at prime (times (coefficient poly) numbers 0) (negsuc 0) (pos 1) refl (inverts.at 0 within)) ∙ sym one_polynomial-first
    by (suc place) within =
        product-near prime poly polynomial numbers (suc place) 0 (omega arith) stands (inverts-at prime (times (coefficient poly) numbers (suc place)) (pos 0) (pos 0) refl (inverts.at (suc place) within))
        ∙ sym (one_polynomial-rest place within)

pub product-divisor : (prime : ℕ) (poly polynomial : List ℤ) (numbers : List ℕ) → 1 + prime / 2 < prime → StandsFor prime polynomial numbers → Divides prime poly numbers → product prime poly polynomial ≡ zero_polynomial
unfolding product
product-divisor prime poly polynomial numbers small stands divides =
    same_polynomial 761 (λ place. centred prime (ring_coefficient poly polynomial place)) zero_polynomial zero_polynomial-whole
    (λ place within.
    product-near prime poly polynomial numbers place 0 (omega arith) stands
    (congruent_turned prime (pos 0) (times (coefficient poly) numbers place) (divides.zero_product place within))
    ∙ sym (zero_polynomial-at place within))

pub divisor-some : (prime : ℕ) (poly polynomial : List ℤ) (numbers : List ℕ) → 1 < prime → StandsFor prime polynomial numbers → Divides prime poly numbers → polynomial ≢ zero_polynomial
divisor-some prime poly polynomial numbers big stands divides e =
    let place = divides.some.0 in
    let within = divides.some.1 in
    let zero_here : coefficient polynomial place ≡ pos 0 = ap (λ (l : List ℤ). coefficient l place) e ∙ zero_polynomial-at place within in
    let h = stands.at place within in
    let one_here : pos (slice_index numbers place) ≡ pos 1 = ap pos divides.some.2 in
    zero_or_one prime big (h.0, sym zero_here ∙ h.1 ∙ ap (λ z. z +ℤ h.0 *ℤ pos prime) one_here)

pub divisor_of : (prime : ℕ) (poly polynomial : List ℤ) (numbers : List ℕ) → 1 + prime / 2 < prime → IsPolynomial (prime / 2) polynomial → StandsFor prime polynomial numbers → Divides prime poly numbers → IsDivisor prime poly polynomial
divisor_of prime poly polynomial numbers small in_range stands divides = record {
  in_range = in_range;
  is_not_zero = divisor-some prime poly polynomial numbers (omega arith) stands divides;
  product_is_zero = product-divisor prime poly polynomial numbers small stands divides;
}
