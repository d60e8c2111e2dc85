-- A polynomial has at most one inverse, and none where it divides zero.
use lib.IntN.{zero-*ℤ, *ℤ_comm}
use Rattle.std.proofs.Common.{◌≡◌, ℕ, zero, suc, ◌+◌, ◌-◌, ◌*◌, ◌/◌, ◌%◌, ◌<◌, ◌≤◌, List, length, inl, inr, arith, refl, sym, ap, ◌∙◌, ℤ, pos, ◌+ℤ◌}
use Rattle.std.specs.Prelude.{◌*ℤ◌, ◌-ℤ◌, negsuc}
use Rattle.std.specs.Int.{int_rem_euclid}
use Rattle.std.proofs.Math.Nat.{div-add-mod}
use Rattle.std.proofs.lemmas.Bool.{cases_lt}
use Rattle.std.proofs.lemmas.Int.{ints, int_rem_euclid_is}
use Rattle.std.proofs.lemmas.List.{get_or_past, ext_get_or}
use Rattle.ntru_ring.specs.Centring.{IsCongruent, IsWithin, centred}
use Rattle.ntru_ring.specs.Polynomials.{IsPolynomial, coefficient, one_polynomial, zero_polynomial}
use Rattle.ntru_ring.specs.Product.{product, ring_coefficient, convolution, folded}
use Rattle.ntru_ring.proofs.Ring.{coefficient_at, length-coefficients}
use Rattle.field_solve.specs.Answers.{IsDivisor, IsInverse}
use Rattle.field_solve.specs.Moduli.{prime_of}
use Rattle.field_solve.specs.declared.fields.Modulus.{Modulus}
use Rattle.field_solve.specs.declared.fields.Modulus.TheVariants.{Three, Q}
use Rattle.field_solve.proofs.Congruences.{congruent_chained, congruent_same, congruent_turned}
use Rattle.field_solve.proofs.Integers.{mul-add_right, mul_assoc}
use Rattle.field_solve.proofs.Linear.{IsSum, coefficient_of, sum_below-linear, folded-linear}
use Rattle.field_solve.proofs.Shifts.{IsShort, cut-below, cut-above, in_ring, in_ring-turned}
use Rattle.field_solve.proofs.Products.{one_polynomial-first, one_polynomial-rest, one_polynomial-whole, zero_polynomial-at, zero_polynomial-whole}
use Rattle.field_solve.proofs.Units.{sum_below-one, sum_below-zeros}

-- ---- the centred residue

neg : ℕ → ℤ
neg zero = pos 0
neg (suc n) = negsuc n

neg_times : (n m : ℕ) → neg n *ℤ pos m +ℤ pos (m * n) ≡ pos 0
unfolding neg
neg_times zero m = omega (arith, ints)
neg_times (suc n) m = omega (arith, ints)

centred-congruent : (m : ℕ) (z : ℤ) → 0 < m → IsCongruent m (centred m z) z
unfolding centred
centred-congruent m z some = by (z +ℤ pos (m / 2)) refl
  where
    by : (y : ℤ) → y ≡ z +ℤ pos (m / 2) → IsCongruent m (int_rem_euclid (z +ℤ pos (m / 2)) (pos m) -ℤ pos (m / 2)) z
    by (pos a) e =
        let sum : z +ℤ pos (m / 2) +ℤ pos (0 * m) ≡ pos a = omega (arith, ints, e) in
        let r = int_rem_euclid_is (z +ℤ pos (m / 2)) (pos m) m 0 a some refl sum in
        let parts : m * (a / m) + a % m ≡ a = div-add-mod a m in
        (neg (a / m), omega (arith, ints, e, r, parts, neg_times (a / m) m))
    by (negsuc a) e =
        let sum : z +ℤ pos (m / 2) +ℤ pos (suc a * m) ≡ pos (suc a * m - suc a) = omega (arith, ints, e, grown a m some) in
        let r = int_rem_euclid_is (z +ℤ pos (m / 2)) (pos m) m (suc a) (suc a * m - suc a) some refl sum in
        let n = suc a * m - suc a in
        let parts : m * (n / m) + n % m ≡ n = div-add-mod n m in
        (pos (suc a) +ℤ neg (n / m), omega (arith, ints, e, r, parts, sum, neg_times (n / m) m, mul-add_right (pos (suc a)) (neg (n / m)) (pos m)))
      where
        grown : (a m : ℕ) → 0 < m → suc a ≤ suc a * m
        grown a zero h = absurd (omega arith)
        grown a (suc m) h = omega arith

-- two numbers near zero that are congruent are one
near_same : (half m : ℕ) (x y : ℤ) → 2 * half < m → IsWithin half x → IsWithin half y → IsCongruent m x y → x ≡ y
near_same half m x y big within_x within_y h = by h.0 h.1
  where
    by : (q : ℤ) → x ≡ y +ℤ q *ℤ pos m → x ≡ y
    by (pos zero) e = omega (arith, ints, e)
    by (pos (suc q)) e = absurd (omega (arith, ints, e, within_x.low, within_x.high, within_y.low, within_y.high))
    by (negsuc q) e = absurd (omega (arith, ints, e, within_x.low, within_x.high, within_y.low, within_y.high))

-- ---- the first factor

convolution-linear_left : (c f a : ℕ → ℤ) (g : ℤ) (b : ℕ → ℤ) → IsSum f a g b → IsSum (convolution f c) (convolution a c) g (convolution b c)
unfolding convolution
convolution-linear_left c f a g b h s =
    sum_below-linear (suc s) (λ i. f i *ℤ c (s - i)) (λ i. a i *ℤ c (s - i)) g (λ i. b i *ℤ c (s - i))
    (λ i. ap (λ x. x *ℤ c (s - i)) (h i) ∙ mul-add_right (a i) (g *ℤ b i) (c (s - i)) ∙ ap (λ x. a i *ℤ c (s - i) +ℤ x) (mul_assoc g (b i) (c (s - i))))

coefficient_of-congruent_left : (m : ℕ) (c a b : ℕ → ℤ) → ((i : ℕ) → IsCongruent m (a i) (b i)) → (place : ℕ) → IsCongruent m (coefficient_of a c place) (coefficient_of b c place)
unfolding coefficient_of
coefficient_of-congruent_left m c a b h place =
    let q : ℕ → ℤ = λ i. (h i).0 in
    let linear = folded-linear (convolution a c) (convolution b c) (pos m) (convolution q c)
    (convolution-linear_left c a b (pos m) q (λ i. (h i).1 ∙ ap (λ z. b i +ℤ z) (*ℤ_comm (q i) (pos m)))) place in
    (folded (convolution q c) place, linear ∙ ap (λ z. folded (convolution b c) place +ℤ z) (*ℤ_comm (pos m) (folded (convolution q c) place)))

-- ---- the products with 1 and 0

one-above : (place : ℕ) → 0 < place → coefficient one_polynomial place ≡ pos 0
one-above zero some = absurd (omega arith)
one-above (suc place) some = elim (cases_lt (suc place) 761) [
  | inl below ↦ one_polynomial-rest place below
  | inr above ↦ let past : length one_polynomial ≤ suc place = omega (arith, one_polynomial-whole) in get_or_past one_polynomial (suc place) (pos 0) past
]

convolution-one : (c : ℕ → ℤ) (s : ℕ) → convolution (coefficient one_polynomial) c s ≡ c s
unfolding convolution
convolution-one c s =
    let term : ℕ → ℤ = λ i. coefficient one_polynomial i *ℤ c (s - i) in
    let plain : pos 1 *ℤ c (s - 0) ≡ c (s - 0) = omega (arith, ints) in
    let same : s - 0 ≡ s = omega arith in
    sum_below-one (suc s) 0 term (omega arith) (λ i below apart. ap (λ z. z *ℤ c (s - i)) (one-above i (omega arith)) ∙ zero-*ℤ (c (s - i)))
    ∙ ap (λ z. z *ℤ c (s - 0)) one_polynomial-first ∙ plain ∙ ap c same

times-one : (c : ℕ → ℤ) (place : ℕ) → IsShort c → coefficient_of (coefficient one_polynomial) c place ≡ c place
unfolding coefficient_of folded
times-one c zero short = omega (arith, ints, convolution-one c 0, convolution-one c 761, short 761 (omega arith))
times-one c (suc place) short =
    omega (arith, ints, convolution-one c (suc place), convolution-one c (761 + suc place), convolution-one c (761 + place), short (761 + suc place) (omega arith), short (761 + place) (omega arith))

zero-everywhere : (place : ℕ) → coefficient zero_polynomial place ≡ pos 0
zero-everywhere place = elim (cases_lt place 761) [
  | inl below ↦ zero_polynomial-at place below
  | inr above ↦ let past : length zero_polynomial ≤ place = omega (arith, zero_polynomial-whole) in get_or_past zero_polynomial place (pos 0) past
]

convolution-zero : (c : ℕ → ℤ) (s : ℕ) → convolution (coefficient zero_polynomial) c s ≡ pos 0
unfolding convolution
convolution-zero c s = sum_below-zeros (suc s) (λ i. coefficient zero_polynomial i *ℤ c (s - i)) (λ i below. ap (λ z. z *ℤ c (s - i)) (zero-everywhere i) ∙ zero-*ℤ (c (s - i)))

times-zero : (c : ℕ → ℤ) (place : ℕ) → coefficient_of (coefficient zero_polynomial) c place ≡ pos 0
unfolding coefficient_of folded
times-zero c zero = omega (arith, ints, convolution-zero c 0, convolution-zero c 761)
times-zero c (suc place) = omega (arith, ints, convolution-zero c (suc place), convolution-zero c (761 + suc place), convolution-zero c (761 + place))

-- ---- polynomials

polynomial-short : (bound : ℕ) (a : List ℤ) → IsPolynomial bound a → IsShort (coefficient a)
polynomial-short bound a h place above = let past : length a ≤ place = omega (arith, h.whole) in get_or_past a place (pos 0) past

product-congruent : (m : ℕ) (a b : List ℤ) (place : ℕ) → 0 < m → IsCongruent m (coefficient (product m a b) place) (in_ring (coefficient a) (coefficient b) place)
unfolding product ring_coefficient coefficient_of
product-congruent m a b place some = elim (cases_lt place 761) [
  | inl below ↦
      let h = centred-congruent m (ring_coefficient a b place) some in
      (h.0, coefficient_at 761 (λ k. centred m (ring_coefficient a b k)) place below ∙ h.1 ∙ ap (λ z. z +ℤ h.0 *ℤ pos m) (sym (cut-below 761 (coefficient_of (coefficient a) (coefficient b)) place below)))
  | inr above ↦
      let past : length (product m a b) ≤ place = omega (arith, length-coefficients 761 (λ k. centred m (ring_coefficient a b k))) in
      congruent_same m (coefficient (product m a b) place) (in_ring (coefficient a) (coefficient b) place)
      (get_or_past (product m a b) place (pos 0) past ∙ sym (cut-above 761 (coefficient_of (coefficient a) (coefficient b)) place above))
]

-- modulo m, of three factors the last two may change places
product-turned : (m half : ℕ) (a b c : List ℤ) (place : ℕ) → 0 < m → IsPolynomial half a → IsPolynomial half b → IsPolynomial half c → place < 761
    → IsCongruent m (coefficient_of (coefficient (product m a b)) (coefficient c) place) (coefficient_of (coefficient (product m a c)) (coefficient b) place)
product-turned m half a b c place some is_a is_b is_c within =
    let A = coefficient a in
    let B = coefficient b in
    let C = coefficient c in
    let first = coefficient_of-congruent_left m C (coefficient (product m a b)) (in_ring A B) (λ i. product-congruent m a b i some) place in
    let second = coefficient_of-congruent_left m B (coefficient (product m a c)) (in_ring A C) (λ i. product-congruent m a c i some) place in
    let turned = in_ring-turned A B C place (polynomial-short half a is_a) (polynomial-short half b is_b) (polynomial-short half c is_c) within in
    congruent_chained m (coefficient_of (coefficient (product m a b)) C place) (coefficient_of (in_ring A B) C place) (coefficient_of (coefficient (product m a c)) B place) first
    (congruent_chained m (coefficient_of (in_ring A B) C place) (coefficient_of (in_ring A C) B place) (coefficient_of (coefficient (product m a c)) B place)
    (congruent_same m (coefficient_of (in_ring A B) C place) (coefficient_of (in_ring A C) B place) turned)
    (congruent_turned m (coefficient_of (coefficient (product m a c)) B place) (coefficient_of (in_ring A C) B place) second))

congruent_along : (m : ℕ) (x y z w : ℤ) → x ≡ z → y ≡ w → IsCongruent m x y → IsCongruent m z w
congruent_along m x y z w e f h = congruent_chained m z x w (congruent_same m z x (sym e)) (congruent_chained m x y w h (congruent_same m y w f))

pub only_inverse : (m half : ℕ) (a u w : List ℤ) → 2 * half < m → IsPolynomial half a → IsPolynomial half u → IsPolynomial half w → product m a u ≡ one_polynomial → product m a w ≡ one_polynomial → w ≡ u
only_inverse m half a u w big is_a is_u is_w e f =
    ext_get_or (pos 0) w u (is_w.whole ∙ sym is_u.whole)
    (λ place below.
    let within : place < 761 = omega (arith, is_w.whole) in
    let law = product-turned m half a u w place (omega arith) is_a is_u is_w within in
    let left = ap (λ (l : List ℤ). coefficient_of (coefficient l) (coefficient w) place) e ∙ times-one (coefficient w) place (polynomial-short half w is_w) in
    let right = ap (λ (l : List ℤ). coefficient_of (coefficient l) (coefficient u) place) f ∙ times-one (coefficient u) place (polynomial-short half u is_u) in
    near_same half m (coefficient w place) (coefficient u place) big (is_w.in_range place) (is_u.in_range place) (congruent_along m _ _ _ _ left right law))

pub no_divisor : (m half : ℕ) (a u v : List ℤ) → 2 * half < m → IsPolynomial half a → IsPolynomial half u → IsPolynomial half v → product m a u ≡ one_polynomial → product m a v ≡ zero_polynomial → v ≡ zero_polynomial
no_divisor m half a u v big is_a is_u is_v e f =
    ext_get_or (pos 0) v zero_polynomial (is_v.whole ∙ sym zero_polynomial-whole)
    (λ place below.
    let within : place < 761 = omega (arith, is_v.whole) in
    let law = product-turned m half a u v place (omega arith) is_a is_u is_v within in
    let left = ap (λ (l : List ℤ). coefficient_of (coefficient l) (coefficient v) place) e ∙ times-one (coefficient v) place (polynomial-short half v is_v) in
    let right = ap (λ (l : List ℤ). coefficient_of (coefficient l) (coefficient u) place) f ∙ times-zero (coefficient u) place in
    let none : IsWithin half (pos 0) = record { low = omega (arith, ints); high = omega (arith, ints) } in
    near_same half m (coefficient v place) (pos 0) big (is_v.in_range place) none (congruent_along m _ _ _ _ left right law) ∙ sym (zero_polynomial-at place within))

-- ---- the answers

twice_half : (modulus : Modulus) → (0 < prime_of modulus) × (2 * (prime_of modulus / 2) < prime_of modulus)
twice_half Three = (omega arith, omega arith)
twice_half Q = (omega arith, omega arith)

pub one_inverse : (modulus : Modulus) (poly u w : List ℤ) → IsPolynomial (prime_of modulus / 2) poly → IsInverse (prime_of modulus) poly u → IsInverse (prime_of modulus) poly w → w ≡ u
one_inverse modulus poly u w is first second =
    only_inverse (prime_of modulus) (prime_of modulus / 2) poly u w (twice_half modulus).1 is first.in_range second.in_range first.product_is_one second.product_is_one

pub never_both : (modulus : Modulus) (poly u v : List ℤ) → IsPolynomial (prime_of modulus / 2) poly → IsInverse (prime_of modulus) poly u → IsDivisor (prime_of modulus) poly v → ⊥
never_both modulus poly u v is inverse divisor =
    divisor.is_not_zero (no_divisor (prime_of modulus) (prime_of modulus / 2) poly u v (twice_half modulus).1 is inverse.in_range divisor.in_range inverse.product_is_one divisor.product_is_zero)
