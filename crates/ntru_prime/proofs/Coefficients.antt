-- What is drawn from words has coefficients from -1 to 1.
use Rattle.std.proofs.Common.{◌≡◌, ℕ, zero, suc, ◌+◌, ◌*◌, ◌/◌, ◌%◌, ◌^◌, ◌<◌, ℤ, pos, ◌-ℤ◌, ◌-◌, List, [], ◌∷◌, ◌++◌, length, map, take, drop, true, cond, refl, ◌∙◌, arith}
use Rattle.std.specs.Prelude.{nat_lt, sum_by, unsigned_abs}
use Rattle.std.specs.List.{AllByRecursion}
use Rattle.std.proofs.lemmas.Int.{ints}
use Rattle.std.proofs.lemmas.Bool.{lt-ltb}
use Rattle.std.proofs.lemmas.List.Sums.{sum_by-append, sum_by-cons}
use Rattle.std.proofs.lemmas.List.{length-append, length-drop, length-map, length-take}
use Rattle.ntru_ring.specs.Centring.{IsWithin}
use Rattle.ntru_ring.specs.Polynomials.{IsPolynomial, coefficient, weight}
use Rattle.ntru_ring.proofs.Lists.{zero_within}
use Rattle.ntru_prime.specs.Drawing.{carried_coefficient, drawn_coefficient, drawn_polynomial, even, marked, one_of_four, sorted, weight_polynomial}
use Rattle.ntru_prime.proofs.Sorting.{each_sorted, length-sorted, sum_by-sorted}

each_within : (f : ℕ → ℤ) (words : List ℕ) → AllByRecursion (λ word. IsWithin 1 (f word)) words → (place : ℕ) → IsWithin 1 (coefficient (map f words) place)
each_within f [] all place = zero_within 1
each_within f (word ∷ words) all zero = all.0
each_within f (word ∷ words) all (suc place) = each_within f words all.1 place

polynomial_of : (f : ℕ → ℤ) (words : List ℕ) → AllByRecursion (λ word. IsWithin 1 (f word)) words → length words ≡ 761 → IsPolynomial 1 (map f words)
polynomial_of f words all long = record { whole = length-map words f ∙ long; in_range = each_within f words all }

-- a number below 3, less 1
below_three : (n : ℕ) → n < 3 → IsWithin 1 (pos n -ℤ pos 1)
below_three n small = record { low = omega (arith, ints); high = omega (arith, ints) }

-- ---- drawn

drawn_within : (words : List ℕ) → AllByRecursion (λ word. IsWithin 1 (drawn_coefficient word)) words
drawn_within [] = tt
drawn_within (word ∷ words) = (below_three (word % 2 ^ 30 * 3 / 2 ^ 30) (omega arith), drawn_within words)

pub drawn_is_polynomial : (words : List ℕ) → length words ≡ 761 → IsPolynomial 1 (drawn_polynomial words)
drawn_is_polynomial words long = polynomial_of drawn_coefficient words (drawn_within words) long

-- ---- of weight 286

-- what a marked word carries
carried_even : (word : ℕ) → IsWithin 1 (carried_coefficient (even word))
carried_even word = below_three ((word - word % 2) % 4) (omega arith)

carried_one_of_four : (word : ℕ) → IsWithin 1 (carried_coefficient (one_of_four word))
carried_one_of_four word = below_three ((word - word % 4 + 1) % 4) (omega arith)

each_append : (P : ℕ → Type 0) (xs ys : List ℕ) → AllByRecursion P xs → AllByRecursion P ys → AllByRecursion P (xs ++ ys)
each_append P [] ys left right = right
each_append P (x ∷ xs) ys left right = (left.0, each_append P xs ys left.1 right)

each_mapped : (P : ℕ → Type 0) (f : ℕ → ℕ) (xs : List ℕ) → ((word : ℕ) → P (f word)) → AllByRecursion P (map f xs)
each_mapped P f [] holds = tt
each_mapped P f (x ∷ xs) holds = (holds x, each_mapped P f xs holds)

pub length-marked : (words : List ℕ) → length (marked words) ≡ length words
unfolding marked
length-marked words =
    length-append (map even (take 286 words)) (map one_of_four (drop 286 words))
    ∙ omega (arith, length-map (take 286 words) even, length-map (drop 286 words) one_of_four, length-take 286 words, length-drop 286 words)

carried_within : (words : List ℕ) → AllByRecursion (λ word. IsWithin 1 (carried_coefficient word)) (marked words)
unfolding marked
carried_within words =
    each_append (λ word. IsWithin 1 (carried_coefficient word)) (map even (take 286 words)) (map one_of_four (drop 286 words))
    (each_mapped (λ word. IsWithin 1 (carried_coefficient word)) even (take 286 words) carried_even)
    (each_mapped (λ word. IsWithin 1 (carried_coefficient word)) one_of_four (drop 286 words) carried_one_of_four)

pub weight_is_polynomial : (words : List ℕ) → length words ≡ 761 → IsPolynomial 1 (weight_polynomial words)
weight_is_polynomial words long =
    polynomial_of carried_coefficient (sorted (marked words))
    (each_sorted (λ word. IsWithin 1 (carried_coefficient word)) (marked words) (carried_within words))
    (length-sorted (marked words) ∙ length-marked words ∙ long)

-- whether a word carries a coefficient other than 0, as a count
carries_one : ℕ → ℕ
carries_one word = cond (nat_lt 0 (unsigned_abs (carried_coefficient word))) 1 0

carries_one-even : (word : ℕ) → carries_one (even word) ≡ 1
unfolding carries_one
carries_one-even word =
    let other : 0 < unsigned_abs (carried_coefficient (even word)) = omega (arith, ints) in
    let so : nat_lt 0 (unsigned_abs (carried_coefficient (even word))) ≡ true = lt-ltb 0 (unsigned_abs (carried_coefficient (even word))) other in
    rw so refl

carries_one-one_of_four : (word : ℕ) → carries_one (one_of_four word) ≡ 0
unfolding carries_one
carries_one-one_of_four word =
    let zero : unsigned_abs (carried_coefficient (one_of_four word)) ≡ 0 = omega (arith, ints) in
    rw zero refl

all_ones : (mark : ℕ → ℕ) → ((word : ℕ) → carries_one (mark word) ≡ 1) → (words : List ℕ) → sum_by carries_one (map mark words) ≡ length words
all_ones mark each [] = refl
all_ones mark each (word ∷ words) = omega (arith, sum_by-cons carries_one (mark word) (map mark words), each word, all_ones mark each words)

all_zeros : (mark : ℕ → ℕ) → ((word : ℕ) → carries_one (mark word) ≡ 0) → (words : List ℕ) → sum_by carries_one (map mark words) ≡ 0
all_zeros mark each [] = refl
all_zeros mark each (word ∷ words) = omega (arith, sum_by-cons carries_one (mark word) (map mark words), each word, all_zeros mark each words)

weight-carried : (words : List ℕ) → weight (map carried_coefficient words) ≡ sum_by carries_one words
unfolding carries_one
weight-carried [] = refl
weight-carried (word ∷ words) =
    let counts : ℤ → ℕ = λ c. cond (nat_lt 0 (unsigned_abs c)) 1 0 in
    omega (arith, sum_by-cons counts (carried_coefficient word) (map carried_coefficient words), sum_by-cons carries_one word words, weight-carried words)

ones_marked : (words : List ℕ) → length words ≡ 761 → sum_by carries_one (marked words) ≡ 286
unfolding marked
ones_marked words long =
    omega
    (arith, sum_by-append carries_one (map even (take 286 words)) (map one_of_four (drop 286 words)), all_ones even carries_one-even (take 286 words), all_zeros one_of_four carries_one-one_of_four (drop 286 words), length-take 286 words)

-- the polynomial of weight 286 has weight 286
pub weight_is_286 : (words : List ℕ) → length words ≡ 761 → weight (weight_polynomial words) ≡ 286
weight_is_286 words long = weight-carried (sorted (marked words)) ∙ sum_by-sorted carries_one (marked words) ∙ ones_marked words long
