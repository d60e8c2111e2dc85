-- Sums of terms that vanish before or behind a place.
use Rattle.std.proofs.Common.{◌≡◌, ℕ, zero, suc, ◌+◌, ◌-◌, ◌<◌, ◌≤◌, min, ℤ, pos, ◌+ℤ◌, ◌*ℤ◌, List, refl, sym, ap, ◌∙◌, arith, add-one, inl, inr}
use Rattle.std.proofs.lemmas.Bool.{cases_lt}
use lib.IntN.{*ℤ-zero, zero-*ℤ}
use Rattle.std.proofs.lemmas.Int.{ints}
use Rattle.ntru_ring.specs.Polynomials.{IsPolynomial, coefficient}
use Rattle.ntru_ring.specs.Product.{sum_below, convolution}
use Rattle.ntru_ring.proofs.Lists.{coefficient_past}

-- one term more
pub sum_below_more : (n : ℕ) (term : ℕ → ℤ) → sum_below (n + 1) term ≡ sum_below n term +ℤ term n
unfolding sum_below
sum_below_more n term = rw add-one refl

-- terms that are zero add nothing
pub sum_below_zeros : (n : ℕ) (term : ℕ → ℤ) → ((i : ℕ) → i < n → term i ≡ pos 0) → sum_below n term ≡ pos 0
unfolding sum_below
sum_below_zeros zero term zeros = refl
sum_below_zeros (suc n) term zeros =
    let before : sum_below n term ≡ pos 0 = sum_below_zeros n term (λ i below. zeros i (omega arith)) in
    let last : term n ≡ pos 0 = zeros n (omega arith) in
    omega (arith, ints)

pub sum_below_rest : (n k : ℕ) (term : ℕ → ℤ) → ((i : ℕ) → n ≤ i → term i ≡ pos 0) → sum_below (k + n) term ≡ sum_below n term
unfolding sum_below
sum_below_rest n zero term zeros = let e : 0 + n ≡ n = omega arith in ap (λ m. sum_below m term) e
sum_below_rest n (suc k) term zeros =
    let e : suc k + n ≡ suc (k + n) = omega arith in
    let before : sum_below (k + n) term ≡ sum_below n term = sum_below_rest n k term zeros in
    let last : term (k + n) ≡ pos 0 = zeros (k + n) (omega arith) in
    ap (λ m. sum_below m term) e ∙ omega (arith, ints)

-- a term of a plain product
abbrev pub pair_at : List ℤ → List ℤ → ℕ → ℕ → ℤ
pair_at a b place i = coefficient a i *ℤ coefficient b (place - i)

-- pairs before `start` and from the place 761 on have a place past the last one
pub start_is_zero : (a b : List ℤ) (place start : ℕ) → IsPolynomial 2295 b → start ≤ place - 760 → sum_below start (pair_at a b place) ≡ pos 0
start_is_zero a b place start right early =
    sum_below_zeros start (pair_at a b place)
    (λ i below. ap (λ y. coefficient a i *ℤ y) (coefficient_past 2295 b (place - i) right (omega arith)) ∙ *ℤ-zero (coefficient a i))

pub end_is_whole : (a b : List ℤ) (place : ℕ) → IsPolynomial 2295 a → sum_below (min (place + 1) 761) (pair_at a b place) ≡ convolution (coefficient a) (coefficient b) place
unfolding convolution
end_is_whole a b place left =
    let zeros : (i : ℕ) → 761 ≤ i → pair_at a b place i ≡ pos 0 = λ i past. ap (λ x. x *ℤ coefficient b (place - i)) (coefficient_past 2295 a i left past) ∙ zero-*ℤ (coefficient b (place - i)) in
    elim (cases_lt place 761) [
      | inl short ↦ (let e : min (place + 1) 761 ≡ suc place = omega arith in ap (λ n. sum_below n (pair_at a b place)) e)
      | inr long ↦
          (let e : min (place + 1) 761 ≡ 761 = omega arith in
          let split : (suc place - 761) + 761 ≡ suc place = omega arith in
          ap (λ n. sum_below n (pair_at a b place)) e ∙ sym (sum_below_rest 761 (suc place - 761) (pair_at a b place) zeros) ∙ ap (λ n. sum_below n (pair_at a b place)) split)
    ]
