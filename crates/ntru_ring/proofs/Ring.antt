-- The folded product in the order in which the code finds it: first the plain product, then the
-- fold, then the residue.
use Rattle.std.proofs.Common.{◌≡◌, ℕ, zero, suc, ◌+◌, ◌*◌, ◌<◌, ◌≤◌, ℤ, pos, ◌+ℤ◌, List, [], ◌∷◌, ◌++◌, length, refl, sym, ap, subst, arith, inl, inr}
use Rattle.std.proofs.lemmas.Bool.{cases_lt}
use Rattle.std.proofs.lemmas.List.{get_or_past}
use Rattle.std.proofs.lemmas.List.FromFn.{length-map-range_with_len, get_or-map-range_with_len, map-range_with_len_more}
use Rattle.ntru_ring.specs.Centring.{IsResidue, IsWithin, centred}
use Rattle.ntru_ring.specs.Polynomials.{AreResidues, IsPolynomial, coefficient, coefficients}
use Rattle.ntru_ring.specs.Product.{convolution, folded, ring_coefficient, product}
use Rattle.ntru_ring.proofs.Residues.{centred_is_residue, centred_within}
use Rattle.ntru_ring.proofs.Lists.{zero_within}

-- a list that is given place by place
pub coefficients_none : (at : ℕ → ℤ) → coefficients 0 at ≡ []
unfolding coefficients
coefficients_none at = refl

pub coefficients_more : (n : ℕ) (at : ℕ → ℤ) → coefficients (n + 1) at ≡ coefficients n at ++ at n ∷ []
unfolding coefficients
coefficients_more n at = map-range_with_len_more at 0 n n (omega arith)

pub length-coefficients : (n : ℕ) (at : ℕ → ℤ) → length (coefficients n at) ≡ n
unfolding coefficients
length-coefficients n at = length-map-range_with_len at 0 n

pub coefficient_at : (n : ℕ) (at : ℕ → ℤ) (place : ℕ) → place < n → coefficient (coefficients n at) place ≡ at place
unfolding coefficients
coefficient_at n at place below = get_or-map-range_with_len at 0 n place place (pos 0) below (omega arith)

pub coefficient_behind : (n : ℕ) (at : ℕ → ℤ) (place : ℕ) → n ≤ place → coefficient (coefficients n at) place ≡ pos 0
coefficient_behind n at place past = get_or_past (coefficients n at) place (pos 0) (omega (arith, length-coefficients n at))

-- a list that is longer by one integer within the bound
pub push_within : (bound : ℕ) (xs : List ℤ) (x : ℤ) → ((place : ℕ) → IsWithin bound (coefficient xs place)) → IsWithin bound x → (place : ℕ) → IsWithin bound (coefficient (xs ++ x ∷ []) place)
push_within bound [] x within here zero = here
push_within bound [] x within here (suc place) = zero_within bound
push_within bound (y ∷ ys) x within here zero = within 0
push_within bound (y ∷ ys) x within here (suc place) = push_within bound ys x (λ k. within (suc k)) here place

folded_same : (f g : ℕ → ℤ) → ((k : ℕ) → k < 1522 → f k ≡ g k) → (place : ℕ) → place < 761 → folded f place ≡ folded g place
unfolding folded
folded_same f g same zero below =
    let s0 = same 0 (omega arith) in
    let s1 = same 761 (omega arith) in
    cc
folded_same f g same (suc m) below =
    let s0 = same (suc m) (omega arith) in
    let s1 = same (761 + suc m) (omega arith) in
    let s2 = same (761 + m) (omega arith) in
    cc

-- the fold of the plain product's places is the product over the integers
pub folded_plain : (a b : List ℤ) (place : ℕ) → place < 761 →
    folded (coefficient (coefficients 1522 (convolution (coefficient a) (coefficient b)))) place ≡ ring_coefficient a b place
unfolding ring_coefficient
folded_plain a b place below =
    let plain : ℕ → ℤ = convolution (coefficient a) (coefficient b) in
    folded_same (coefficient (coefficients 1522 plain)) plain (λ k inside. coefficient_at 1522 plain k inside) place below

-- the fold at 0, and above
pub folded_zero : (f : ℕ → ℤ) → folded f 0 ≡ f 0 +ℤ f 761
unfolding folded
folded_zero f = refl

pub folded_above : (f : ℕ → ℤ) (place : ℕ) → 0 < place → folded f place ≡ f place +ℤ f (761 + place) +ℤ f (760 + place)
unfolding folded
folded_above f zero above = absurd (omega arith)
folded_above f (suc m) above = let e : 761 + m ≡ 760 + suc m = omega arith in ap (λ k. f (suc m) +ℤ f (761 + suc m) +ℤ f k) e

-- a product is a polynomial
pub product_is_polynomial : (half : ℕ) (a b : List ℤ) → IsPolynomial half (product (2 * half + 1) a b)
unfolding product
product_is_polynomial half a b =
    let at : ℕ → ℤ = λ place. centred (2 * half + 1) (ring_coefficient a b place) in
    record {
      whole = length-coefficients 761 at;
      in_range =
          λ place.
          elim (cases_lt place 761) [
            | inl inside ↦ subst (IsWithin half) (sym (coefficient_at 761 at place inside)) (centred_within half (ring_coefficient a b place))
            | inr past ↦ subst (IsWithin half) (sym (coefficient_behind 761 at place past)) (zero_within half)
          ];
    }

pub product_q_is_polynomial : (a b : List ℤ) → IsPolynomial 2295 (product 4591 a b)
product_q_is_polynomial a b = product_is_polynomial 2295 a b

pub product_3_is_polynomial : (a b : List ℤ) → IsPolynomial 1 (product 3 a b)
product_3_is_polynomial a b = product_is_polynomial 1 a b

-- its coefficients are the residues of the ring's over the integers
pub product_are_residues : (half : ℕ) (a b : List ℤ) → AreResidues (2 * half + 1) (ring_coefficient a b) (product (2 * half + 1) a b)
unfolding product
product_are_residues half a b place within =
    let at : ℕ → ℤ = λ k. centred (2 * half + 1) (ring_coefficient a b k) in
    subst (IsResidue (2 * half + 1) (ring_coefficient a b place)) (sym (coefficient_at 761 at place within)) (centred_is_residue half (ring_coefficient a b place))
