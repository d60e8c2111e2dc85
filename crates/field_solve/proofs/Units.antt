-- The product with a power of x, as a list of numbers that ends in 1.
use lib.IntN.{*ℤ-zero, zero-*ℤ, +ℤ_idl}
use borrow.Author.Tests.{le-leb, lt-leb}
use Rattle.std.proofs.Common.{◌≡◌, ◌≢◌, ℕ, zero, suc, ◌+◌, ◌-◌, ◌<◌, ◌≤◌, List, [], ◌∷◌, ◌++◌, length, slice_index, slice_set, replicate, get_or-set_same, get_or-set_other, cond, Bool, inl, inr, arith, refl, sym, ap, subst, ◌∙◌, ℤ, pos, ◌+ℤ◌}
use Rattle.std.specs.Prelude.{◌*ℤ◌}
use Rattle.std.proofs.lemmas.Bool.{cases_lt}
use Rattle.std.proofs.lemmas.Int.{ints}
use Rattle.std.proofs.lemmas.List.{get_or_push, get_or_append_left, get_or-replicate, get_or_past, length_push, length-replicate}
use Rattle.ntru_ring.specs.Product.{sum_below, convolution, folded}
use Rattle.field_solve.specs.Elimination.{AllBelow, Combines, minus_one, raised, times}
use Rattle.field_solve.proofs.Linear.{coefficient_of, coefficient_of-linear, coefficient_of-zero}
use Rattle.ntru_ring.specs.Centring.{IsCongruent}

pub sum_below-zeros : (n : ℕ) (term : ℕ → ℤ) → ((i : ℕ) → i < n → term i ≡ pos 0) → sum_below n term ≡ pos 0
unfolding sum_below
sum_below-zeros zero term h = refl
sum_below-zeros (suc n) term h = omega (arith, ints, sum_below-zeros n term (λ i lt. h i (omega arith)), h n (omega arith))

pub sum_below-one : (n x : ℕ) (term : ℕ → ℤ) → x < n → ((i : ℕ) → i < n → i ≢ x → term i ≡ pos 0) → sum_below n term ≡ term x
unfolding sum_below
sum_below-one zero x term lt h = absurd (omega arith)
sum_below-one (suc n) x term lt h = elim (cases_lt x n) [
  | inl below ↦ omega (arith, ints, sum_below-one n x term below (λ i i_below apart. h i (omega arith) apart), h n (omega arith) (omega arith))
  | inr above ↦
      let e : n ≡ x = omega arith in
      let zeros : sum_below n term ≡ pos 0 = sum_below-zeros n term (λ i i_below. h i (omega arith) (omega arith)) in
      ap (λ z. z +ℤ term n) zeros ∙ +ℤ_idl (term n) ∙ ap term e
]

-- the list 0, .., 0, 1 with 1 at the place of the power
abbrev pub unit_list : ℕ → List ℕ
unit_list power = replicate power 0 ++ 1 ∷ []

pub length-unit_list : (power : ℕ) → length (unit_list power) ≡ power + 1
length-unit_list power = length_push (replicate power 0) 1 ∙ ap (λ (n : ℕ). n + 1) (length-replicate power 0)

pub unit_list-at : (power : ℕ) → slice_index (unit_list power) power ≡ 1
unit_list-at power = get_or_push (replicate power 0) 1 0 power (length-replicate power 0)

pub unit_list-apart : (power place : ℕ) → place ≢ power → slice_index (unit_list power) place ≡ 0
unit_list-apart power place apart =
    elim (cases_lt place power) [
      | inl below ↦
          let within : place < length (replicate power 0) = subst (λ (n : ℕ). place < n) (sym (length-replicate power 0)) below in
          get_or_append_left (replicate power 0) (1 ∷ []) 0 place within ∙ get_or-replicate power place 0 0 below
      | inr above ↦
          let whole : length (unit_list power) ≡ power + 1 = length-unit_list power in
          get_or_past (unit_list power) place 0 (omega arith)
    ]

convolution-unit : (poly : ℕ → ℤ) (power place : ℕ) → convolution poly (λ i. pos (slice_index (unit_list power) i)) place ≡ raised poly power place
unfolding convolution
convolution-unit poly power place =
    let term : ℕ → ℤ = λ i. poly i *ℤ pos (slice_index (unit_list power) (place - i)) in
    let none : (i : ℕ) → place - i ≢ power → term i ≡ pos 0 = λ i apart. ap (λ (n : ℕ). poly i *ℤ pos n) (unit_list-apart power (place - i) apart) ∙ *ℤ-zero (poly i) in
    elim (cases_lt place power) [
      | inl below ↦
          sum_below-zeros (suc place) term (λ i lt. none i (omega arith)) ∙ sym (ap (λ (t : Bool). cond t (poly (place - power)) (pos 0)) (lt-leb power place below))
      | inr above ↦
          let x = place - power in
          let back : place - x ≡ power = omega arith in
          let one : slice_index (unit_list power) (place - x) ≡ 1 = ap (slice_index (unit_list power)) back ∙ unit_list-at power in
          let plain : poly x *ℤ pos 1 ≡ poly x = omega (arith, ints) in
          sum_below-one (suc place) x term (omega arith) (λ i lt apart. none i (omega arith)) ∙ ap (λ (n : ℕ). poly x *ℤ pos n) one ∙ plain ∙ sym (ap (λ (t : Bool). cond t (poly x) (pos 0)) (le-leb power place above))
    ]

-- at each place, the product with a power of x
pub times-unit_first : (poly : ℕ → ℤ) (power : ℕ) → times poly (unit_list power) 0 ≡ raised poly power 0 +ℤ raised poly power 761
unfolding times folded
times-unit_first poly power = ap (λ z. z +ℤ convolution poly (λ i. pos (slice_index (unit_list power) i)) 761) (convolution-unit poly power 0) ∙ ap (λ z. raised poly power 0 +ℤ z) (convolution-unit poly power 761)

pub times-unit_next : (poly : ℕ → ℤ) (power m : ℕ) → times poly (unit_list power) (suc m) ≡ raised poly power (suc m) +ℤ raised poly power (761 + suc m) +ℤ raised poly power (761 + m)
unfolding times folded
times-unit_next poly power m =
    let c = convolution poly (λ i. pos (slice_index (unit_list power) i)) in
    ap (λ z. z +ℤ c (761 + suc m) +ℤ c (761 + m)) (convolution-unit poly power (suc m))
    ∙ ap (λ z. raised poly power (suc m) +ℤ z +ℤ c (761 + m)) (convolution-unit poly power (761 + suc m))
    ∙ ap (λ z. raised poly power (suc m) +ℤ raised poly power (761 + suc m) +ℤ z) (convolution-unit poly power (761 + m))

pub raised-below : (poly : ℕ → ℤ) (power place : ℕ) → place < power → raised poly power place ≡ pos 0
raised-below poly power place below = ap (λ (t : Bool). cond t (poly (place - power)) (pos 0)) (lt-leb power place below)

pub raised-above : (poly : ℕ → ℤ) (power place : ℕ) → power ≤ place → raised poly power place ≡ poly (place - power)
raised-above poly power place above = ap (λ (t : Bool). cond t (poly (place - power)) (pos 0)) (le-leb power place above)

pub times-unit_zero : (poly : ℕ → ℤ) (power place : ℕ) → place ≡ 0 → times poly (unit_list power) place ≡ raised poly power place +ℤ raised poly power (761 + place)
times-unit_zero poly power place e = subst (λ (k : ℕ). times poly (unit_list power) k ≡ raised poly power k +ℤ raised poly power (761 + k)) (sym e) (times-unit_first poly power)

pub times-unit_above : (poly : ℕ → ℤ) (power place : ℕ) → 0 < place → times poly (unit_list power) place ≡ raised poly power place +ℤ raised poly power (761 + place) +ℤ raised poly power (760 + place)
times-unit_above poly power zero some = absurd (omega arith)
times-unit_above poly power (suc m) some =
    let e : 761 + m ≡ 760 + suc m = omega arith in
    times-unit_next poly power m ∙ ap (λ (k : ℕ). raised poly power (suc m) +ℤ raised poly power (761 + suc m) +ℤ raised poly power k) e

-- a list of zeros, with its first number set
zeros-at : (n place : ℕ) → slice_index (replicate n 0) place ≡ 0
zeros-at n place = elim (cases_lt place n) [
  | inl below ↦ get_or-replicate n place 0 0 below
  | inr above ↦
      let past : length (replicate n 0) ≤ place = subst (λ (m : ℕ). m ≤ place) (sym (length-replicate n 0)) above in
      get_or_past (replicate n 0) place 0 past
]

first_set-first : (n value : ℕ) → 0 < n → slice_index (slice_set (replicate n 0) 0 value) 0 ≡ value
first_set-first n value some =
    let within : 0 < length (replicate n 0) = subst (λ (m : ℕ). 0 < m) (sym (length-replicate n 0)) some in
    get_or-set_same (replicate n 0) 0 value 0 within

first_set-rest : (n value place : ℕ) → 0 < place → slice_index (slice_set (replicate n 0) 0 value) place ≡ 0
first_set-rest n value place some =
    let apart : place ≢ 0 = omega arith in
    get_or-set_other (replicate n 0) 0 place value 0 apart ∙ zeros-at n place

pub first_set-AllBelow : (n value bound : ℕ) → 0 < n → value < bound → AllBelow bound (slice_set (replicate n 0) 0 value)
first_set-AllBelow n value bound some small = record {
  below = λ place. elim (cases_lt 0 place) [
    | inl above ↦ omega (arith, first_set-rest n value place above)
    | inr at ↦
        let e : 0 ≡ place = omega arith in
        let P : ℕ → Type 0 = λ k. slice_index (slice_set (replicate n 0) 0 value) k < bound in
        subst P e (omega (arith, first_set-first n value some))
  ];
}

pub zeros-AllBelow : (n bound : ℕ) → 0 < bound → AllBelow bound (replicate n 0)
zeros-AllBelow n bound some = record { below = λ place. omega (arith, zeros-at n place) }

times-zeros : (poly : ℕ → ℤ) (n place : ℕ) → times poly (replicate n 0) place ≡ pos 0
unfolding times coefficient_of
times-zeros poly n place =
    coefficient_of-linear poly (λ i. pos (slice_index (replicate n 0) i)) (λ _. pos 0) (pos 0) (λ _. pos 0) (λ i. ap pos (zeros-at n i)) place
    ∙ ap (λ z. z +ℤ pos 0 *ℤ coefficient_of poly (λ _. pos 0) place) (coefficient_of-zero poly place) ∙ +ℤ_idl (pos 0 *ℤ coefficient_of poly (λ _. pos 0) place) ∙ zero-*ℤ (coefficient_of poly (λ _. pos 0) place)

pub first_set-Combines : (prime : ℕ) (poly : ℕ → ℤ) (value n : ℕ) → 0 < n → value + 1 ≡ prime → Combines prime poly minus_one (replicate n 0) (slice_set (replicate n 0) 0 value)
first_set-Combines prime poly value n some is = record { at = by }
  where
    by : (place : ℕ) → place < 761 → IsCongruent prime (pos (slice_index (slice_set (replicate n 0) 0 value) place)) (minus_one place +ℤ times poly (replicate n 0) place)
    by zero within = (pos 1, omega (arith, ints, first_set-first n value some, times-zeros poly n 0))
    by (suc place) within = (pos 0, omega (arith, ints, first_set-rest n value (suc place) (omega arith), times-zeros poly n (suc place)))
