-- What the bytes of a form spell: from bytes to polynomial and back, and from polynomial to bytes and back.
use Rattle.std.proofs.Common.{◌≡◌, ℕ, ◌*◌, ◌/◌, ◌<◌, ◌≤◌, ℤ, pos, ◌+ℤ◌, ◌-ℤ◌, unsigned_abs, List, length, map, get_or, sym, ap, ◌∙◌, subst, arith, inl, inr}
use Rattle.std.specs.List.{range_with_len}
use Rattle.std.proofs.lemmas.Bool.{cases_lt}
use Rattle.std.proofs.lemmas.Int.{ints}
use Rattle.std.proofs.Math.Nat.{mul-div_cancel_left}
use Rattle.std.proofs.lemmas.List.FromFn.{fill_by_all, get_or-map-range_with_len}
use Rattle.ntru_ring.specs.Polynomials.{IsPolynomial, coefficient, coefficients}
use Rattle.ntru_ring.proofs.Ring.{coefficient_at, coefficient_behind}
use Rattle.ntru_code.specs.Packing.{translated}
use Rattle.ntru_code.specs.Sides.{IsSound}
use Rattle.ntru_code.specs.Forms.{AllInRange, AllMultiples, field, field_in, bound_at, spelling, values, small, whole, rounded}
use Rattle.ntru_code.specs.declared.forms.Form.{Form}
use Rattle.ntru_code.proofs.Digits.{back}

-- a polynomial that the form can spell: each field is in range, and stands for its coefficient
pub record CanSpell (form : Form) (polynomial : List ℤ) : Type 0 where
  pub length_is : length polynomial ≡ 761
  pub below : (place : ℕ) → place < 761 → field form polynomial place < form.bound
  pub stands : (place : ℕ) → place < 761 → pos (form.step * field form polynomial place) -ℤ pos form.lowest ≡ coefficient polynomial place

-- a field of a coefficient, and behind the last
field_of : (form : Form) (p : List ℤ) (place : ℕ) → place < 761 → field form p place ≡ unsigned_abs (coefficient p place +ℤ pos form.lowest) / form.step
unfolding field
field_of form p place inside = grind arith

field_behind : (form : Form) (p : List ℤ) (place : ℕ) → 761 ≤ place → field form p place ≡ 0
unfolding field
field_behind form p place past = grind arith

pub bound_inside : (form : Form) (place : ℕ) → place < 761 → bound_at form place ≡ form.bound
unfolding bound_at
bound_inside form place inside = grind arith

bound_behind : (form : Form) (place : ℕ) → 761 ≤ place → bound_at form place ≡ 1
unfolding bound_at
bound_behind form place past = grind arith

-- what is read was spelled so: the field of each coefficient read is the field in the bytes
field_of_value : (step lowest n : ℕ) (z : ℤ) → 0 < step → z ≡ pos (step * n) -ℤ pos lowest → unsigned_abs (z +ℤ pos lowest) / step ≡ n
field_of_value step lowest n z some is =
    let up : unsigned_abs (z +ℤ pos lowest) ≡ step * n = omega (arith, ints, is) in
    ap (λ m. m / step) up ∙ mul-div_cancel_left n some

same_field : (form : Form) (bytes : List ℕ) → IsSound form → AllInRange form bytes → (place : ℕ) → place < form.fields.count → field form (values form bytes) place ≡ field_in form bytes place
unfolding values
same_field form bytes sound in_range place inside =
    let at : ℕ → ℤ = λ k. pos (form.step * field_in form bytes k) -ℤ pos form.lowest in
    elim (cases_lt place 761) [
      | inl early ↦ (field_of form (coefficients 761 at) place early ∙ field_of_value form.step form.lowest (field_in form bytes place) (coefficient (coefficients 761 at) place) sound.some_step (coefficient_at 761 at place early))
      | inr late ↦
          (let nothing : field_in form bytes place < 1 = subst (λ m. field_in form bytes place < m) (bound_behind form place late) (in_range place inside) in
          field_behind form (coefficients 761 at) place late ∙ omega arith)
    ]

pub found_is_spelled : (form : Form) (bytes : List ℕ) → IsSound form → length bytes ≡ form.bytes.count → ((k : ℕ) → get_or bytes k 0 < 256) → AllInRange form bytes → bytes ≡ spelling form (values form bytes)
unfolding spelling field_in
found_is_spelled form bytes sound whole_length small in_range =
    fill_by_all (translated form.fields form.bytes (field form (values form bytes))) bytes form.bytes.count 0 whole_length
    (λ k inside.
    sym
    (back form.bytes form.fields (λ i. get_or bytes i 0) (field form (values form bytes)) sound.back.digits_from sound.back.digits_to
    (λ i. subst (λ m. get_or bytes i 0 < m) (sym sound.byte_base) (small i))
    (same_field form bytes sound in_range)
    sound.out.same_groups k inside))

-- what the rounded form reads has multiples of 3 alone: 3 f - 2295 is 3 (f - 765)
pub values_are_multiples : (bytes : List ℕ) → AllMultiples (values rounded bytes)
unfolding values
values_are_multiples bytes place =
    let at : ℕ → ℤ = λ k. pos (3 * field_in rounded bytes k) -ℤ pos 2295 in
    elim (cases_lt place 761) [
      | inl early ↦ (pos (field_in rounded bytes place) -ℤ pos 765, omega (arith, ints, coefficient_at 761 at place early))
      | inr late ↦ (pos 0, omega (arith, ints, coefficient_behind 761 at place late))
    ]

-- what was spelled so is read: the field in the bytes is the field of the coefficient
pub spelled_field : (form : Form) (p : List ℤ) → IsSound form → CanSpell form p → (place : ℕ) → place < form.fields.count → field_in form (spelling form p) place ≡ field form p place
unfolding spelling field_in
spelled_field form p sound can place inside =
    let at : ℕ → ℕ = translated form.fields form.bytes (field form p) in
    back form.fields form.bytes (field form p) (λ i. get_or (map at (range_with_len 0 form.bytes.count)) i 0) sound.out.digits_from sound.out.digits_to
    (λ k. elim (cases_lt k 761) [ inl early ↦ omega (arith, can.below k early, sound.small_base) | inr late ↦ omega (arith, field_behind form p k late, sound.more_than_one) ])
    (λ k within. get_or-map-range_with_len at 0 form.bytes.count k k 0 within (omega arith))
    sound.back.same_groups place inside

pub spelled_in_range : (form : Form) (p : List ℤ) → IsSound form → CanSpell form p → AllInRange form (spelling form p)
spelled_in_range form p sound can place inside =
    elim (cases_lt place 761) [
      | inl early ↦ omega (arith, spelled_field form p sound can place inside, can.below place early, bound_inside form place early)
      | inr late ↦ omega (arith, spelled_field form p sound can place inside, field_behind form p place late, bound_behind form place late)
    ]

pub spelled_values : (form : Form) (p : List ℤ) → IsSound form → CanSpell form p → values form (spelling form p) ≡ p
unfolding values coefficients
spelled_values form p sound can =
    sym
    (fill_by_all (λ place. pos (form.step * field_in form (spelling form p) place) -ℤ pos form.lowest) p 761 (pos 0) can.length_is
    (λ k inside. sym (ap (λ n. pos (form.step * n) -ℤ pos form.lowest) (spelled_field form p sound can k (omega (arith, sound.least_count))) ∙ can.stands k inside)))

-- what each form can spell
pub small_can_spell : (p : List ℤ) → IsPolynomial 1 p → CanSpell small p
small_can_spell p polynomial =
    record {
      length_is = polynomial.whole;
      below = λ k inside. omega (arith, ints, field_of small p k inside, polynomial.in_range k);
      stands = λ k inside. omega (arith, ints, field_of small p k inside, polynomial.in_range k);
    }

pub whole_can_spell : (p : List ℤ) → IsPolynomial 2295 p → CanSpell whole p
whole_can_spell p polynomial =
    record {
      length_is = polynomial.whole;
      below = λ k inside. omega (arith, ints, field_of whole p k inside, polynomial.in_range k);
      stands = λ k inside. omega (arith, ints, field_of whole p k inside, polynomial.in_range k);
    }

pub rounded_can_spell : (p : List ℤ) → IsPolynomial 2295 p → AllMultiples p → CanSpell rounded p
rounded_can_spell p polynomial multiples =
    record {
      length_is = polynomial.whole;
      below = λ k inside. omega (arith, ints, field_of rounded p k inside, polynomial.in_range k);
      stands = λ k inside. let m = multiples k in omega (arith, ints, field_of rounded p k inside, polynomial.in_range k, m.1);
    }

pub field_below_base : (form : Form) (p : List ℤ) → IsSound form → CanSpell form p → (k : ℕ) → field form p k < form.fields.base
field_below_base form p sound can k =
    elim (cases_lt k 761) [ inl early ↦ omega (arith, can.below k early, sound.small_base) | inr late ↦ omega (arith, field_behind form p k late, sound.more_than_one) ]
