-- What a reader's answer says, from its values and causes.
use Rattle.std.proofs.Common.{◌≡◌, ℕ, ◌*◌, ◌<◌, ℤ, pos, ◌-ℤ◌, List, length, get_or, sym, ap, ◌∙◌, subst, arith, inl, inr, Result, Ok, Err}
use Rattle.std.specs.Prelude.{IfOk, OnOk, IfErr}
use Rattle.std.proofs.lemmas.Bool.{cases_lt}
use Rattle.std.proofs.lemmas.Int.{ints}
use Rattle.ntru_ring.specs.Centring.{IsWithin}
use Rattle.ntru_ring.specs.Polynomials.{coefficient, reduced}
use Rattle.ntru_ring.proofs.Lists.{reduced_same, zero_within}
use Rattle.ntru_ring.proofs.Ring.{coefficient_at, coefficient_behind}
use Rattle.ntru_code.specs.Sides.{IsSound}
use Rattle.ntru_code.specs.Forms.{AllInRange, AllMultiples, field_in, bound_at, spelling, values, small, rounded}
use Rattle.ntru_code.specs.Faults.{IsCause, OnlyMemory, ReadsBack}
use Rattle.ntru_code.specs.declared.forms.Form.{Form}
use Rattle.ntru_code.specs.declared.faults.CodeFault.{CodeFault}
use Rattle.ntru_code.specs.declared.faults.CodeFault.TheVariants.{Range, Memory}
use Rattle.ntru_code.proofs.Spelled.{CanSpell, found_is_spelled, spelled_in_range, spelled_values, bound_inside, values_are_multiples}

-- the first 761 fields, and one more where there is one
pub all_in_range : (form : Form) (bytes : List ℕ) → IsSound form → ((k : ℕ) → k < 761 → field_in form bytes k < bound_at form k) → (761 < form.fields.count → field_in form bytes 761 < bound_at form 761) → AllInRange form bytes
all_in_range form bytes sound below rest place inside =
    elim (cases_lt place 761) [
      | inl early ↦ below place early
      | inr late ↦
          (let e : place ≡ 761 = omega (arith, sound.most_count) in
          subst (λ k. field_in form bytes k < bound_at form k) (sym e) (rest (omega arith)))
    ]

pub found : (form : Form) (bytes : List ℕ) → IsSound form → length bytes ≡ form.bytes.count → ((k : ℕ) → get_or bytes k 0 < 256) → (r : Result (List ℤ) CodeFault)
    → IfOk r (λ p. p ≡ values form bytes) → OnOk r (AllInRange form bytes) → IfOk r (λ p. bytes ≡ spelling form p)
found form bytes sound whole_length bytes_small (Ok p) value in_range =
    subst (λ q. bytes ≡ spelling form q) (sym value) (found_is_spelled form bytes sound whole_length bytes_small in_range)
found form bytes sound whole_length bytes_small (Err e) value in_range = tt

-- no field of a spelled polynomial is to blame
pub cause_is_memory : (form : Form) (bytes : List ℕ) (p : List ℤ) → IsSound form → CanSpell form p → bytes ≡ spelling form p → (e : CodeFault) → IsCause form bytes e → OnlyMemory e
cause_is_memory form bytes p sound can spelled (Range range) first =
    let below : field_in form bytes range.index < bound_at form range.index =
    subst (λ b. field_in form b range.index < bound_at form range.index) (sym spelled) (spelled_in_range form p sound can range.index first.inside) in
    omega (arith, below, first.out)
cause_is_memory form bytes p sound can spelled Memory first = tt

pub values_are : (form : Form) (bytes : List ℕ) (p : List ℤ) → IsSound form → CanSpell form p → bytes ≡ spelling form p → values form bytes ≡ p
values_are form bytes p sound can spelled = ap (values form) spelled ∙ spelled_values form p sound can

pub only : (form : Form) (bytes : List ℕ) (p : List ℤ) → IsSound form → CanSpell form p → (r : Result (List ℤ) CodeFault)
    → IfOk r (λ q. q ≡ values form bytes) → IfErr r (IsCause form bytes) → ReadsBack form bytes p r
only form bytes p sound can (Ok q) value first = λ spelled. value ∙ values_are form bytes p sound can spelled
only form bytes p sound can (Err e) value first = λ spelled. cause_is_memory form bytes p sound can spelled e first

small_within : (bytes : List ℕ) → AllInRange small bytes → (k : ℕ) → IsWithin 1 (coefficient (values small bytes) k)
unfolding values
small_within bytes in_range k =
    let at : ℕ → ℤ = λ place. pos (small.step * field_in small bytes place) -ℤ pos small.lowest in
    elim (cases_lt k 761) [
      | inl early ↦
          (let below : field_in small bytes k < 3 = omega (arith, in_range k (omega arith), bound_inside small k early) in
          subst (IsWithin 1) (sym (coefficient_at 761 at k early)) (record { low = omega (arith, ints); high = omega (arith, ints) }))
      | inr late ↦ subst (IsWithin 1) (sym (coefficient_behind 761 at k late)) (zero_within 1)
    ]

-- the values of the small form are residues modulo 3 already
pub small_reduced : (bytes : List ℕ) → AllInRange small bytes → reduced (values small bytes) ≡ values small bytes
small_reduced bytes in_range = reduced_same (values small bytes) (small_within bytes in_range)

-- what the rounded form reads has multiples of 3 alone
pub multiples_read : (bytes : List ℕ) (r : Result (List ℤ) CodeFault) → IfOk r (λ p. p ≡ values rounded bytes) → IfOk r AllMultiples
multiples_read bytes (Ok p) value = subst AllMultiples (sym value) (values_are_multiples bytes)
multiples_read bytes (Err e) value = tt
