-- What a reader's answer says of the bytes, as a value or none.
use Rattle.std.proofs.Common.{◌≡◌, ℕ, zero, suc, ◌+◌, ◌≤◌, ◌<◌, ℤ, Bool, true, false, ◌&&◌, List, inl, inr, refl, ap, ◌∙◌, arith, Some, Err}
use Rattle.std.specs.Prelude.{nat_lt}
use Rattle.std.specs.List.{list_all, range_with_len}
use Rattle.std.proofs.lemmas.Bool.{cases_lt}
use Rattle.ntru_ring.specs.Polynomials.{IsPolynomial}
use Rattle.ntru_code.specs.Faults.{IsCause}
use Rattle.ntru_code.specs.Forms.{AllInRange, AllMultiples, bound_at, field_in, rounded, small, spelling, whole}
use Rattle.ntru_code.specs.declared.faults.CodeFault.{CodeFault}
use Rattle.ntru_code.specs.declared.faults.CodeFault.TheVariants as faults
use Rattle.ntru_code.proofs.Reading.{values_are}
use Rattle.ntru_code.proofs.Soundness.{rounded_is_sound, small_is_sound, whole_is_sound}
use Rattle.ntru_code.proofs.Spelled.{rounded_can_spell, small_can_spell, whole_can_spell}
use Rattle.ntru_prime.specs.Answers.{Gives}
use Rattle.ntru_prime.specs.Faults.{refusal_of}
use Rattle.ntru_prime.specs.Reading.{all_below, rounded_in, small_in, whole_in}

-- a test passes at all of a range, or fails at one
list_all-range : (test : ℕ → Bool) (start n : ℕ) → ((k : ℕ) → start ≤ k → k < start + n → test k ≡ true) → list_all test (range_with_len start n) ≡ true
list_all-range test start zero each = refl
list_all-range test start (suc n) each =
    rw (each start (omega arith) (omega arith)) (list_all-range test (start + 1) n (λ k low high. each k (omega arith) (omega arith)))

and_false : (b : Bool) → b && false ≡ false
and_false true = refl
and_false false = refl

list_all-fails : (test : ℕ → Bool) (start n k : ℕ) → start ≤ k → k < start + n → test k ≡ false → list_all test (range_with_len start n) ≡ false
list_all-fails test start zero k low high fails = absurd (omega arith)
list_all-fails test start (suc n) k low high fails =
    elim (cases_lt start k) [
      | inl later ↦ rw (list_all-fails test (start + 1) n k (omega arith) (omega arith) fails) (and_false (test start))
      | inr here ↦ (let same : start ≡ k = omega arith in let at : test start ≡ false = ap test same ∙ fails in rw at refl)
    ]

all_below-all : (count : ℕ) (field bound : ℕ → ℕ) → ((k : ℕ) → k < count → field k < bound k) → all_below count field bound ≡ true
unfolding all_below
all_below-all count field bound all = list_all-range (λ place. nat_lt (field place) (bound place)) 0 count (λ k low high. let below = all k (omega arith) in grind arith)

all_below-fails : (count : ℕ) (field bound : ℕ → ℕ) (place : ℕ) → place < count → bound place ≤ field place → all_below count field bound ≡ false
unfolding all_below
all_below-fails count field bound place inside out = list_all-fails (λ k. nat_lt (field k) (bound k)) 0 count place (omega arith) (omega arith) (grind arith)

-- what is read is the value
pub small_read : (bytes : List ℕ) (p : List ℤ) → IsPolynomial 1 p → bytes ≡ spelling small p → AllInRange small bytes → small_in bytes ≡ Some p
unfolding small_in
small_read bytes p polynomial spelled all =
    rw (all_below-all 762 (field_in small bytes) (bound_at small) all) (ap Some (values_are small bytes p small_is_sound (small_can_spell p polynomial) spelled))

pub whole_read : (bytes : List ℕ) (p : List ℤ) → IsPolynomial 2295 p → bytes ≡ spelling whole p → AllInRange whole bytes → whole_in bytes ≡ Some p
unfolding whole_in
whole_read bytes p polynomial spelled all =
    rw (all_below-all 761 (field_in whole bytes) (bound_at whole) all) (ap Some (values_are whole bytes p whole_is_sound (whole_can_spell p polynomial) spelled))

pub rounded_read : (bytes : List ℕ) (p : List ℤ) → IsPolynomial 2295 p → AllMultiples p → bytes ≡ spelling rounded p → AllInRange rounded bytes → rounded_in bytes ≡ Some p
unfolding rounded_in
rounded_read bytes p polynomial multiples spelled all =
    rw (all_below-all 761 (field_in rounded bytes) (bound_at rounded) all) (ap Some (values_are rounded bytes p rounded_is_sound (rounded_can_spell p polynomial multiples) spelled))

-- what is refused has no value
pub small_refused : (bytes : List ℕ) (fault : CodeFault) → IsCause small bytes fault → Gives {X = List ℤ} (Err (refusal_of fault)) (small_in bytes)
unfolding small_in
small_refused bytes (faults.Range range) cause = rw (all_below-fails 762 (field_in small bytes) (bound_at small) range.index cause.inside cause.out) refl
small_refused bytes faults.Memory cause = tt

pub whole_refused : (bytes : List ℕ) (fault : CodeFault) → IsCause whole bytes fault → Gives {X = List ℤ} (Err (refusal_of fault)) (whole_in bytes)
unfolding whole_in
whole_refused bytes (faults.Range range) cause = rw (all_below-fails 761 (field_in whole bytes) (bound_at whole) range.index cause.inside cause.out) refl
whole_refused bytes faults.Memory cause = tt

pub rounded_refused : (bytes : List ℕ) (fault : CodeFault) → IsCause rounded bytes fault → Gives {X = List ℤ} (Err (refusal_of fault)) (rounded_in bytes)
unfolding rounded_in
rounded_refused bytes (faults.Range range) cause = rw (all_below-fails 761 (field_in rounded bytes) (bound_at rounded) range.index cause.inside cause.out) refl
rounded_refused bytes faults.Memory cause = tt
