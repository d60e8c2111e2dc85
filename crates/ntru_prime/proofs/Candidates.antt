-- The first of a range of candidates that has a key.
use Rattle.std.proofs.Common.{◌≡◌, ℕ, zero, suc, ◌+◌, ◌*◌, ◌≤◌, ◌<◌, inl, inr, refl, ap, ◌∙◌, arith, Option, Some, None}
use Rattle.std.specs.List.{range_with_len}
use Rattle.std.proofs.lemmas.Bool.{cases_lt}
use Rattle.mix_base.specs.WordStreams.{GoesOn, first_words}
use Rattle.ntru_prime.specs.Scheme.{candidate_words, first_value}

-- the first value is that of the first number that has one
pub first_value-found : {X : Type 0} (value : ℕ → Option X) (start n k : ℕ) (x : X) → start ≤ k → k < start + n → ((j : ℕ) → start ≤ j → j < k → value j ≡ None) → value k ≡ Some x → first_value value (range_with_len start n) ≡ Some x
first_value-found value start zero k x low high before here = absurd (omega arith)
first_value-found value start (suc n) k x low high before here =
    elim (cases_lt start k) [
      | inl later ↦
          (let none : value start ≡ None = before start (omega arith) later in
          rw none (first_value-found value (start + 1) n k x (omega arith) (omega arith) (λ j from below. before j (omega arith) below) here))
      | inr first ↦ (let same : start ≡ k = omega arith in let is : value start ≡ Some x = ap value same ∙ here in rw is refl)
    ]

-- where no number has one, there is none
pub first_value-none : {X : Type 0} (value : ℕ → Option X) (start n : ℕ) → ((j : ℕ) → start ≤ j → j < start + n → value j ≡ None) → first_value value (range_with_len start n) ≡ None
first_value-none value start zero none = refl
first_value-none value start (suc n) none =
    let here : value start ≡ None = none start (omega arith) (omega arith) in
    rw here (first_value-none value (start + 1) n (λ j from below. none j (omega arith) (omega arith)))

-- what is drawn after so many candidates are the words of the next
pub candidate_words-drawn : (before now : ℕ → ℕ) (number : ℕ) → ((place : ℕ) → now place ≡ before (1522 * number + place)) → first_words now 1522 ≡ candidate_words before number
unfolding candidate_words
candidate_words-drawn before now number moved = ap (λ (words : ℕ → ℕ). first_words words 1522) (λ t place. moved place t)

-- after one candidate more
pub moved_further : (before now later : ℕ → ℕ) (number : ℕ) → ((place : ℕ) → now place ≡ before (1522 * number + place)) → ((place : ℕ) → later place ≡ now (1522 + place)) → (place : ℕ) → later place ≡ before (1522 * (number + 1) + place)
moved_further before now later number moved rest place =
    let further : 1522 * number + (1522 + place) ≡ 1522 * (number + 1) + place = omega arith in
    rest place ∙ moved (1522 + place) ∙ ap before further

pub moved_on : (before now later : ℕ → ℕ) (number : ℕ) → ((place : ℕ) → now place ≡ before (1522 * number + place)) → ((place : ℕ) → later place ≡ now (1522 + place)) → GoesOn before later
moved_on before now later number moved rest = (1522 * (number + 1), moved_further before now later number moved rest)
