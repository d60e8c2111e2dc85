-- The code's answers.
use Rattle.std.specs.Prelude.{◌≡◌, ⊤, Option, Some, None, Result, Ok, Err}
use Rattle.ntru_prime.specs.declared.faults.Refusal.{Refusal}
use Rattle.ntru_prime.specs.declared.faults.Refusal.TheVariants as refusals

-- an answer, seen by view, is a definition's value, and a refusal says that there is none; want of memory says
-- nothing
abbrev pub GivesAs : {X Y : Type 0} → (X → Y) → Result X Refusal → Option Y → Type 0
GivesAs view (Ok x) value = value ≡ Some (view x)
GivesAs view (Err refusals.Refused) value = value ≡ None
GivesAs view (Err refusals.Memory) value = ⊤

-- an answer is a definition's value
abbrev pub Gives : {X : Type 0} → Result X Refusal → Option X → Type 0
Gives result value = GivesAs (λ x. x) result value

-- a fact where there is no value
abbrev pub OnRefused : {X : Type 0} → Result X Refusal → Type 0 → Type 0
OnRefused (Ok x) fact = ⊤
OnRefused (Err refusals.Refused) fact = fact
OnRefused (Err refusals.Memory) fact = ⊤
