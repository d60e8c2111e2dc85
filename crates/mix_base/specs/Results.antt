-- Steps that may be refused, one after the other; and how the result of a call stands to that of its definition. A
-- definition knows no want of memory: it may come at any call that takes some, and then nothing is said.
use Rattle.std.specs.Prelude.{◌≡◌, ⊤, Option, Some, None, Result, Ok, Err}

-- the next step on what this one gave; the first refusal decides
infixl 10 ◌>>=◌
abbrev pub ◌>>=◌ : {A B E : Type 0} → Result A E → (A → Result B E) → Result B E
(Ok given) >>= next = next given
(Err cause) >>= next = Err cause

-- the definition refuses with this cause; where there is none, memory ran out
abbrev pub IsRefusedBy : {Y C : Type 0} → Option C → Result Y C → Type 0
IsRefusedBy None value = ⊤
IsRefusedBy (Some cause) value = value ≡ Err cause

-- A call's result, seen by `view`, is the definition's, unless memory ran out. `cause_of` says which cause of the
-- definition a fault stands for, and None of want of memory.
abbrev pub GivesAs : {X Y F C : Type 0} → (F → Option C) → (X → Y) → Result X F → Result Y C → Type 0
GivesAs cause_of view (Ok given) value = value ≡ Ok (view given)
GivesAs cause_of view (Err fault) value = IsRefusedBy (cause_of fault) value

-- the same where the result is seen as it is
abbrev pub Gives : {X F C : Type 0} → (F → Option C) → Result X F → Result X C → Type 0
Gives cause_of result value = GivesAs cause_of (λ given. given) result value
