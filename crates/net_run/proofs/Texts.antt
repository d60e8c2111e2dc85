-- What was read of a source, and what a text says of settings.
use Rattle.std.proofs.Common.{◌≡◌, ◌≤◌, ◌<◌, ◌⊎◌, ◌+◌, ℕ, zero, suc, List, [], ◌++◌, length, Option, Some, None, IfSome, IsSomeAnd, Result, Ok, Err, OnOk, inl, inr, refl, sym, ap, subst, ◌∙◌, arith}
use Rattle.std.proofs.lemmas.List.{append-nil, length-append}
use Rattle.lab_text.specs.Readers.{ReachesEnd}
use Rattle.lab_text.specs.declared.settings.Config.{Config}
use Rattle.lab_text.specs.declared.statuses.Status.{Status}
use Rattle.lab_text.specs.declared.statuses.Status.TheVariants as statuses
use Rattle.net_run.specs.Reading.{HasFront, ReadsSettings, SaysOf, StopsText}

-- without a text there is nothing to say
pub unread : (left : Option (List ℕ)) (status : Status) → StopsText status → ReadsSettings left (Err status)
unread None statuses.ReadFault stops = record { text = []; told = tt; says = tt }
unread None statuses.Memory stops = record { text = []; told = tt; says = tt }
unread (Some bytes) statuses.ReadFault stops = record { text = bytes; told = refl; says = tt }
unread (Some bytes) statuses.Memory stops = record { text = bytes; told = refl; says = tt }
unread left _ stops = absurd stops

-- a front that is too long for settings says the same as all
long_says : (front all : List ℕ) (answer : Result Config Status) → 65536 < length front → 65536 < length all → SaysOf front answer → SaysOf all answer
long_says front all (Ok config) long longer says = absurd (let few = says.1.few in omega arith)
long_says front all (Err (statuses.Key key)) long longer (inl none) = inl (none.0, λ table document. let few = document.few in omega arith)
long_says front all (Err (statuses.Key key)) long longer (inr some) = absurd (let few = some.1.few in omega arith)
long_says front all (Err _) long longer says = tt

says_all : (before text after : List ℕ) (answer : Result Config Status) → HasFront before text after → SaysOf text answer → (length text ≤ 65536) ⊎ (65536 < length text)
    → SaysOf before answer
says_all before text after answer has says (inl few) =
    subst (λ (bytes : List ℕ). SaysOf bytes answer) (sym (has.front ∙ ap (λ (rest : List ℕ). text ++ rest) (has.all few) ∙ append-nil text)) says
says_all before text after answer has says (inr long) =
    long_says text before answer long (let a = ap (λ (bytes : List ℕ). length bytes) has.front ∙ length-append text after in omega arith) says

either : (m n : ℕ) → (m ≤ n) ⊎ (n < m)
either zero n = inl (omega arith)
either (suc m) zero = inr (omega arith)
either (suc m) (suc n) = elim (either m n) [ inl low ↦ inl (omega (arith, low)) | inr high ↦ inr (omega (arith, high)) ]

-- what the text that was read says
pub as_read : (before after : Option (List ℕ)) (text : List ℕ) (answer : Result Config Status) → IfSome before (λ b. IsSomeAnd after (λ a. HasFront b text a)) → SaysOf text answer
    → ReadsSettings before answer
as_read None after text answer has says = record { text = text; told = tt; says = says }
as_read (Some before) None text answer has says = absurd has
as_read (Some before) (Some after) text answer has says = record { text = before; told = refl; says = says_all before text after answer has says (either (length text) 65536) }

-- and settings are all that there was
pub at_end : (before after : Option (List ℕ)) (text : List ℕ) (answer : Result Config Status) → IfSome before (λ b. IsSomeAnd after (λ a. HasFront b text a)) → SaysOf text answer
    → OnOk answer (ReachesEnd before after)
at_end before after text (Err fault) has says = tt
at_end None after text (Ok config) has says = tt
at_end (Some before) None text (Ok config) has says = absurd has
at_end (Some before) (Some after) text (Ok config) has says = ap Some (has.all (says.1.few))
