-- A search for the first due item, step by step.
use Rattle.std.proofs.Common.{◌≡◌, ℕ, ◌+◌, ◌<◌, ◌≤◌, ◌⊎◌, inl, inr, List, [], ◌∷◌, ◌++◌, length, take, Option, Some, None, refl, sym, ap, ◌∙◌, subst, arith, add-one}
use Rattle.std.specs.List.{Contains, slice_get, slice_index_or}
use Rattle.std.proofs.Math.Seq.{take-suc}
use Rattle.std.proofs.lemmas.Option.{get_or_from_slice_get, slice_get_read}
use Rattle.std.proofs.lemmas.List.Elements.{Contains-append_left, Contains-push, Contains-push_cases}
use Rattle.mix_base.proofs.Members.{none_in_empty}
use Rattle.due_queue.specs.Inside.{HasFound, StandsFirst}
use Rattle.due_queue.specs.Queues.{IsDue, IsFirstDue, NoneDue, NotAfter}
use Rattle.due_queue.specs.declared.destinations.Dest.{Dest}
use Rattle.due_queue.specs.declared.queue.Next.{Next}

-- one item more has been seen
seen_more : {T : Type 0} (items : List T) (place : ℕ) (item : T) → place < length items → item ≡ slice_index_or items place item → take (place + 1) items ≡ take place items ++ item ∷ []
seen_more items place item within is = rw add-one (take-suc items place item within) ∙ ap (λ last. take place items ++ last ∷ []) (sym is)

-- no item comes after itself; one due at the same moment with the same number has the same place
level : (next : Next) → NotAfter next next
level next = inr (refl, omega arith)

along : (first second third : Next) → NotAfter first second → NotAfter second third → NotAfter first third
along first second third (inl one) (inl two) = inl (omega arith)
along first second third (inl one) (inr two) = inl (omega (arith, two.0))
along first second third (inr one) (inl two) = inl (omega (arith, one.0))
along first second third (inr one) (inr two) = inr (one.0 ∙ two.0, omega (arith, one.1, two.1))

-- the first found stays where the next one isn't before it
pub stays_first : {T : Type 0} (told : T → Next) (wanted : Option Dest) (moment : ℕ) (items : List T) (place first : ℕ) (item at_first : T)
    → place < length items → item ≡ slice_index_or items place item → at_first ≡ slice_index_or items first at_first
    → StandsFirst told wanted moment items (take place items) first → NotAfter (told at_first) (told item)
    → StandsFirst told wanted moment items (take (place + 1) items) first
stays_first told wanted moment items place first item at_first within is is_first stands after =
    let found = stands.0 in
    let same : at_first ≡ found = is_first ∙ get_or_from_slice_get items first found at_first stands.1 in
    let more = seen_more items place item within is in (
      found,
      stands.1,
      record {
        there = subst (λ (l : List _). Contains l found) (sym more) (Contains-append_left (take place items) (item ∷ []) found stands.2.there);
        is_due = stands.2.is_due;
        first = λ other seen due.
            elim (Contains-push_cases (take place items) item other (subst (λ (l : List _). Contains l other) more seen)) [
              | inl before ↦ stands.2.first other before due
              | inr now ↦ subst (λ t. NotAfter (told found) (told t)) now (subst (λ t. NotAfter (told t) (told item)) same after)
            ];
      },
    )

-- the next one is first where it is due and before the one found
pub comes_first : {T : Type 0} (told : T → Next) (wanted : Option Dest) (moment : ℕ) (items : List T) (place first : ℕ) (item at_first : T)
    → place < length items → item ≡ slice_index_or items place item → at_first ≡ slice_index_or items first at_first
    → StandsFirst told wanted moment items (take place items) first → IsDue wanted moment (told item) → NotAfter (told item) (told at_first)
    → StandsFirst told wanted moment items (take (place + 1) items) place
comes_first told wanted moment items place first item at_first within is is_first stands due before =
    let found = stands.0 in
    let same : at_first ≡ found = is_first ∙ get_or_from_slice_get items first found at_first stands.1 in
    let before_found : NotAfter (told item) (told found) = subst (λ t. NotAfter (told item) (told t)) same before in
    let more = seen_more items place item within is in (
      item,
      slice_get_read items (length items) place item refl within is,
      record {
        there = subst (λ (l : List _). Contains l item) (sym more) (Contains-push (take place items) item);
        is_due = due;
        first = λ other seen other_due.
            elim (Contains-push_cases (take place items) item other (subst (λ (l : List _). Contains l other) more seen)) [
              | inl earlier ↦ along (told item) (told found) (told other) before_found (stands.2.first other earlier other_due)
              | inr now ↦ subst (λ t. NotAfter (told item) (told t)) now (level (told item))
            ];
      },
    )

-- the next one is first where it is due and none was before
pub is_only : {T : Type 0} (told : T → Next) (wanted : Option Dest) (moment : ℕ) (items : List T) (place : ℕ) (item : T)
    → place < length items → item ≡ slice_index_or items place item
    → NoneDue told wanted moment (take place items) → IsDue wanted moment (told item)
    → StandsFirst told wanted moment items (take (place + 1) items) place
is_only told wanted moment items place item within is none due =
    let more = seen_more items place item within is in (
      item,
      slice_get_read items (length items) place item refl within is,
      record {
        there = subst (λ (l : List _). Contains l item) (sym more) (Contains-push (take place items) item);
        is_due = due;
        first = λ other seen other_due.
            elim (Contains-push_cases (take place items) item other (subst (λ (l : List _). Contains l other) more seen)) [
              | inl earlier ↦ absurd (none other earlier other_due)
              | inr now ↦ subst (λ t. NotAfter (told item) (told t)) now (level (told item))
            ];
      },
    )

pub none_at_first : {T : Type 0} (told : T → Next) (wanted : Option Dest) (moment : ℕ) → NoneDue told wanted moment []
none_at_first told wanted moment item found = absurd (none_in_empty item found)
