-- Between two openings of its journal a shard accepts no pair twice, whether or not its rack tells its contents; and it
-- accepts none before the first.
use Rattle.std.proofs.Common.{◌≡◌, ◌≢◌, ◌⊎◌, ℕ, zero, suc, ◌||◌, Bool, true, false, List, [], ◌∷◌, ◌++◌, refl, sym, ap, subst, ◌∙◌, inl, inr, ⊎_elim}
use Rattle.std.specs.Bool.{⊤}
use Rattle.std.specs.List.{Contains}
use Rattle.std.proofs.lemmas.Bool.{cases_Bool}
use Rattle.std.proofs.lemmas.List.Elements.{All-contains, Contains-append_cases, Contains-append_left}
use Rattle.mix_base.specs.Suites.{SuiteMeaning}
use Rattle.mix_base.specs.declared.shards.Shape.{Shape}
use Rattle.mix_base.proofs.Members.{Contains-head, none_in_empty}
use Rattle.spent_store.specs.Journals.{Journal}
use Rattle.mix_shard.specs.Entries.{has_opened, opens_by}
use Rattle.mix_shard.specs.Laws.{AllCover, NoneTwice, accepted, accepted_by}
use Rattle.mix_shard.specs.Tale.{ClaimsItem, Rotates, Says, State, StaysUnsound, Tale, Unheard, unopened_by}
use Rattle.mix_shard.specs.declared.entries.Answer.TheVariants.{Taken}
use Rattle.mix_shard.specs.declared.entries.Entry.{Entry}
use Rattle.mix_shard.specs.declared.entries.Entry.TheVariants.{Claim, Take, Rotate, Done, Reopened}
use Rattle.mix_shard.specs.declared.entries.Told.{Told}
use Rattle.mix_shard.specs.declared.terms.Terms.{Terms}
use Rattle.mix_shard.proofs.Covering.{accepted_new, accepted_stays, covered_stays}
use Rattle.mix_shard.proofs.Tales.{unheard_none}

-- the journal is unsound, or covers the pair
abbrev Guards : ℕ × List ℕ → Journal → Type 0
Guards pair journal = journal.is_sound ≡ true → AllCover journal pair

true_false : {P : Type 0} (b : Bool) → b ≡ true → b ≡ false → P
true_false b yes' no' = let never : true ≡ false = sym yes' ∙ no' in absurd (cc)

unsound_times : (shape : Shape) (times : ℕ) (journal : Journal) → journal.is_sound ≡ false → (unopened_by shape times journal).is_sound ≡ false
unsound_times shape zero journal unsound = unsound
unsound_times shape (suc times) journal unsound = refl

module _ (tells : Type 0) (suite : SuiteMeaning) (terms : Terms) where
  unheard_guards : (pair : ℕ × List ℕ) (old new : State) → Unheard terms.shape old new → Guards pair old.journal → Guards pair new.journal
  unheard_guards pair old new unheard guards =
      let same : new.journal ≡ unopened_by terms.shape unheard.times old.journal = ap (λ (s : State). s.journal) unheard.new_is in
      subst (λ (j : Journal). Guards pair j) (sym same) (by_times unheard.times unheard.only)
    where
      by_times : (times : ℕ) → (times ≢ 0 → old.journal.is_sound ≡ false) → Guards pair (unopened_by terms.shape times old.journal)
      by_times zero only sound = guards sound
      by_times (suc times) only sound = true_false (unopened_by terms.shape (suc times) old.journal).is_sound sound refl

  unheard_unsound : (old new : State) → Unheard terms.shape old new → old.journal.is_sound ≡ false → new.journal.is_sound ≡ false
  unheard_unsound old new unheard unsound =
      ap (λ (s : State). s.journal.is_sound) unheard.new_is ∙ unsound_times terms.shape unheard.times old.journal unsound

  -- an entry that is no opening, of a sound journal: it doesn't matter whether the rack tells
  alone : (told : Told) (old new : State) → Says ⊤ suite terms told told.entry old new → Tale ⊤ suite terms old (told ∷ []) new
  alone told old new says = (old, new, unheard_none terms.shape old, says, unheard_none terms.shape new)

  sound_guarded : (pair : ℕ × List ℕ) (told : Told) (old new : State) → old.journal.is_sound ≡ true → Says ⊤ suite terms told told.entry old new
      → Guards pair old.journal → Guards pair new.journal
  sound_guarded pair told old new sound says guards after = covered_stays ⊤ tt suite terms old new (told ∷ []) (alone told old new says) pair (guards sound)

  -- what an entry says, told of any rack, where the journal is sound
  pub record Says' (told : Told) (old new : State) : Type 0 where
    pub sound : old.journal.is_sound ≡ true
    pub says : Says ⊤ suite terms told told.entry old new

  by_kind : (told : Told) (entry : Entry) → told.entry ≡ entry → opens_by entry ≡ false → (old new : State) → Says tells suite terms told entry old new
      → (new.journal ≡ old.journal) ⊎ ((new.journal.is_sound ≡ false) ⊎ Says' told old new)
  by_kind told (Claim caller number epoch tag at answer) is no' old new says =
      ⊎_elim
      (λ (h : ClaimsItem terms says.1 answer old new). inr (inr (record {
        sound = ap (λ (j : Journal). j.is_sound) h.sound;
        says = subst (λ (e : Entry). Says ⊤ suite terms told e old new) (sym is) (says.0, says.1, says.2, inl h);
      })))
      (λ (h : StaysUnsound tells terms answer old new). inr (inl (ap (λ (s : State). s.journal.is_sound) h.new_is)))
      says.3
  by_kind told (Take caller number dest moment) is no' old new says = inl says.journal
  by_kind told (Rotate caller moment answer) is no' old new says =
      ⊎_elim
      (λ (h : Rotates terms moment answer old new). inr (inr (record {
        sound = ap (λ (j : Journal). j.is_sound) h.sound;
        says = subst (λ (e : Entry). Says ⊤ suite terms told e old new) (sym is) (inl h);
      })))
      (λ (h : StaysUnsound tells terms answer old new). inr (inl (ap (λ (s : State). s.journal.is_sound) h.new_is)))
      says
  by_kind told (Done caller) is no' old new says = inl (ap (λ (s : State). s.journal) says.1)
  by_kind told (Reopened caller floor pairs) is no' old new says = absurd (cc)

  step_guards : (pair : ℕ × List ℕ) (told : Told) (old new : State) → opens_by told.entry ≡ false → Says tells suite terms told told.entry old new
      → Guards pair old.journal → Guards pair new.journal
  step_guards pair told old new no' says guards =
      elim (by_kind told told.entry refl no' old new says) [
        | inl same ↦ subst (λ (j : Journal). Guards pair j) (sym same) guards
        | inr (inl unsound) ↦ λ sound. true_false new.journal.is_sound sound unsound
        | inr (inr sound) ↦ sound_guarded pair told old new sound.sound sound.says guards
      ]

  -- a claim that is accepted is one of a sound journal
  accepted_says : (told : Told) (entry : Entry) → told.entry ≡ entry → (pair : ℕ × List ℕ) → Contains (accepted_by entry) pair → (old new : State) → Says tells suite terms told entry old new
      → Says' told old new
  accepted_says told (Claim caller number epoch tag at Taken) is pair found old new says =
      ⊎_elim
      (λ (h : ClaimsItem terms says.1 Taken old new). record {
        sound = ap (λ (j : Journal). j.is_sound) h.sound;
        says = subst (λ (e : Entry). Says ⊤ suite terms told e old new) (sym is) (says.0, says.1, says.2, inl h);
      })
      (λ (h : StaysUnsound tells terms Taken old new). absurd h.why)
      says.3
  accepted_says told _ is pair found old new says = absurd (none_in_empty pair found)

  one_accepted : (told : Told) (pair : ℕ × List ℕ) → Contains (accepted_by told.entry) pair → Contains (accepted (told ∷ [])) pair
  one_accepted told pair found = Contains-append_left (accepted_by told.entry) [] pair found

  -- what is guarded isn't accepted
  not_accepted : (pair : ℕ × List ℕ) (told : Told) (old new : State) → Guards pair old.journal → Says tells suite terms told told.entry old new → Contains (accepted_by told.entry) pair → ⊥
  not_accepted pair told old new guards says found =
      let sound = accepted_says told told.entry refl pair found old new says in
      All-contains (λ (p : ℕ × List ℕ). ¬ AllCover old.journal p) (accepted (told ∷ [])) pair
      (accepted_new ⊤ tt suite terms old new (told ∷ []) (alone told old new sound.says)) (one_accepted told pair found) (guards sound.sound)

  -- and what is accepted is guarded
  is_guarded : (pair : ℕ × List ℕ) (told : Told) (old new : State) → Says tells suite terms told told.entry old new → Contains (accepted_by told.entry) pair → Guards pair new.journal
  is_guarded pair told old new says found after =
      let sound = accepted_says told told.entry refl pair found old new says in
      All-contains (AllCover new.journal) (accepted (told ∷ [])) pair
      (accepted_stays ⊤ tt suite terms old new (told ∷ []) (alone told old new sound.says)) (one_accepted told pair found)

  first_false : (a b : Bool) → (a || b) ≡ false → (a ≡ false) × (b ≡ false)
  first_false true b is = absurd (cc)
  first_false false b is = (refl, is)

  guarded_out : (pair : ℕ × List ℕ) (old new : State) (tale : List Told) → Tale tells suite terms old tale new → has_opened tale ≡ false → Guards pair old.journal
      → Contains (accepted tale) pair → ⊥
  guarded_out pair old new [] tale closed guards found = none_in_empty pair found
  guarded_out pair old new (told ∷ others) tale closed guards found =
      let parts = first_false (opens_by told.entry) (has_opened others) closed in
      let before = unheard_guards pair old tale.0 tale.2 guards in
      elim (Contains-append_cases (accepted_by told.entry) (accepted others) pair found) [
        | inl here ↦ not_accepted pair told tale.0 tale.1 before tale.3 here
        | inr later ↦ guarded_out pair tale.1 new others tale.4 parts.1 (step_guards pair told tale.0 tale.1 parts.0 tale.3 before) later
      ]

  none_first : (entry : Entry) (others : List (ℕ × List ℕ)) → ((pair : ℕ × List ℕ) → Contains (accepted_by entry) pair → Contains others pair → ⊥) → NoneTwice others
      → NoneTwice (accepted_by entry ++ others)
  none_first (Claim caller number epoch tag at Taken) others new once = (new (epoch, tag) (Contains-head (epoch, tag) []), once)
  none_first _ others new once = once

  pub once_between : (old new : State) (tale : List Told) → Tale tells suite terms old tale new → has_opened tale ≡ false → NoneTwice (accepted tale)
  once_between old new [] tale closed = tt
  once_between old new (told ∷ others) tale closed =
      let parts = first_false (opens_by told.entry) (has_opened others) closed in
      none_first told.entry (accepted others)
      (λ pair here later. guarded_out pair tale.1 new others tale.4 parts.1 (is_guarded pair told tale.0 tale.1 tale.3 here) later)
      (once_between tale.1 new others tale.4 parts.1)

  -- ---- what is accepted from an unsound journal on, was so after an opening

  says_unsound : (told : Told) (old new : State) → opens_by told.entry ≡ false → old.journal.is_sound ≡ false → Says tells suite terms told told.entry old new → new.journal.is_sound ≡ false
  says_unsound told old new no' unsound says =
      elim (by_kind told told.entry refl no' old new says) [
        | inl same ↦ ap (λ (j : Journal). j.is_sound) same ∙ unsound
        | inr (inl still) ↦ still
        | inr (inr sound) ↦ true_false old.journal.is_sound sound.sound unsound
      ]

  pub opened_first : (old new : State) (tale : List Told) (pair : ℕ × List ℕ) → Tale tells suite terms old tale new → old.journal.is_sound ≡ false → Contains (accepted tale) pair → has_opened tale ≡ true
  opened_first old new [] pair tale unsound found = absurd (none_in_empty pair found)
  opened_first old new (told ∷ others) pair tale unsound found =
      let before = unheard_unsound old tale.0 tale.2 unsound in
      elim (cases_Bool (opens_by told.entry)) [
        | inl opens ↦ rw opens refl
        | inr no' ↦ elim (Contains-append_cases (accepted_by told.entry) (accepted others) pair found) [
          | inl here ↦ true_false tale.0.journal.is_sound (accepted_says told told.entry refl pair here tale.0 tale.1 tale.3).sound before
          | inr later ↦ rw no' (opened_first tale.1 new others pair tale.4 (says_unsound told tale.0 tale.1 no' before tale.3) later)
        ]
      ]
