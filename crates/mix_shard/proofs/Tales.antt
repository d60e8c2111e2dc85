-- Tales: entries are told behind others, and openings that no entry tells of come one after the other.
use Rattle.std.proofs.Common.{◌≡◌, ◌≢◌, ◌⊎◌, ℕ, zero, suc, ◌+◌, false, List, [], ◌∷◌, ◌++◌, refl, sym, ap, subst, ◌∙◌, inl, inr, arith}
use Rattle.std.proofs.lemmas.List.{append_assoc, append-nil}
use Rattle.mix_base.specs.Suites.{SuiteMeaning}
use Rattle.mix_base.specs.declared.shards.Shape.{Shape}
use Rattle.spent_store.specs.Journals.{Journal, unopened}
use Rattle.mix_shard.specs.Shards.{SameButRack, ShardState, Unopened}
use Rattle.mix_shard.specs.Tale.{State, Step, Steps, Tale, Unheard, unopened_by}
use Rattle.mix_shard.specs.declared.entries.Told.{Told}
use Rattle.mix_shard.specs.declared.terms.Terms.{Terms}

-- ---- openings that no entry tells of

pub unheard_none : (shape : Shape) (state : State) → Unheard shape state state
unheard_none shape state = record { times = 0; only = λ some. absurd (some refl); new_is = refl }

pub unheard_once : (shape : Shape) (old : State) → old.journal.is_sound ≡ false
    → Unheard shape old (record old { journal = unopened shape old.journal })
unheard_once shape old unsound = record { times = 1; only = λ some. unsound; new_is = refl }

unopened_more : (shape : Shape) (more times : ℕ) (journal : Journal)
    → unopened_by shape more (unopened_by shape times journal) ≡ unopened_by shape (more + times) journal
unopened_more shape zero times journal =
    let same : times ≡ 0 + times = omega arith in
    ap (λ (n : ℕ). unopened_by shape n journal) same
unopened_more shape (suc more) times journal =
    let same : suc (more + times) ≡ suc more + times = omega arith in
    ap (unopened shape) (unopened_more shape more times journal)
    ∙ ap (λ (n : ℕ). unopened_by shape n journal) same

still_unsound : (shape : Shape) (times : ℕ) (journal : Journal) → (unopened_by shape times journal).is_sound ≡ false
    → (times ≢ 0 → journal.is_sound ≡ false) → journal.is_sound ≡ false
still_unsound shape zero journal unsound only = unsound
still_unsound shape (suc times) journal unsound only = only (λ same. omega (arith, same))

pub unheard_then : (shape : Shape) (a b c : State) → Unheard shape a b → Unheard shape b c → Unheard shape a c
unheard_then shape a b c first second =
    let journal_is : b.journal ≡ unopened_by shape first.times a.journal = ap (λ (s : State). s.journal) first.new_is in
    record {
      times = second.times + first.times;
      only = λ some. elim (cases second.times) [
        | inl none ↦ first.only (λ same. some (omega (arith, none, same)))
        | inr more ↦ still_unsound shape first.times a.journal
            (subst (λ (j : Journal). j.is_sound ≡ false) journal_is (second.only more)) first.only
      ];
      new_is = second.new_is
          ∙ ap (λ (s : State). record s { journal = unopened_by shape second.times s.journal }) first.new_is
          ∙ ap (λ (j : Journal). record a { journal = j }) (unopened_more shape second.times first.times a.journal);
    }
  where
    cases : (n : ℕ) → (n ≡ 0) ⊎ (n ≢ 0)
    cases zero = inl refl
    cases (suc n) = inr (λ same. omega (arith, same))

-- ---- entries behind others

module _ (tells : Type 0) (suite : SuiteMeaning) (terms : Terms) where
  pub told_on : (old mid new : State) (tale : List Told) (one : Told) → Tale tells suite terms old tale mid
      → Step tells suite terms one mid new → Tale tells suite terms old (tale ++ one ∷ []) new
  told_on old mid new [] one unheard step = (mid, new, unheard, step, unheard_none terms.shape new)
  told_on old mid new (first ∷ others) one told step =
      (told.0, told.1, told.2, told.3, told_on told.1 mid new others one told.4 step)

  pub unheard_told : (old mid new : State) (tale : List Told) → Tale tells suite terms old tale mid
      → Unheard terms.shape mid new → Tale tells suite terms old tale new
  unheard_told old mid new [] unheard more = unheard_then terms.shape old mid new unheard more
  unheard_told old mid new (first ∷ others) told more =
      (told.0, told.1, told.2, told.3, unheard_told told.1 mid new others told.4 more)

  pub steps_told : (old mid new : State) (tale more : List Told) → Tale tells suite terms old tale mid
      → Steps tells suite terms mid more new → Tale tells suite terms old (tale ++ more) new
  steps_told old mid new tale [] told same =
      subst (λ (entries : List Told). Tale tells suite terms old entries new) (sym (append-nil tale))
      (subst (λ (state : State). Tale tells suite terms old tale state) (sym same) told)
  steps_told old mid new tale (one ∷ more) told steps =
      subst (λ (entries : List Told). Tale tells suite terms old entries new) (append_assoc tale (one ∷ []) more)
      (steps_told old steps.0 new (tale ++ one ∷ []) more (told_on old mid steps.0 tale one told steps.1) steps.2)

  pub one_step : (old new : State) (one : Told) → Step tells suite terms one old new → Steps tells suite terms old (one ∷ []) new
  one_step old new one step = (new, step, refl)

  pub steps_then : (a b c : State) (first second : List Told) → Steps tells suite terms a first b
      → Steps tells suite terms b second c → Steps tells suite terms a (first ++ second) c
  steps_then a b c [] second same steps = subst (λ (state : State). Steps tells suite terms state second c) same steps
  steps_then a b c (one ∷ first) second steps more = (steps.0, steps.1, steps_then steps.0 b c first second steps.2 more)

  -- entries with nothing between them are a tale
  pub tale_of_steps : (old new : State) (tale : List Told) → Steps tells suite terms old tale new → Tale tells suite terms old tale new
  tale_of_steps old new [] same = subst (λ (state : State). Unheard terms.shape old state) (sym same) (unheard_none terms.shape old)
  tale_of_steps old new (one ∷ others) steps = (old, steps.0, unheard_none terms.shape old, steps.1, tale_of_steps steps.0 new others steps.2)

-- ---- calls that tell nothing

module _ (tells : Type 0) (suite : SuiteMeaning) (old new : ShardState) where
  -- an opening that failed is a tale of no entry
  pub unopened_told : Unopened old new → Tale tells suite old.terms old.state [] new.state
  unopened_told failed =
      subst (λ (state : State). Unheard old.terms.shape old.state state) (sym failed.state) (unheard_once old.terms.shape old.state failed.unsound)

  -- and so is what changes the rack alone
  pub same_told : SameButRack old new → Tale tells suite old.terms old.state [] new.state
  same_told same =
      subst (λ (state : State). Unheard old.terms.shape old.state state) (sym same.state) (unheard_none old.terms.shape old.state)
