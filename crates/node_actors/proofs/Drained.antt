-- A shard that is drained, by its tale; and that it stays so where those who may claim have ended.
use Rattle.std.proofs.Common.{◌≡◌, ℕ, suc, ◌%◌, ◌<◌, ◌||◌, Bool, true, false, List, [], ◌∷◌, ◌++◌, length, get_or, refl, sym, ap, subst, ◌∙◌, arith, Some}
use Rattle.std.specs.Prelude.{IsTrue, slice_get}
use Rattle.std.proofs.lemmas.List.{length-replicate, get_or-replicate, length-append}
use Rattle.std.proofs.lemmas.List.Elements.{filter-append}
use Rattle.std.proofs.lemmas.List.Folds.{list_any-append}
use Rattle.std.proofs.lemmas.Option.{get_or_from_slice_get, slice_get-get_or}
use Rattle.mix_base.specs.Suites.{SuiteMeaning}
use Rattle.mix_shard.specs.Entries.{caller_of}
use Rattle.mix_shard.specs.Items.{Item}
use Rattle.mix_shard.specs.Shards.{IsDrained, IsKept, ShardState}
use Rattle.mix_shard.specs.Tale.{began, IsActive, Says, State, Tale}
use Rattle.mix_shard.specs.declared.entries.Entry.{Entry}
use Rattle.mix_shard.specs.declared.entries.Entry.TheVariants.{Claim, Take, Rotate, Done, Reopened}
use Rattle.mix_shard.specs.declared.entries.Told.{Told}
use Rattle.mix_shard.specs.declared.terms.Terms.{Terms}
use Rattle.node_actors.specs.Calls.{acceptances, AreByClaimers, ends_by, has_ended, HoldsNothing, is_accepted, is_claim, is_take, IsSpent, takes}
use Rattle.node_actors.proofs.Seating.{get_low}
use Rattle.node_actors.proofs.Tallies.{says_done, says_many, tale_done, tale_held, tale_split}

or_true : (b : Bool) → (b || true) ≡ true
or_true true = refl
or_true false = refl

or_false : (b : Bool) → (b || false) ≡ b
or_false true = refl
or_false false = refl

pub no_items : (items : List Item) → length items ≡ 0 → items ≡ []
no_items [] none = refl
no_items (item ∷ items) none = absurd (omega arith)

module _ (tells : Type 0) (suite : SuiteMeaning) (shard : ShardState) (kept : IsKept tells suite shard) where
  abbrev start : State
  start = began shard.terms shard.first.areas

  low_at_first : (c : ℕ) → c < shard.terms.callers → c < length start.done
  low_at_first c low = omega (arith, length-replicate shard.terms.callers false)

  low_now : (c : ℕ) → c < shard.terms.callers → c < length shard.state.done
  low_now c low =
      let h = tale_done tells suite shard.terms start shard.state shard.told c (low_at_first c low) kept.tale in
      omega (arith, h.0, low_at_first c low)

  done_now : (c : ℕ) → c < shard.terms.callers → get_or shard.state.done c false ≡ has_ended c shard.told
  done_now c low =
      let h = tale_done tells suite shard.terms start shard.state shard.told c (low_at_first c low) kept.tale in
      h.1 ∙ (ap (λ (b : Bool). has_ended c shard.told || b) (get_or-replicate shard.terms.callers c false false low) ∙ or_false (has_ended c shard.told))

  -- who hasn't ended may still act
  pub is_active : (c : ℕ) → c < shard.terms.callers → has_ended c shard.told ≡ false → IsActive c shard.state
  is_active c low not_ended = slice_get-get_or shard.state.done c false (low_now c low) ∙ ap Some (done_now c low ∙ not_ended)

  pub drained_is_spent : IsDrained shard → IsSpent shard.terms.callers shard.told
  drained_is_spent drained = record {
    ended = λ c low even. sym (done_now c low) ∙ get_or_from_slice_get shard.state.done c true false (drained.done c low even);
    empty =
        let all = tale_held tells suite shard.terms start shard.state shard.told kept.tale in
        let none : length shard.state.held ≡ 0 = ap (λ (items : List Item). length items) drained.empty in
        omega arith;
  }

  -- who isn't done hasn't ended
  pub not_ended : (c : ℕ) → c < shard.terms.callers → slice_get shard.state.done c ≡ Some false → has_ended c shard.told ≡ false
  not_ended c low is = sym (done_now c low) ∙ get_or_from_slice_get shard.state.done c false false is

  pub fresh_holds_nothing : shard.state.held ≡ [] → HoldsNothing shard.told
  fresh_holds_nothing empty =
      let all = tale_held tells suite shard.terms start shard.state shard.told kept.tale in
      let none : length shard.state.held ≡ 0 = ap (λ (items : List Item). length items) empty in
      omega (arith, all, none)

  pub spent_is_drained : IsSpent shard.terms.callers shard.told → IsDrained shard
  spent_is_drained spent = record {
    done = λ c low even. slice_get-get_or shard.state.done c false (low_now c low) ∙ ap Some (done_now c low ∙ spent.ended c low even);
    empty =
        let all = tale_held tells suite shard.terms start shard.state shard.told kept.tale in
        let as_many = spent.empty in
        no_items shard.state.held (omega arith);
  }

-- where everyone who may claim has ended, nothing more is claimed
module _ (tells : Type 0) (suite : SuiteMeaning) (terms : Terms) (callers : ℕ) where
  abbrev AreDone : State → Type 0
  AreDone state = (c : ℕ) → c < callers → c % 2 ≡ 0 → get_or state.done c false ≡ true

  claims_nothing : (told : Told) (entry : Entry) (old new : State) → callers ≡ length old.done → AreDone old → (IsTrue (is_claim entry) → caller_of entry % 2 ≡ 0)
      → Says tells suite terms told entry old new → is_accepted entry ≡ false
  claims_nothing told (Claim caller number epoch tag at answer) old new many done may says =
      let is = get_or_from_slice_get old.done caller false false says.0 in
      let low : caller < callers = let l = get_low old.done caller false says.0 in omega (arith, l, many) in
      absurd (different (sym (done caller low (may refl)) ∙ is))
    where
      different : true ≡ false → ⊥
      different same = cc
  claims_nothing told (Take caller number dest moment) old new many done may says = refl
  claims_nothing told (Rotate caller moment answer) old new many done may says = refl
  claims_nothing told (Done who) old new many done may says = refl
  claims_nothing told (Reopened caller floor pairs) old new many done may says = refl

  no_acceptance : (old new : State) (rest : List Told) → callers ≡ length old.done → AreDone old → AreByClaimers rest
      → Tale tells suite terms old rest new → length (acceptances rest) ≡ 0
  no_acceptance old new [] many done may tale = refl
  no_acceptance old new (told ∷ others) many done may tale =
      let before : tale.0.done ≡ old.done = ap (λ (s : State). s.done) tale.2.new_is in
      let done_before : AreDone tale.0 = λ c low even. ap (λ (d : List Bool). get_or d c false) before ∙ done c low even in
      let many_before : callers ≡ length tale.0.done = many ∙ ap (λ (d : List Bool). length d) (sym before) in
      let none = claims_nothing told told.entry tale.0 tale.1 many_before done_before (may 0 told (omega arith)) tale.3 in
      let done_after : AreDone tale.1 = λ c low even.
      (says_done tells suite terms told told.entry tale.0 tale.1 c (subst (λ (n : ℕ). c < n) many_before low) tale.3).done
      ∙ (ap (λ (b : Bool). ends_by c told.entry || b) (done_before c low even) ∙ or_true (ends_by c told.entry)) in
      let many_after : callers ≡ length tale.1.done = many_before ∙ sym (says_many tells suite terms told told.entry tale.0 tale.1 tale.3) in
      let rest = no_acceptance tale.1 new others many_after done_after (λ k d l. may (suc k) d (omega arith)) tale.4 in
      rw none rest

tale_many : (tells : Type 0) (suite : SuiteMeaning) (terms : Terms) (old new : State) (tale : List Told) {callers : ℕ} → length old.done ≡ callers
    → Tale tells suite terms old tale new → callers ≡ length new.done
tale_many tells suite terms old new [] many unheard = sym many ∙ sym (ap (λ (s : State). length s.done) unheard.new_is)
tale_many tells suite terms old new (told ∷ others) many tale =
    tale_many tells suite terms tale.1 new others
    (says_many tells suite terms told told.entry tale.0 tale.1 tale.3 ∙ (ap (λ (s : State). length s.done) tale.2.new_is ∙ many)) tale.4

-- a shard whose tale goes on with such entries stays drained
pub stays_spent : (tells : Type 0) (suite : SuiteMeaning) (shard : ShardState) → IsKept tells suite shard → (first rest : List Told) → shard.told ≡ first ++ rest
    → IsSpent shard.terms.callers first → AreByClaimers rest → IsSpent shard.terms.callers shard.told
stays_spent tells suite shard kept first rest whole spent may =
    let callers = shard.terms.callers in
    let begins = began shard.terms shard.first.areas in
    let told : Tale tells suite shard.terms begins (first ++ rest) shard.state = subst (λ (tale : List Told). Tale tells suite shard.terms begins tale shard.state) whole kept.tale in
    let parts = tale_split tells suite shard.terms begins shard.state first rest told in
    let many : length begins.done ≡ callers = length-replicate callers false in
    let low : (c : ℕ) → c < callers → c < length begins.done = λ c h. omega arith in
    let many_mid : callers ≡ length parts.0.done = tale_many tells suite shard.terms begins parts.0 first many parts.1 in
    let done : (c : ℕ) → c < callers → c % 2 ≡ 0 → get_or parts.0.done c false ≡ true = λ c h even.
    (tale_done tells suite shard.terms begins parts.0 first c (low c h) parts.1).1 ∙ ap (λ (b : Bool). b || get_or begins.done c false) (spent.ended c h even) in
    let none = no_acceptance tells suite shard.terms callers parts.0 shard.state rest many_mid done may parts.2 in
    let held_mid = tale_held tells suite shard.terms begins parts.0 first parts.1 in
    let held_end = tale_held tells suite shard.terms parts.0 shard.state rest parts.2 in
    let as_many = spent.empty in
    record {
      ended = λ c h even.
          ap (λ (tale : List Told). has_ended c tale) whole
          ∙ (list_any-append (λ (told : Told). ends_by c told.entry) first rest ∙ ap (λ (b : Bool). b || has_ended c rest) (spent.ended c h even));
      empty =
          let out = ap (λ (tale : List Told). length (takes tale)) whole in
          let taken = ap (λ (tale : List Told). length (acceptances tale)) whole in
          let out_parts = filter-append (λ (told : Told). is_take told.entry) first rest in
          let taken_parts = filter-append (λ (told : Told). is_accepted told.entry) first rest in
          let out_many = ap (λ (tale : List Told). length tale) out_parts ∙ length-append (takes first) (takes rest) in
          let taken_many = ap (λ (tale : List Told). length tale) taken_parts ∙ length-append (acceptances first) (acceptances rest) in
          omega arith;
    }
