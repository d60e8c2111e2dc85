-- What holds of the value that a closed lock gives out.
use Rattle.std.proofs.Common.{◌≡◌, ℕ, ◌<◌, List, Option, Some, sym, ap, ◌∙◌, subst, ⊎_elim}
use Rattle.std.specs.Prelude.{All, Any, Contains, slice_index_or, unwrap_or}
use mathlib.Core.Option.{some, some-injective}
use mathlib.Core.Option as maybe
use lib.ListN.{get_elem?}
use Rattle.atomic_table.specs.Table.{Final, Seen}
use Rattle.turn_lock.specs.Seen.{Origin, Lock, Caller}
use Rattle.turn_lock.specs.Stories.{entries_by, after, Begins}
use Rattle.turn_lock.specs.declared.view.Role.TheVariants.{Rests}
use Rattle.turn_lock.specs.declared.view.View.{View}
use Rattle.turn_lock.specs.TurnRule.{OneStory}
use Rattle.turn_lock.specs.Seats.{SpeaksFor}
use Rattle.turn_lock.proofs.Lists.{in_cons}
use Rattle.turn_lock.proofs.Keeps.{Whole, whole}

module _ {T E : Type 0} (origin : T → Origin) (story : T → List E) (caller : E → ℕ) where
  -- the clauses of `close`
  pub record Ends (lock : Lock E) (passes : List (Caller E)) (x : T) : Type 0 where
    pub same : origin x ≡ lock.origin
    pub begins : Begins lock.story (story x)
    pub seen : All (λ p. Begins p.seen (story x)) passes
    pub made : All (λ p. entries_by caller p.number (after lock.story (story x)) ≡ p.made) passes
    pub others : All (λ e. caller e < lock.callers) (after lock.story (story x))

  -- a seat that speaks for every pass speaks for every caller
  every_caller : (v : View E) (passes : List (Caller E)) (n : ℕ) → All (SpeaksFor v) passes → ((c : ℕ) → c < n → Any (λ p. p.number ≡ c) passes) → (c : ℕ) → c < n → (made : List E) × Contains v.callers (c, made)
  every_caller v passes n speaks every c low =
      let any = every c low in
      let at : SpeaksFor v any.1 = subst (SpeaksFor v) any.3 (speaks any.0 any.1 any.2) in
      (any.1.made, subst (λ (k : ℕ). Contains v.callers (k, any.1.made)) any.4 at.0)

  ends_at : (lock : Lock E) (passes : List (Caller E)) (v : View E) (x : T) → All (SpeaksFor v) passes → Whole origin story caller lock.origin lock.story lock.callers v x → Ends lock passes x
  ends_at lock passes v x speaks w = record {
    same = w.same;
    begins = w.starts;
    seen = λ k d low.
        let p = slice_index_or passes k d in
        let B : List E → Type 0 = λ es. Begins es (story x) in
        ⊎_elim (λ (e : v.seen ≡ p.seen). subst B e w.begins) (w.heard p.seen) (in_cons v.seen v.heard p.seen (speaks k d low).1);
    made = λ k d low. let p = slice_index_or passes k d in w.made (p.number, p.made) (speaks k d low).0;
    others = w.others;
  }

  -- once one seat speaks for all passes, the slot has the value of the one story
  pub closing : (lock : Lock E) (passes : List (Caller E)) (id : ℕ) (v : View E) (ws : List ℕ) (xs : List (Option T)) (r : Option T)
      → Final (Seen (OneStory origin story caller lock.origin lock.story lock.callers) id v) ws xs → v.role ≡ Rests → All (SpeaksFor v) passes
      → ((c : ℕ) → c < lock.callers → Any (λ p. p.number ≡ c) passes) → get_elem? xs 0 ≡ some r → (x : T) × (r ≡ Some x) × Ends lock passes x
  closing lock passes id v ws xs r final rests speaks every there =
      let s = final.0 in
      let kept = final.1 in
      let end = whole origin story caller lock.origin lock.story lock.callers s kept.0 id v kept.1 rests (every_caller v passes lock.callers speaks every) in
      let home = ap (λ (hs : List (maybe.Option (Option T))). get_elem? hs 0) end.1 in
      let value : get_elem? xs 0 ≡ some (Some end.0) = final.4 0 (Some end.0) home in
      (end.0, some-injective r (Some end.0) (sym there ∙ value), ends_at lock passes v end.0 speaks end.2)

pub unwrapped : {T : Type 0} (x y : T) → ◌≡◌ {A = Option T} (Some x) (Some y) → x ≡ y
unwrapped x y e = ap (λ o. unwrap_or o x) e
