-- A lock that nobody took: its passes are idle, and what is behind it is as it was.
use Rattle.std.proofs.Common.{◌≡◌, ◌<◌, ◌+◌, ℕ, zero, suc, List, [], ◌∷◌, ◌++◌, length, map, get_or, refl, sym, ap, subst, ◌∙◌, arith, eq-eqb}
use Rattle.std.specs.Prelude.{All}
use Rattle.std.specs.List.{range_with_len}
use Rattle.std.proofs.lemmas.List.{append-nil}
use Rattle.std.proofs.lemmas.List.FromFn.{get_or-map-range_with_len, length-map-range_with_len}
use Rattle.turn_lock.specs.Seen.{AreIdle, Caller, Lock, new_pass, new_passes}
use Rattle.turn_lock.specs.Stories.{Begins, after, entries_by}
use Rattle.turn_lock.proofs.Lists.{after_whole}

module _ {E : Type 0} (lock : Lock E) where
  idle_from : (n k : ℕ) → AreIdle lock n (map (new_pass lock) (range_with_len n k))
  idle_from n zero = tt
  idle_from n (suc k) = (((refl, refl), refl, refl), idle_from (n + 1) k)

  pub new_idle : (passes : List (Caller E)) → passes ≡ new_passes lock lock.callers → AreIdle lock 0 passes
  new_idle passes are = subst (λ (ps : List (Caller E)). AreIdle lock 0 ps) (sym are) (idle_from 0 lock.callers)

  -- nobody made an entry, so there is none
  none_made : (caller : E → ℕ) (since : List E) → All (λ e. caller e < lock.callers) since → ((c : ℕ) → c < lock.callers → entries_by caller c since ≡ []) → since ≡ []
  none_made caller [] others none = refl
  none_made caller (e ∷ since) others none =
      let who = caller e in
      let few : who < lock.callers = others 0 e (omega arith) in
      let own : entries_by caller who (e ∷ since) ≡ e ∷ entries_by caller who since = rw (eq-eqb who who refl) refl in
      absurd (let a : e ∷ entries_by caller who since ≡ [] = sym own ∙ none who few in cc)

  pub same_story : (caller : E → ℕ) (passes : List (Caller E)) (story : List E) → passes ≡ new_passes lock lock.callers → Begins lock.story story
      → All (λ e. caller e < lock.callers) (after lock.story story) → All (λ p. entries_by caller p.number (after lock.story story) ≡ p.made) passes → story ≡ lock.story
  same_story caller passes story are begins others made =
      let since = after lock.story story in
      let since_is : since ≡ begins.0 = after_whole lock.story begins.0 story begins.1 in
      let none : (c : ℕ) → c < lock.callers → entries_by caller c since ≡ [] = λ c low.
      let pass = new_pass lock c in
      let count : length passes ≡ lock.callers = ap (λ (ps : List (Caller E)). length ps) are ∙ length-map-range_with_len (new_pass lock) 0 lock.callers in
      let at : get_or passes c pass ≡ pass =
      ap (λ (ps : List (Caller E)). get_or ps c pass) are ∙ get_or-map-range_with_len (new_pass lock) 0 lock.callers c c pass low (omega arith) in
      ap (λ (p : Caller E). entries_by caller p.number since) (sym at) ∙ (made c pass (subst (λ (n : ℕ). c < n) (sym count) low) ∙ ap (λ (p : Caller E). p.made) at) in
      let gone : begins.0 ≡ [] = sym since_is ∙ none_made caller since others none in
      sym begins.1 ∙ (ap (λ (rest : List E). lock.story ++ rest) gone ∙ append-nil lock.story)
