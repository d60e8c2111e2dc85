-- What the tests need of lists: passes in the order of their numbers.
use Rattle.std.proofs.Common.{◌≡◌, ℕ, suc, ◌+◌, ◌<◌, ◌≤◌, Bool, true, false, cond, List, [], ◌∷◌, ◌++◌, length, refl, sym, ap, ◌∙◌, subst, arith, length-append, eq-eqb, ne_eqb, ◌==◌}
use Rattle.std.specs.Prelude.{All, Any}
use Rattle.std.specs.List.{list_all}
use Rattle.std.proofs.lemmas.List.{append-nil}
use Rattle.std.proofs.lemmas.List.FromFn.{map-range_with_len_more}
use mathlib.Core.Logic.{dite}
use native.Mathlib.Decide.{ℕ_discrete}
use Rattle.turn_lock.specs.Seen.{Lock, Caller, IsOf, AreIdle, new_pass, new_passes}
use Rattle.turn_lock.specs.Stories.{after}
use Rattle.turn_lock.proofs.Lists.{all_cons, after_whole}

-- a list that grew by some entries, or by none
pub grown : (b : Bool) (old new added : List ℕ) (who : ℕ) → new ≡ cond b (old ++ added) old → All (λ e. e ≡ who) added → (rest : List ℕ) × (old ++ rest ≡ new) × All (λ e. e ≡ who) (after old new)
grown true old new added who is all = (added, sym is, subst (All (λ e. e ≡ who)) (sym (after_whole old added new (sym is))) all)
grown false old new added who is all =
    let same : old ++ [] ≡ new = append-nil old ∙ sym is in
    let none : All (λ (e : ℕ). e ≡ who) [] = (λ k d l. absurd (omega arith)) in
    ([], same, subst (All (λ e. e ≡ who)) (sym (after_whole old [] new same)) none)

pub all_tested : (who : ℕ) (xs : List ℕ) → list_all (λ e. e == who) xs ≡ true → All (λ e. e ≡ who) xs
all_tested who [] h = λ k d l. absurd (omega arith)
all_tested who (x ∷ xs) h =
    dite (ℕ_discrete x who)
    (λ same. all_cons (λ (e : ℕ). e ≡ who) x xs same (all_tested who xs (rw (eq-eqb x who same) at h)))
    (λ other. let no = rw (ne_eqb x who other) at h in absurd (cc no))

snoc_same : {A : Type 0} (xs ys : List A) (p q : A) → xs ++ p ∷ [] ≡ ys ++ q ∷ [] → (xs ≡ ys) × (p ≡ q)
snoc_same [] [] p q e = (refl, cc e)
snoc_same [] (y ∷ ys) p q e = absurd (omega (arith, ap length e, length-append ys (q ∷ [])))
snoc_same (x ∷ xs) [] p q e = absurd (omega (arith, ap length e, length-append xs (p ∷ [])))
snoc_same (x ∷ xs) (y ∷ ys) p q e = let heads : x ≡ y = cc e in let rest = snoc_same xs ys p q (cc e) in (cc (heads, rest.0), rest.1)

module _ {E : Type 0} (lock : Lock E) where
  -- the last of the first passes
  pub last_pass : (n : ℕ) (xs ys : List (Caller E)) (p : Caller E) → xs ≡ new_passes lock (n + 1) → xs ≡ ys ++ p ∷ [] → (ys ≡ new_passes lock n) × (p ≡ new_pass lock n)
  last_pass n xs ys p all last = snoc_same ys (new_passes lock n) p (new_pass lock n) (sym last ∙ (all ∙ map-range_with_len_more (new_pass lock) 0 n n (omega arith)))

  pub all_own : (n : ℕ) (ps : List (Caller E)) → AreIdle lock n ps → All (IsOf lock) ps
  all_own n [] h = λ k d l. absurd (omega arith)
  all_own n (p ∷ ps) h = all_cons (IsOf lock) p ps h.0.0 (all_own (n + 1) ps h.1)

  pub all_rest : (n : ℕ) (ps : List (Caller E)) → AreIdle lock n ps → All (λ p. p.holds ≡ false) ps
  all_rest n [] h = λ k d l. absurd (omega arith)
  all_rest n (p ∷ ps) h = all_cons (λ (q : Caller E). q.holds ≡ false) p ps h.0.1 (all_rest (n + 1) ps h.1)

  pub every : (n : ℕ) (ps : List (Caller E)) → AreIdle lock n ps → (c : ℕ) → n ≤ c → c < n + length ps → Any (λ p. p.number ≡ c) ps
  every n [] h c low high = absurd (omega arith)
  every n (p ∷ ps) h c low high =
      dite (ℕ_discrete n c)
      (λ same. (0, p, omega arith, refl, h.0.2 ∙ same))
      (λ other. let rest = every (n + 1) ps h.1 c (omega arith) (omega arith) in (suc rest.0, rest.1, (let l = rest.2 in omega arith), rest.3, rest.4))
