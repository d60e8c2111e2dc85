-- What holds of each element after a push.
use Rattle.std.proofs.Common.{◌≡◌, ℕ, ◌+◌, ◌<◌, List, [], ◌∷◌, ◌++◌, length, get_or, take, drop, arith, sym, ap, ◌∙◌, subst, inl, inr}
use Rattle.std.proofs.lemmas.List.{get_or_push, get_or_append_left, take_at}
use Rattle.std.proofs.lemmas.Bool.{cases_lt}

-- a fact on each place and what stands there, below the length
pub holds_at_push : {X : Type 0} (P : ℕ → X → Type 0) (xs ys : List X) (x d : X) (n : ℕ) → ys ≡ xs ++ x ∷ [] → length xs ≡ n → ((k : ℕ) → k < n → P k (get_or xs k d)) → P n x → (k : ℕ) → k < n + 1 → P k (get_or ys k d)
holds_at_push {X} P xs ys x d n e len before last k h = elim (cases_lt k n) [
  | inl lt ↦
      let within : k < length xs = omega arith in
      let same : get_or ys k d ≡ get_or xs k d = ap (λ (l : List X). get_or l k d) e ∙ get_or_append_left xs (x ∷ []) d k within in
      subst (P k) (sym same) (before k lt)
  | inr ge ↦
      let at : k ≡ n = omega arith in
      let same : get_or ys k d ≡ x = ap (λ (l : List X). get_or l k d) e ∙ get_or_push xs x d k (omega arith) in
      subst (λ (j : ℕ). P j (get_or ys k d)) (sym at) (subst (P n) (sym same) last)
]

-- a slice of a whole vector, written back
pub written_back : {X : Type 0} (n : ℕ) (xs new : List X) → length new ≡ n → take n (new ++ drop (length new) xs) ≡ new
written_back n xs new e = take_at new (drop (length new) xs) n e
