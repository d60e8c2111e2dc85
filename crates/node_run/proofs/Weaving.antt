-- Two lists are woven into one, an element of each in turn.
use Rattle.std.proofs.Common.{◌≡◌, ◌+◌, ◌*◌, ℕ, List, [], ◌∷◌, ◌++◌, length, Some, refl, ap, subst, ◌∙◌, arith}
use Rattle.std.specs.List.{slice_get}
use Rattle.std.proofs.lemmas.List.{length-append}
use Rattle.node_run.specs.Posts.{IsWoven}
use Rattle.node_run.proofs.Walking.{one_behind}

module _ {A : Type 0} (evens odds : List A) where
  -- an element in its place
  abbrev IsInTurn : ℕ → A → Type 0
  IsInTurn i one = (place : ℕ) → (i ≡ 2 * place → slice_get evens place ≡ Some one) × (i ≡ 2 * place + 1 → slice_get odds place ≡ Some one)

  -- so many of each are woven
  pub record AreWovenBelow (woven : List A) (n : ℕ) : Type 0 where
    pub many : length woven ≡ 2 * n
    pub each : (i : ℕ) (one : A) → slice_get woven i ≡ Some one → IsInTurn i one

  pub one_more_woven : (woven : List A) (n : ℕ) (even odd : A) → AreWovenBelow woven n → slice_get evens n ≡ Some even → slice_get odds n ≡ Some odd
      → AreWovenBelow ((woven ++ even ∷ []) ++ odd ∷ []) (n + 1)
  one_more_woven woven n even odd below even_at odd_at =
      let many = below.many in
      let one : length (woven ++ even ∷ []) ≡ 2 * n + 1 = length-append woven (even ∷ []) ∙ omega arith in
      let two : length ((woven ++ even ∷ []) ++ odd ∷ []) ≡ 2 * n + 2 = length-append (woven ++ even ∷ []) (odd ∷ []) ∙ omega arith in
      let is_even : IsInTurn (length woven) even = λ place. (
        λ is. subst (λ (p : ℕ). slice_get evens p ≡ Some even) (omega arith) even_at,
        λ is. absurd (omega arith),
      ) in
      let is_odd : IsInTurn (length (woven ++ even ∷ [])) odd = λ place. (
        λ is. absurd (omega arith),
        λ is. subst (λ (p : ℕ). slice_get odds p ≡ Some odd) (omega arith) odd_at,
      ) in
      record {
        many = omega arith;
        each = one_behind IsInTurn (woven ++ even ∷ []) odd (one_behind IsInTurn woven even below.each is_even) is_odd;
      }

  pub all_woven : (woven : List A) (n : ℕ) → AreWovenBelow woven n → n ≡ length evens → IsWoven evens odds woven
  all_woven woven n below all = record {
    many = below.many ∙ ap (λ (k : ℕ). 2 * k) all;
    even = λ place one at. (below.each (2 * place) one at place).0 refl;
    odd = λ place one at. (below.each (2 * place + 1) one at place).1 refl;
  }
