-- Elements are put one behind the other, each what its place asks.
use Rattle.std.proofs.Common.{◌≡◌, ◌<◌, ◌+◌, ℕ, zero, suc, List, [], ◌∷◌, ◌++◌, length, refl, sym, ap, subst, ◌∙◌, arith, Some}
use Rattle.std.specs.Prelude.{slice_get}
use Rattle.std.proofs.lemmas.List.{append-nil, append_assoc, length-append, length_push}
use Rattle.node_run.specs.Posts.{AddsEach, AreEach}
use Rattle.node_run.proofs.Walking.{one_behind}

-- ---- where an element stands

module _ {X : Type 0} where
  pub behind_front : (front : List X) (x : X) (rest : List X) → slice_get (front ++ x ∷ rest) (length front) ≡ Some x
  behind_front [] x rest = refl
  behind_front (y ∷ front) x rest = behind_front front x rest

  pub met_at : (all front rest : List X) (x : X) → all ≡ front ++ x ∷ rest → slice_get all (length front) ≡ Some x
  met_at all front rest x is = ap (λ (xs : List X). slice_get xs (length front)) is ∙ behind_front front x rest

  -- an element of two lists, one behind the other
  pub in_front : (xs ys : List X) (i : ℕ) → i < length xs → slice_get (xs ++ ys) i ≡ slice_get xs i
  in_front [] ys i low = absurd (omega arith)
  in_front (x ∷ xs) ys zero low = refl
  in_front (x ∷ xs) ys (suc i) low = in_front xs ys i (omega arith)

  pub in_back : (xs ys : List X) (i j : ℕ) → i ≡ length xs + j → slice_get (xs ++ ys) i ≡ slice_get ys j
  in_back [] ys i j is = ap (λ (n : ℕ). slice_get ys n) (omega arith)
  in_back (x ∷ xs) ys zero j is = absurd (omega arith)
  in_back (x ∷ xs) ys (suc i) j is = in_back xs ys i j (omega arith)

-- ---- one more

module _ {A : Type 0} (Is : ℕ → A → Type 0) where
  pub none_added : (posts : List A) → AddsEach Is 0 posts posts
  none_added posts = record { added = []; new_is = sym (append-nil posts); many_are = refl; each = λ place one at. absurd (cc) }

  pub one_more_added : (n m : ℕ) (first old new : List A) (one : A) → AddsEach Is n first old → new ≡ old ++ one ∷ [] → m ≡ n + 1 → Is n one → AddsEach Is m first new
  one_more_added n m first old new one adds new_is m_is is = record {
    added = adds.added ++ one ∷ [];
    new_is = new_is ∙ (ap (λ (ps : List A). ps ++ one ∷ []) adds.new_is ∙ append_assoc first adds.added (one ∷ []));
    many_are = length_push adds.added one ∙ (ap (λ (k : ℕ). k + 1) adds.many_are ∙ sym m_is);
    each = one_behind Is adds.added one adds.each (subst (λ (k : ℕ). Is k one) (sym adds.many_are) is);
  }

  pub one_more_each : (old new : List A) (one : A) → AreEach Is old → new ≡ old ++ one ∷ [] → Is (length old) one → AreEach Is new
  one_more_each old new one each new_is is = subst (AreEach Is) (sym new_is) (one_behind Is old one each is)

  pub added_length : (n : ℕ) (old new : List A) → AddsEach Is n old new → length new ≡ length old + n
  added_length n old new adds =
      ap (λ (ps : List A). length ps) adds.new_is ∙ (length-append old adds.added ∙ ap (λ (k : ℕ). length old + k) adds.many_are)

  -- an element in front of those that were added, and one of these
  pub before_added : (n : ℕ) (old new : List A) (place : ℕ) (one : A) → AddsEach Is n old new → place < length old → slice_get new place ≡ Some one
      → slice_get old place ≡ Some one
  before_added n old new place one adds low at =
      sym (in_front old adds.added place low) ∙ (ap (λ (ps : List A). slice_get ps place) (sym adds.new_is) ∙ at)

  pub among_added : (n : ℕ) (old new : List A) (i j : ℕ) (one : A) → AddsEach Is n old new → i ≡ length old + j → slice_get new i ≡ Some one → Is j one
  among_added n old new i j one adds is at =
      adds.each j one (sym (in_back old adds.added i j is) ∙ (ap (λ (ps : List A). slice_get ps i) (sym adds.new_is) ∙ at))
