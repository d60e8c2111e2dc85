-- A list that is gone through from its first element to its last.
use Rattle.std.proofs.Common.{◌≡◌, ◌<◌, ◌+◌, ℕ, zero, suc, List, [], ◌∷◌, ◌++◌, length, drop, Some, subst, arith}
use native.Mathlib.Numerals.{unary_clauses}
use Rattle.std.specs.List.{slice_get}
use Rattle.node_actors.proofs.Seating.{some_same}

module _ {A : Type 0} where
  -- the next element is the one in its place, and then come those behind it
  pub is_next : (xs : List A) (n : ℕ) (x : A) (rest : List A) → x ∷ rest ≡ drop n xs → slice_get xs n ≡ Some x
  is_next [] zero x rest is = absurd (cc)
  is_next [] (suc n) x rest is = absurd (cc)
  is_next (y ∷ xs) zero x rest is = cc
  is_next (y ∷ xs) (suc n) x rest is = is_next xs n x rest is

  left_behind : (xs : List A) (n : ℕ) (x : A) (rest : List A) → x ∷ rest ≡ drop n xs → rest ≡ drop (suc n) xs
  left_behind [] zero x rest is = absurd (cc)
  left_behind [] (suc n) x rest is = absurd (cc)
  left_behind (y ∷ xs) zero x rest is = cc
  left_behind (y ∷ xs) (suc n) x rest is = left_behind xs n x rest is

  pub are_left : (xs : List A) (n : ℕ) (x : A) (rest : List A) → x ∷ rest ≡ drop n xs → rest ≡ drop (n + 1) xs
  are_left xs n x rest is = simp unary_clauses (left_behind xs n x rest is)

  -- while there are fewer, one is left
  pub is_left : (xs : List A) (n : ℕ) → n < length xs → drop n xs ≡ [] → ⊥
  is_left [] n few none = absurd (omega arith)
  is_left (x ∷ xs) zero few none = absurd (cc)
  is_left (x ∷ xs) (suc n) few none = is_left xs n (omega arith) none

  -- what holds of each in its place, and of one more behind them
  pub one_behind : (Is : ℕ → A → Type 0) (xs : List A) (y : A) → ((i : ℕ) (x : A) → slice_get xs i ≡ Some x → Is i x) → Is (length xs) y
      → (i : ℕ) (x : A) → slice_get (xs ++ y ∷ []) i ≡ Some x → Is i x
  one_behind Is [] y all last zero x is = subst (λ (z : A). Is zero z) (some_same y x is) last
  one_behind Is [] y all last (suc i) x is = absurd (cc)
  one_behind Is (z ∷ xs) y all last zero x is = all zero x is
  one_behind Is (z ∷ xs) y all last (suc i) x is = one_behind (λ n w. Is (suc n) w) xs y (λ j w. all (suc j) w) last i x is

-- what holds of the two in each place of two lists, and of one more of each behind them
pub two_behind : {X Y : Type 0} (Are : X → Y → Type 0) (xs : List X) (ys : List Y) (x : X) (y : Y) → length ys ≡ length xs
    → ((i : ℕ) (a : X) (b : Y) → slice_get xs i ≡ Some a → slice_get ys i ≡ Some b → Are a b) → Are x y
    → (i : ℕ) (a : X) (b : Y) → slice_get (xs ++ x ∷ []) i ≡ Some a → slice_get (ys ++ y ∷ []) i ≡ Some b → Are a b
two_behind {X = X} {Y = Y} Are [] [] x y many all last zero a b a_at b_at =
    subst (λ (z : Y). Are a z) (some_same y b b_at) (subst (λ (z : X). Are z y) (some_same x a a_at) last)
two_behind Are [] [] x y many all last (suc i) a b a_at b_at = absurd (cc)
two_behind Are [] (w ∷ ys) x y many all last i a b a_at b_at = absurd (omega arith)
two_behind Are (z ∷ xs) [] x y many all last i a b a_at b_at = absurd (omega arith)
two_behind Are (z ∷ xs) (w ∷ ys) x y many all last zero a b a_at b_at = all zero a b a_at b_at
two_behind Are (z ∷ xs) (w ∷ ys) x y many all last (suc i) a b a_at b_at =
    two_behind Are xs ys x y (omega arith) (λ j. all (suc j)) last i a b a_at b_at
