-- Facts about stories, and about lists read by `get_elem?`.
use Rattle.std.proofs.Common.{◌≡◌, ◌≢◌, ◌⊎◌, ℕ, zero, suc, ◌<◌, ◌≤◌, ◌==◌, false, List, [], ◌∷◌, ◌++◌, length, get_or, set, refl, sym, ap, ◌∙◌, subst, inl, inr, ⊎_elim, arith, append_assoc, eq-eqb, ne_eqb, lt_of_not-le}
use Rattle.std.specs.Prelude.{All, Contains, slice_index_or, nat_le}
use Rattle.std.proofs.lemmas.List.Elements.{filter-append}
use Rattle.std.proofs.lemmas.Bool.Decides.{nat_tests}
use Rattle.std.proofs.lemmas.Bool.{le-leb}
use mathlib.Core.Option.{some, some-ne-none, some-injective}
use mathlib.Core.Logic.{dite}
use native.Mathlib.Decide.{dec_le}
use lib.ListN.{get_elem?}
use Rattle.atomic_table.proofs.Lists.{at_set}
use Rattle.turn_lock.specs.Stories.{entries_by, after, Begins, longer}

module _ {A : Type 0} where
  -- a place that is set
  pub at_place : (l : List A) (i : ℕ) (a b : A) → get_elem? l i ≡ some a → get_elem? (set l i b) i ≡ some b
  at_place [] i a b e = absurd (some-ne-none a (sym e))
  at_place (x ∷ xs) zero a b e = refl
  at_place (x ∷ xs) (suc i) a b e = at_place xs i a b e

  pub in_one : (a b : A) → Contains (a ∷ []) b → a ≡ b
  in_one a b here = at here.0 here.1 here.2
    where
      at : (k : ℕ) → k < length (a ∷ []) → slice_index_or (a ∷ []) k b ≡ b → a ≡ b
      at zero h e = e
      at (suc k) h e = absurd (omega arith)

  pub in_cons : (x : A) (xs : List A) (a : A) → Contains (x ∷ xs) a → (x ≡ a) ⊎ Contains xs a
  in_cons x xs a here = at here.0 here.1 here.2
    where
      at : (k : ℕ) → k < length (x ∷ xs) → slice_index_or (x ∷ xs) k a ≡ a → (x ≡ a) ⊎ Contains xs a
      at zero h e = inl e
      at (suc k) h e = inr (k, omega arith, e)

  pub longer_begins : (es whole more longer : List A) → whole ++ more ≡ longer → Begins es whole → Begins es longer
  longer_begins es whole more longer e begins = (begins.0 ++ more, sym (append_assoc es begins.0 more) ∙ (ap (λ xs. xs ++ more) begins.1 ∙ e))

  pub one_in : (l : List A) (a : A) → l ≡ a ∷ [] → Contains l a
  one_in l a e = subst (λ xs. Contains xs a) (sym e) (zero, omega arith, refl)

  -- in a list with one place set, each element is the new one or stands elsewhere
  pub each_set : (K : ℕ → A → Type 0) (l : List A) (i : ℕ) (a : A) → K i a → ((j : ℕ) (b : A) → j ≢ i → get_elem? l j ≡ some b → K j b) → (j : ℕ) (b : A) → get_elem? (set l i a) j ≡ some b → K j b
  each_set K l i a mine others j b e =
      ⊎_elim
      (λ (t : (j ≡ i) × (a ≡ b)). subst (λ (z : ℕ × A). K z.0 z.1) (λ k. (sym t.0 k, t.1 k)) mine)
      (λ (t : (j ≢ i) × (get_elem? l j ≡ some b)). others j b t.0 t.1)
      (at_set l i j a b e)

  -- in a list with one element more, each element is the last one or stands before it
  pub each_snoc : (K : ℕ → A → Type 0) (l : List A) (a : A) → K (length l) a → ((j : ℕ) (b : A) → get_elem? l j ≡ some b → K j b) → (j : ℕ) (b : A) → get_elem? (l ++ a ∷ []) j ≡ some b → K j b
  each_snoc K [] a mine others zero b e = subst (K zero) (some-injective a b e) mine
  each_snoc K [] a mine others (suc j) b e = absurd (some-ne-none b (sym e))
  each_snoc K (x ∷ xs) a mine others zero b e = others zero b e
  each_snoc K (x ∷ xs) a mine others (suc j) b e = each_snoc (λ i. K (suc i)) xs a mine (λ i c t. others (suc i) c t) j b e

  pub there_below : (l : List A) (i : ℕ) (a : A) → get_elem? l i ≡ some a → i < length l
  there_below [] i a e = absurd (some-ne-none a (sym e))
  there_below (x ∷ xs) zero a e = omega arith
  there_below (x ∷ xs) (suc i) a e = let h = there_below xs i a e in omega arith

  pub after-append : (xs ys : List A) → after xs (xs ++ ys) ≡ ys
  after-append [] ys = refl
  after-append (x ∷ xs) ys = after-append xs ys

  pub after_whole : (xs ys zs : List A) → xs ++ ys ≡ zs → after xs zs ≡ ys
  after_whole xs ys zs e = ap (after xs) (sym e) ∙ after-append xs ys

  -- what stands behind a beginning of one list that has a common front with it
  pub behind_first : (front seen rest since : List A) → Begins front seen → seen ++ rest ≡ front ++ since → (mid : List A) × (mid ++ rest ≡ since)
  behind_first front seen rest since begins e =
      let whole : front ++ (begins.0 ++ rest) ≡ front ++ since = sym (append_assoc front begins.0 rest) ∙ (ap (λ (xs : List A). xs ++ rest) begins.1 ∙ e) in
      (begins.0, sym (after-append front (begins.0 ++ rest)) ∙ (ap (after front) whole ∙ after-append front since))

  -- of two beginnings of one list the shorter begins the longer
  pub begins_longer : (xs ys r s : List A) → xs ++ r ≡ ys ++ s → length xs ≤ length ys → (mid : List A) × (xs ++ mid ≡ ys) × (r ≡ mid ++ s)
  begins_longer [] ys r s e le = (ys, refl, e)
  begins_longer (x ∷ xs) [] r s e le = absurd (omega arith)
  begins_longer (x ∷ xs) (y ∷ ys) r s e le =
      let heads : x ≡ y = cc e in
      let rest = begins_longer xs ys r s (cc e) (omega arith) in
      (rest.0, cc (heads, rest.1), rest.2)

  pub append_empty : (xs ys : List A) → xs ++ ys ≡ [] → ys ≡ []
  append_empty [] ys e = e
  append_empty (x ∷ xs) ys e = absurd cc

module _ {E : Type 0} (caller : E → ℕ) where
  pub entries_by-append : (c : ℕ) (xs ys : List E) → entries_by caller c (xs ++ ys) ≡ entries_by caller c xs ++ entries_by caller c ys
  entries_by-append c xs ys = filter-append (λ e. caller e == c) xs ys

  -- what a caller doesn't have in a list, it doesn't have in the list's end
  pub none_behind : (c : ℕ) (xs ys : List E) → entries_by caller c (xs ++ ys) ≡ [] → entries_by caller c ys ≡ []
  none_behind c xs ys e = append_empty (entries_by caller c xs) (entries_by caller c ys) (sym (entries_by-append c xs ys) ∙ e)

  pub all_his : (c : ℕ) (xs : List E) → All (λ e. caller e ≡ c) xs → entries_by caller c xs ≡ xs
  all_his c [] his = refl
  all_his c (x ∷ xs) his =
      let here : caller x ≡ c = his 0 x (omega arith) in
      let rest = all_his c xs (λ k d h. his (suc k) d (omega arith)) in
      rw (eq-eqb (caller x) c here) (ap (λ es. x ∷ es) rest)

  pub none_others : (c d : ℕ) (xs : List E) → All (λ e. caller e ≡ c) xs → d ≢ c → entries_by caller d xs ≡ []
  none_others c d [] his apart = refl
  none_others c d (x ∷ xs) his apart =
      let here : caller x ≡ c = his 0 x (omega arith) in
      let rest = none_others c d xs (λ k e h. his (suc k) e (omega arith)) apart in
      rw (ne_eqb (caller x) d (λ e. apart (sym e ∙ here))) rest

  -- where no number from n on has an entry, each entry is of a number below n
  pub all_below : (n : ℕ) (xs : List E) → ((c : ℕ) → n ≤ c → entries_by caller c xs ≡ []) → All (λ e. caller e < n) xs
  all_below n [] none k d h = absurd (omega arith)
  all_below n (x ∷ xs) none zero d h =
      dite (dec_le n (caller x))
      (λ le. let seen : x ∷ entries_by caller (caller x) xs ≡ [] = rw (eq-eqb (caller x) (caller x) refl) at (none (caller x) le) in absurd (cc seen))
      (λ less. lt_of_not-le less)
  all_below n (x ∷ xs) none (suc k) d h = all_below n xs (λ c le. none_behind c (x ∷ []) xs (none c le)) k d (omega arith)

-- one of two stories with a common end is the longer one
pub longer_cases : {E : Type 0} (xs ys r s : List E) → xs ++ r ≡ ys ++ s
    → ((longer xs ys ≡ ys) × ((mid : List E) × (xs ++ mid ≡ ys) × (r ≡ mid ++ s))) ⊎ ((longer xs ys ≡ xs) × ((mid : List E) × (ys ++ mid ≡ xs) × (s ≡ mid ++ r)))
longer_cases xs ys r s e =
    dite (dec_le (length xs) (length ys))
    (λ le. inl (rw (le-leb (length xs) (length ys) le) refl, begins_longer xs ys r s e le))
    (λ no. let less = lt_of_not-le no in inr (rw (not_leb (length xs) (length ys) less) refl, begins_longer ys xs s r (sym e) (omega arith)))
  where
    not_leb : (a b : ℕ) → b < a → nat_le a b ≡ false
    not_leb a b less = grind (arith, nat_tests)

module _ {A : Type 0} where
  pub all_middle : (P : A → Type 0) (xs ys : List A) (x : A) → All P (xs ++ x ∷ ys) → P x
  all_middle P [] ys x h = h 0 x (omega arith)
  all_middle P (y ∷ xs) ys x h = all_middle P xs ys x (λ k d l. h (suc k) d (omega arith))

  pub all_cons : (P : A → Type 0) (x : A) (xs : List A) → P x → All P xs → All P (x ∷ xs)
  all_cons P x xs p h zero d l = p
  all_cons P x xs p h (suc k) d l = h k d (omega arith)

  pub all_map : (P Q : A → Type 0) (xs : List A) → ((x : A) → P x → Q x) → All P xs → All Q xs
  all_map P Q xs f h k d l = f (get_or xs k d) (h k d l)

  pub cons_in : (x : A) (xs : List A) (a : A) → Contains xs a → Contains (x ∷ xs) a
  cons_in x xs a i = (suc i.0, omega (arith, i.1), i.2)

  pub one_left : (xs : List A) → length xs ≡ 0 → xs ≡ []
  one_left [] e = refl
  one_left (x ∷ xs) e = absurd (omega arith)
