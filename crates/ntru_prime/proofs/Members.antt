-- What is in a list that others were made of, and what a search in a list finds.
use Rattle.std.proofs.Common.{◌≡◌, ℕ, zero, suc, ◌+◌, ◌≤◌, ◌<◌, Bool, true, false, cond, List, [], ◌∷◌, ◌++◌, map, ◌⊎◌, inl, inr, refl, sym, ap, ◌∙◌, subst, arith, Option, Some, None}
use Rattle.std.proofs.lemmas.Bool.{cases_lt}
use Rattle.std.specs.List.{find, flat_map, range_with_len}

-- x is in the list
unfoldable pub Member : {X : Type 0} → List X → X → Type 0
Member [] x = ⊥
Member (y ∷ ys) x = (y ≡ x) ⊎ Member ys x

-- ---- searches

found_here : {X : Type 0} (passes : Bool) (y x : X) (rest : Option X) → (passes ≡ true → y ≡ x) → (passes ≡ false → rest ≡ Some x) → cond passes (Some y) rest ≡ Some x
found_here true y x rest here later = ap Some (here refl)
found_here false y x rest here later = later refl

-- what passes, and no other does, is found
pub find_only : {X : Type 0} (test : X → Bool) (xs : List X) (x : X) → Member xs x → test x ≡ true → ((y : X) → Member xs y → test y ≡ true → y ≡ x) → find test xs ≡ Some x
unfolding Member
find_only test [] x member passes only = absurd member
find_only test (y ∷ ys) x (inl same) passes only =
    found_here (test y) y x (find test ys) (only y (inl refl)) (λ fails. let never : true ≡ false = sym passes ∙ ap test (sym same) ∙ fails in absurd (cc))
find_only test (y ∷ ys) x (inr later) passes only =
    found_here (test y) y x (find test ys) (only y (inl refl)) (λ fails. find_only test ys x later passes (λ z member. only z (inr member)))

-- what is found is in the list and passes
passes_here : {X : Type 0} (test : X → Bool) (y x : X) (ys : List X) (passes : Bool) (rest : Option X) → test y ≡ passes → (rest ≡ Some x → Member ys x × (test x ≡ true)) → cond passes (Some y) rest ≡ Some x → ((y ≡ x) ⊎ Member ys x) × (test x ≡ true)
passes_here test y x ys true rest is later found = let same : y ≡ x = cc in (inl same, sym (ap test same) ∙ is)
passes_here test y x ys false rest is later found = let further = later found in (inr further.0, further.1)

pub find_passes : {X : Type 0} (test : X → Bool) (xs : List X) (x : X) → find test xs ≡ Some x → Member xs x × (test x ≡ true)
unfolding Member
find_passes test [] x found = absurd (cc)
find_passes test (y ∷ ys) x found = passes_here test y x ys (test y) (find test ys) refl (find_passes test ys x) found

not_here : {X : Type 0} (passes : Bool) (y : X) (rest : Option X) → (passes ≡ true → ⊥) → rest ≡ None → cond passes (Some y) rest ≡ None
not_here true y rest never later = absurd (never refl)
not_here false y rest never later = later

-- where none of a list passes, nothing is found
pub find_none : {X : Type 0} (test : X → Bool) (xs : List X) → ((y : X) → Member xs y → test y ≡ true → ⊥) → find test xs ≡ None
unfolding Member
find_none test [] never = refl
find_none test (y ∷ ys) never = not_here (test y) y (find test ys) (never y (inl refl)) (find_none test ys (λ z member. never z (inr member)))

-- ---- lists made of others

pub Member-append_left : {X : Type 0} (xs ys : List X) (x : X) → Member xs x → Member (xs ++ ys) x
unfolding Member
Member-append_left [] ys x member = absurd member
Member-append_left (y ∷ xs) ys x (inl same) = inl same
Member-append_left (y ∷ xs) ys x (inr later) = inr (Member-append_left xs ys x later)

pub Member-append_right : {X : Type 0} (xs ys : List X) (x : X) → Member ys x → Member (xs ++ ys) x
unfolding Member
Member-append_right [] ys x member = member
Member-append_right (y ∷ xs) ys x member = inr (Member-append_right xs ys x member)

pub Member-append_cases : {X : Type 0} (xs ys : List X) (x : X) → Member (xs ++ ys) x → Member xs x ⊎ Member ys x
unfolding Member
Member-append_cases [] ys x member = inr member
Member-append_cases (y ∷ xs) ys x (inl same) = inl (inl same)
Member-append_cases (y ∷ xs) ys x (inr later) = elim (Member-append_cases xs ys x later) [ inl left ↦ inl (inr left) | inr right ↦ inr right ]

pub Member-map : {X Y : Type 0} (f : X → Y) (xs : List X) (x : X) → Member xs x → Member (map f xs) (f x)
unfolding Member
Member-map f [] x member = absurd member
Member-map f (y ∷ ys) x (inl same) = inl (ap f same)
Member-map f (y ∷ ys) x (inr later) = inr (Member-map f ys x later)

pub Member-map_from : {X Y : Type 0} (f : X → Y) (xs : List X) (y : Y) → Member (map f xs) y → (x : X) × Member xs x × (f x ≡ y)
unfolding Member
Member-map_from f [] y member = absurd member
Member-map_from f (x ∷ xs) y (inl same) = (x, inl refl, same)
Member-map_from f (x ∷ xs) y (inr later) = let from = Member-map_from f xs y later in (from.0, inr from.1, from.2)

pub Member-flat_map : {X Y : Type 0} (f : X → List Y) (xs : List X) (x : X) (y : Y) → Member xs x → Member (f x) y → Member (flat_map f xs) y
unfolding Member
Member-flat_map f [] x y member inside = absurd member
Member-flat_map f (z ∷ zs) x y (inl same) inside = Member-append_left (f z) (flat_map f zs) y (subst (λ v. Member (f v) y) (sym same) inside)
Member-flat_map f (z ∷ zs) x y (inr later) inside = Member-append_right (f z) (flat_map f zs) y (Member-flat_map f zs x y later inside)

pub Member-flat_map_from : {X Y : Type 0} (f : X → List Y) (xs : List X) (y : Y) → Member (flat_map f xs) y → (x : X) × Member xs x × Member (f x) y
unfolding Member
Member-flat_map_from f [] y member = absurd member
Member-flat_map_from f (z ∷ zs) y member =
    elim (Member-append_cases (f z) (flat_map f zs) y member) [
      | inl here ↦ (z, inl refl, here)
      | inr later ↦ (let from = Member-flat_map_from f zs y later in (from.0, inr from.1, from.2))
    ]

pub Member-range : (start n k : ℕ) → start ≤ k → k < start + n → Member (range_with_len start n) k
unfolding Member
Member-range start zero k low high = absurd (omega arith)
Member-range start (suc n) k low high =
    elim (cases_lt start k) [ inl later ↦ inr (Member-range (start + 1) n k (omega arith) (omega arith)) | inr here ↦ inl (omega arith) ]

pub Member-range_from : (start n k : ℕ) → Member (range_with_len start n) k → (start ≤ k) × (k < start + n)
unfolding Member
Member-range_from start zero k member = absurd member
Member-range_from start (suc n) k (inl here) = (omega arith, omega arith)
Member-range_from start (suc n) k (inr later) = let inside = Member-range_from (start + 1) n k later in (omega arith, omega arith)
