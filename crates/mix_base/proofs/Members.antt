-- What is in a list: of an entry and others, of two parts, and one that was filtered.
use Rattle.std.proofs.Common.{◌≡◌, Bool, true, false, cond, List, [], ◌∷◌, map, ◌⊎◌, inl, inr, ap, ◌∙◌, subst, arith}
use Rattle.std.specs.List.{Contains, filter}
use Rattle.std.proofs.lemmas.List.Elements.{Contains-append_left, Contains-append_right, Contains-push, Contains-push_cases, Contains-append_cases}

-- nothing is in the empty list
pub none_in_empty : {X : Type 0} (x : X) → Contains [] x → ⊥
none_in_empty x found = absurd (omega (arith, found.1))

pub Contains-cons_cases : {X : Type 0} (y : X) (ys : List X) (x : X) → Contains (y ∷ ys) x → (y ≡ x) ⊎ Contains ys x
Contains-cons_cases y ys x found =
    elim (Contains-append_cases (y ∷ []) ys x found) [
      | inl first ↦ elim (Contains-push_cases [] y x first) [ inl none ↦ absurd (none_in_empty x none) | inr same ↦ inl same ]
      | inr later ↦ inr later
    ]

pub Contains-head : {X : Type 0} (x : X) (xs : List X) → Contains (x ∷ xs) x
Contains-head x xs = Contains-append_left (x ∷ []) xs x (Contains-push [] x)

pub Contains-tail : {X : Type 0} (y : X) (ys : List X) (x : X) → Contains ys x → Contains (y ∷ ys) x
Contains-tail y ys x found = Contains-append_right (y ∷ []) ys x found

-- what is in a list stays in it where its first entry may be left out but isn't the one
kept_first : {X : Type 0} (y : X) (ys : List X) (x : X) (keeps : Bool) → (y ≡ x → keeps ≡ true) → (y ≡ x) ⊎ Contains ys x →
    Contains (cond keeps (y ∷ ys) ys) x
kept_first y ys x true says (inl same) = subst (λ z. Contains (y ∷ ys) z) same (Contains-head y ys)
kept_first y ys x true says (inr later) = Contains-tail y ys x later
kept_first y ys x false says (inl same) = let never : false ≡ true = says same in absurd (cc)
kept_first y ys x false says (inr later) = later

-- what passes the test stays
pub Contains-filter : {X : Type 0} (test : X → Bool) (xs : List X) (x : X) → Contains xs x → test x ≡ true → Contains (filter test xs) x
Contains-filter test [] x found passes = absurd (none_in_empty x found)
Contains-filter test (y ∷ ys) x found passes =
    kept_first y (filter test ys) x (test y) (λ same. ap test same ∙ passes) (elim (Contains-cons_cases y ys x found) [
      | inl same ↦ inl same
      | inr later ↦ inr (Contains-filter test ys x later passes)
    ])

-- what is in a list, mapped, is in the mapped list
pub Contains-map : {X Y : Type 0} (f : X → Y) (xs : List X) (x : X) → Contains xs x → Contains (map f xs) (f x)
Contains-map f [] x there = absurd (none_in_empty x there)
Contains-map f (y ∷ xs) x there =
    elim (Contains-cons_cases y xs x there) [
      | inl is ↦ subst (λ z. Contains (map f (y ∷ xs)) z) (ap f is) (Contains-head (f y) (map f xs))
      | inr later ↦ Contains-tail (f y) (map f xs) (f x) (Contains-map f xs x later)
    ]
