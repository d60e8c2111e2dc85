-- Elements of one list, taken from its end, become those of another, and back.
use Rattle.std.proofs.Common.{◌≡◌, ◌<◌, ◌+◌, suc, List, [], ◌∷◌, ◌++◌, length, map, reverse, sym, ap, subst, ◌∙◌, arith}
use Rattle.std.specs.Prelude.{All}
use Rattle.std.proofs.lemmas.List.{append_assoc, get_or_append_left, length-append, map-append, reverse-append, reverse-reverse}
use Rattle.std.proofs.lemmas.List.Elements.{All-append}
use Rattle.turn_lock.proofs.Lists.{all_cons, all_middle}

module _ {X : Type 0} (P : X → Type 0) where
  pub all_front : (xs ys : List X) → All P (xs ++ ys) → All P xs
  all_front xs ys all = λ k d low.
      subst P (get_or_append_left xs ys d k low) (all k d (let a = length-append xs ys in omega arith))

  pub all_but_last : (old new : List X) (x : X) → old ≡ new ++ x ∷ [] → All P old → All P new
  all_but_last old new x is all = all_front new (x ∷ []) (subst (All P) is all)

  pub is_last : (old new : List X) (x : X) → old ≡ new ++ x ∷ [] → All P old → P x
  is_last old new x is all = all_middle P new [] x (subst (All P) is all)

  pub is_middle : (all front rest : List X) (x : X) → all ≡ front ++ x ∷ rest → All P all → P x
  is_middle all front rest x is every = all_middle P front rest x (subst (All P) is every)

  pub all_one : (x : X) → P x → All P (x ∷ [])
  all_one x is = all_cons P x [] is (λ k d low. absurd (omega arith))

  pub all_and_last : (old new : List X) (x : X) → new ≡ old ++ x ∷ [] → All P old → P x → All P new
  all_and_last old new x is all last = subst (All P) (sym is) (All-append P old (x ∷ []) all (all_one x last))

  pub all_reversed : (xs : List X) → All P xs → All P (reverse xs)
  all_reversed [] all = all
  all_reversed (x ∷ xs) all =
      subst (All P) (sym (reverse-append (x ∷ []) xs))
      (All-append P (reverse xs) (x ∷ []) (all_reversed xs (all_behind x xs all)) (all_one x (all_middle P [] xs x all)))
    where
      all_behind : (y : X) (ys : List X) → All P (y ∷ ys) → All P ys
      all_behind y ys every k d low = every (suc k) d (omega arith)

-- one more of a list was met
pub one_further : {X : Type 0} (all front rest more : List X) (x : X) → all ≡ front ++ rest → rest ≡ x ∷ more → all ≡ (front ++ x ∷ []) ++ more
one_further {X = X} all front rest more x is next = is ∙ (ap (λ (xs : List X). front ++ xs) next ∙ sym (append_assoc front (x ∷ []) more))

pub fewer_met : {X : Type 0} (all front rest : List X) (x : X) → all ≡ front ++ x ∷ rest → length front < length all
fewer_met {X = X} all front rest x is =
    let a : length all ≡ length front + length (x ∷ rest) = ap (λ (xs : List X). length xs) is ∙ length-append front (x ∷ rest) in
    omega arith

module _ {X Y V : Type 0} (of_first : X → V) (of_second : Y → V) where
  -- those that wait, the last first
  first_waits : (old new : List X) (x : X) → old ≡ new ++ x ∷ [] → map of_first (reverse old) ≡ of_first x ∷ map of_first (reverse new)
  first_waits old new x is = ap (λ (xs : List X). map of_first (reverse xs)) is ∙ ap (λ (xs : List X). map of_first xs) (reverse-append new (x ∷ []))

  across : (ys : List Y) (y : Y) (others : List V) → map of_second (ys ++ y ∷ []) ++ others ≡ map of_second ys ++ of_second y ∷ others
  across ys y others = ap (λ (vs : List V). vs ++ others) (map-append of_second ys (y ∷ [])) ∙ append_assoc (map of_second ys) (of_second y ∷ []) others

  -- at first all of them wait, and none is in the second
  pub all_wait : (all old : List X) (ys : List Y) → old ≡ reverse all → ys ≡ [] → map of_first all ≡ map of_second ys ++ map of_first (reverse old)
  all_wait all old ys old_is none =
      ap (λ (xs : List X). map of_first xs) (sym (reverse-reverse all) ∙ ap (λ (xs : List X). reverse xs) (sym old_is))
      ∙ ap (λ (zs : List Y). map of_second zs ++ map of_first (reverse old)) (sym none)

  -- the next of the first list goes into the second
  pub goes_in : (all : List V) (ys grown : List Y) (y : Y) (old new : List X) (x : X) → all ≡ map of_second ys ++ map of_first (reverse old)
      → old ≡ new ++ x ∷ [] → grown ≡ ys ++ y ∷ [] → of_second y ≡ of_first x → all ≡ map of_second grown ++ map of_first (reverse new)
  goes_in all ys grown y old new x are old_is grown_is same =
      are ∙ ap (λ (vs : List V). map of_second ys ++ vs) (first_waits old new x old_is)
      ∙ ap (λ (v : V). map of_second ys ++ v ∷ map of_first (reverse new)) (sym same)
      ∙ sym (across ys y (map of_first (reverse new)))
      ∙ ap (λ (zs : List Y). map of_second zs ++ map of_first (reverse new)) (sym grown_is)

  -- the last of the second list comes back
  pub comes_back : (all : List V) (ys left : List Y) (y : Y) (old new : List X) (x : X) → all ≡ map of_second ys ++ map of_first (reverse old)
      → ys ≡ left ++ y ∷ [] → new ≡ old ++ x ∷ [] → of_first x ≡ of_second y → all ≡ map of_second left ++ map of_first (reverse new)
  comes_back all ys left y old new x are ys_is new_is same =
      are ∙ ap (λ (zs : List Y). map of_second zs ++ map of_first (reverse old)) ys_is
      ∙ across left y (map of_first (reverse old))
      ∙ ap (λ (v : V). map of_second left ++ v ∷ map of_first (reverse old)) (sym same)
      ∙ ap (λ (vs : List V). map of_second left ++ vs) (sym (first_waits new old x new_is))
