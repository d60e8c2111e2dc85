-- The iterator of a list by value, and the lists of what it gave.
use Rattle.std.proofs.Common.{◌≡◌, ◌<◌, ◌+◌, List, [], ◌∷◌, ◌++◌, length, ap, append_assoc, refl, subst, sym, ◌∙◌, arith}
use Rattle.std.specs.List.{AllZip}
use Rattle.std.proofs.lemmas.List.{append-nil, length-append}
use Rattle.std.specs.Global.{Global, Vec}
use Rattle.std.specs.Prelude.{vec_len}
use Rattle.std.specs.Vec.Iter.{into_iter_items, into_iter_len}
use Rattle.std.specs.declared.vec.IntoIter.{IntoIter}

module _ {X : Type 0} where
  pub count_first : (first : IntoIter X Global) (list : Vec X) → into_iter_items first ≡ list.items → into_iter_len first ≡ vec_len list
      → into_iter_len first ≡ length (into_iter_items first)
  count_first first list items many = many ∙ (list.ok.0 ∙ ap (λ (xs : List X). length xs) (sym items))

  pub count_next : (old new : IntoIter X Global) (x : X) → (into_iter_items old ≡ x ∷ into_iter_items new) × (into_iter_len new + 1 ≡ into_iter_len old)
      → into_iter_len old ≡ length (into_iter_items old) → into_iter_len new ≡ length (into_iter_items new)
  count_next old new x steps count = omega (arith, steps.1, count, ap (λ (xs : List X). length xs) steps.0)

  pub nothing_left : (last : IntoIter X Global) → into_iter_len last ≡ length (into_iter_items last) → into_iter_len last ≡ 0 → into_iter_items last ≡ []
  nothing_left last count none = by_items (into_iter_items last) (omega (arith, count, none))
    where
      by_items : (xs : List X) → length xs ≡ 0 → xs ≡ []
      by_items [] empty = refl
      by_items (x ∷ xs) empty = absurd (omega (arith, empty))

-- one more of a list was met
pub one_further : {X : Type 0} (all front rest more : List X) (x : X) → all ≡ front ++ rest → rest ≡ x ∷ more → all ≡ (front ++ x ∷ []) ++ more
one_further {X = X} all front rest more x is next = is ∙ (ap (λ (xs : List X). front ++ xs) next ∙ sym (append_assoc front (x ∷ []) more))

-- all of them were met
pub all_met : {X : Type 0} (all front rest : List X) → all ≡ front ++ rest → rest ≡ [] → all ≡ front
all_met {X} all front rest is none = is ∙ ap (λ (xs : List X). front ++ xs) none ∙ append-nil front

pub fewer_met : {X : Type 0} (all front rest more : List X) (x : X) → all ≡ front ++ rest → rest ≡ x ∷ more → length front < length all
fewer_met {X} all front rest more x is next =
    let a : length all ≡ length front + length (x ∷ more) = ap (λ (xs : List X). length xs) (is ∙ ap (λ (xs : List X). front ++ xs) next) ∙ length-append front (x ∷ more) in
    omega arith

-- one more of both lists
pub zip_more : {X Y : Type 0} (P : X → Y → Type 0) (xs : List X) (ys new : List Y) (x : X) (y : Y) → AllZip P xs ys → P x y → new ≡ ys ++ y ∷ [] → AllZip P (xs ++ x ∷ []) new
zip_more {X} {Y} P xs ys new x y all one is = subst (λ (zs : List Y). AllZip P (xs ++ x ∷ []) zs) (sym is) (both xs ys all)
  where
    both : (firsts : List X) (bs : List Y) → AllZip P firsts bs → AllZip P (firsts ++ x ∷ []) (bs ++ y ∷ [])
    both [] [] zipped = (one, tt)
    both [] (b ∷ bs) zipped = absurd zipped
    both (a ∷ firsts) [] zipped = absurd zipped
    both (a ∷ firsts) (b ∷ bs) zipped = (zipped.0, both firsts bs zipped.1)
