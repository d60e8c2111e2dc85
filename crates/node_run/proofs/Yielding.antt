-- The iterator of a list by value: how many items it has left.
use Rattle.std.proofs.Common.{◌≡◌, ◌+◌, List, [], ◌∷◌, length, ap, refl, sym, ◌∙◌, arith}
use Rattle.std.specs.Global.{Global, Vec}
use Rattle.std.specs.Prelude.{vec_len}
use Rattle.std.specs.Vec.Iter.{into_iter_items, into_iter_len}
use Rattle.std.specs.declared.vec.IntoIter.{IntoIter}

module _ {X : Type 0} where
  pub count_first : (first : IntoIter X Global) (list : Vec X) → into_iter_items first ≡ list.items → into_iter_len first ≡ vec_len list
      → into_iter_len first ≡ length (into_iter_items first)
  count_first first list items many = many ∙ (list.ok.0 ∙ ap (λ (xs : List X). length xs) (sym items))

  pub count_next : (old new : IntoIter X Global) (x : X) → (into_iter_items old ≡ x ∷ into_iter_items new) × (into_iter_len new + 1 ≡ into_iter_len old)
      → into_iter_len old ≡ length (into_iter_items old) → into_iter_len new ≡ length (into_iter_items new)
  count_next old new x steps count = omega (arith, steps.1, count, ap (λ (xs : List X). length xs) steps.0)

  pub nothing_left : (last : IntoIter X Global) → into_iter_len last ≡ length (into_iter_items last) → into_iter_len last ≡ 0 → into_iter_items last ≡ []
  nothing_left last count none = by_items (into_iter_items last) (omega (arith, count, none))
    where
      by_items : (xs : List X) → length xs ≡ 0 → xs ≡ []
      by_items [] empty = refl
      by_items (x ∷ xs) empty = absurd (omega (arith, empty))
