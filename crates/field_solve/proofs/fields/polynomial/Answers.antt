use mir.Val.{SFits, to_z, of_z}
use mir.Syntax.{w16}
use Rattle.std.proofs.Common.{◌≡◌, ℕ, ◌/◌, ℤ, pos, slice_index, arith, ◌++◌, ◌∷◌, [], ap, ◌∙◌, rules}
use Rattle.std.proofs.lemmas.Grind.{common_steps}
use Rattle.std.proofs.lemmas.Int.{to_z-of_z}
use Rattle.ntru_ring.specs.Centring.{IsCongruent, IsWithin}
use Rattle.field_solve.proofs.Lists.{holds_at_push}
use Rattle.field_solve.proofs.fields.polynomial.Goals as goal

pub loop-place-preserved : goal.loop-place-preserved
loop-place-preserved c =
    let i = c.loop-place.invariant in
    let p = c.args.prime in
    let r = c.coefficient_at.result in
    let before = c.loop-place.coefficients.items in
    let f : SFits w16 r = search rules in
    let same : to_z w16 (of_z w16 r) ≡ r = to_z-of_z w16 r f in
    let e : c.push.new.self.items ≡ before ++ r ∷ [] = c.in_ok-push.ensures.items ∙ ap (λ (z : ℤ). before ++ z ∷ []) same in
    record {
      whole = grind (arith, common_steps);
      near = holds_at_push (λ (k : ℕ) (z : ℤ). IsWithin (p / 2) z) before c.push.new.self.items r (pos 0) c.loop-place.place e i.whole i.near c.coefficient_at.ensures.near;
      congruent = holds_at_push (λ (k : ℕ) (z : ℤ). IsCongruent p z (pos (slice_index c.args.numbers.now k))) before c.push.new.self.items r (pos 0) c.loop-place.place e i.whole i.congruent c.coefficient_at.ensures.congruent;
    }
