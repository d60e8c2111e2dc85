use mir.Val.{SFits, to_z, of_z}
use mir.Syntax.{w16}
use Rattle.std.proofs.Common.{◌≡◌, ℕ, ◌/◌, ℤ, pos, arith, ◌++◌, ◌∷◌, [], ap, ◌∙◌, rules}
use Rattle.std.proofs.lemmas.Grind.{common_steps}
use Rattle.std.proofs.lemmas.Int.{to_z-of_z}
use Rattle.ntru_ring.specs.Centring.{IsWithin}
use Rattle.field_solve.specs.Moduli.{prime_of}
use Rattle.field_solve.proofs.Lists.{holds_at_push}
use Rattle.field_solve.proofs.tests.polynomial.Goals as goal

pub loop-place-preserved : goal.loop-place-preserved
loop-place-preserved c =
    let i = c.loop-place.invariant in
    let r = c.within.result in
    let before = c.loop-place.list.items in
    let f : SFits w16 r = search rules in
    let same : to_z w16 (of_z w16 r) ≡ r = to_z-of_z w16 r f in
    let e : c.push.new.self.items ≡ before ++ r ∷ [] = c.in_ok-push.ensures.items ∙ ap (λ (z : ℤ). before ++ z ∷ []) same in
    record {
      whole = grind (arith, common_steps);
      near = holds_at_push (λ (k : ℕ) (z : ℤ). IsWithin (prime_of c.args.modulus / 2) z) before c.push.new.self.items r (pos 0) c.loop-place.place e i.whole i.near c.within.ensures;
    }
