use lib.IntN.{+ℤ_idl}
use Rattle.std.proofs.Common.{ℕ, ◌<◌, ◌^◌, arith, sym, ap, ◌∙◌, pos, ◌+ℤ◌, ◌++◌, ◌∷◌, [], replicate}
use Rattle.std.specs.Prelude.{◌*ℤ◌}
use Rattle.std.proofs.lemmas.Grind.{common_steps}
use Rattle.ntru_ring.specs.Centring.{IsCongruent}
use Rattle.ntru_ring.specs.Polynomials.{coefficient}
use Rattle.field_solve.specs.Elimination.{times}
use Rattle.field_solve.proofs.Lists.{holds_at_push}
use Rattle.field_solve.proofs.powers.product.Goals as goal

pub loop-place-preserved : goal.loop-place-preserved
loop-place-preserved c =
    let i = c.loop-place.invariant in
    let p = c.args.prime in
    let poly = coefficient c.args.poly.now in
    let n = c.loop-place.place in
    let r = c.product_at.result in
    let before = c.loop-place.entries.items in
    let after = c.push.new.self.items in
    let e = c.in_ok-push.ensures.items in
    record {
      whole = grind (arith, common_steps);
      room = holds_at_push (λ (k x : ℕ). x < 2 ^ 25) before after r 0 n e i.whole i.room c.product_at.ensures.below;
      combined = holds_at_push (λ (k x : ℕ). IsCongruent p (pos x) (times poly (replicate c.args.power 0 ++ 1 ∷ []) k)) before after r 0 n e i.whole i.combined c.product_at.ensures.congruent;
    }

pub returns-clause-combined : goal.returns-clause-combined
returns-clause-combined c =
    let p = c.args.prime in
    let t = times (coefficient c.args.poly.now) (replicate c.args.power 0 ++ 1 ∷ []) in
    record {
      at = λ place within.
          let h = c.loop-place.invariant.combined place (omega arith) in
          (h.0, h.1 ∙ ap (λ z. z +ℤ h.0 *ℤ pos p) (sym (+ℤ_idl (t place))));
    }
