use Rattle.std.proofs.Common.{◌+◌, arith, sym, ap, ◌∙◌, pos, ◌+ℤ◌}
use Rattle.std.specs.Prelude.{◌*ℤ◌}
use Rattle.ntru_ring.specs.Polynomials.{coefficient}
use Rattle.field_solve.specs.Elimination.{raised}
use Rattle.field_solve.proofs.Congruences.{congruent-add}
use Rattle.field_solve.proofs.Units.{times-unit_zero, times-unit_above}
use Rattle.field_solve.proofs.powers.product_at.Goals as goal

pub returns-then-place-eq0-clause-congruent : goal.returns-then-place-eq0-clause-congruent
returns-then-place-eq0-clause-congruent c =
    let p = c.args.prime in
    let k = c.args.place in
    let r = raised (coefficient c.args.poly.now) c.args.power in
    let h = congruent-add p (pos c.raised_at.result) (r k) (pos c.raised_at-2.result) (r (761 + k)) c.raised_at.ensures.congruent c.raised_at-2.ensures.congruent in
    (h.0, h.1 ∙ ap (λ z. z +ℤ h.0 *ℤ pos p) (sym (times-unit_zero (coefficient c.args.poly.now) c.args.power k c.if-place-eq0.true)))

pub returns-else-place-eq0-clause-congruent : goal.returns-else-place-eq0-clause-congruent
returns-else-place-eq0-clause-congruent c =
    let p = c.args.prime in
    let k = c.args.place in
    let r = raised (coefficient c.args.poly.now) c.args.power in
    let two = congruent-add p (pos c.raised_at.result) (r k) (pos c.raised_at-2.result) (r (761 + k)) c.raised_at.ensures.congruent c.raised_at-2.ensures.congruent in
    let h = congruent-add p (pos (c.raised_at.result + c.raised_at-2.result)) (r k +ℤ r (761 + k)) (pos c.raised_at-else-place-eq0.result) (r (760 + k)) two c.raised_at-else-place-eq0.ensures.congruent in
    (h.0, h.1 ∙ ap (λ z. z +ℤ h.0 *ℤ pos p) (sym (times-unit_above (coefficient c.args.poly.now) c.args.power k (omega arith))))
