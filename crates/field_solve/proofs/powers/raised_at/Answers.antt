use Rattle.std.proofs.Common.{◌-◌, sym, ◌∙◌, pos}
use Rattle.std.proofs.lemmas.List.{get_or_past}
use Rattle.ntru_ring.specs.Polynomials.{coefficient}
use Rattle.field_solve.specs.Elimination.{raised}
use Rattle.field_solve.proofs.Congruences.{congruent_same}
use Rattle.field_solve.proofs.Units.{raised-below, raised-above}
use Rattle.field_solve.proofs.powers.raised_at.Goals as goal

pub returns-then-place-power-clause-congruent : goal.returns-then-place-power-clause-congruent
returns-then-place-power-clause-congruent c =
    let poly = coefficient c.args.poly.now in
    congruent_same c.args.prime (pos 0) (raised poly c.args.power c.args.place) (sym (raised-below poly c.args.power c.args.place c.if-place-power.true))

pub returns-else-from-poly-clause-congruent : goal.returns-else-from-poly-clause-congruent
returns-else-from-poly-clause-congruent c =
    let poly = coefficient c.args.poly.now in
    let past = get_or_past c.args.poly.now (c.args.place - c.args.power) (pos 0) c.if-from-poly.false in
    congruent_same c.args.prime (pos 0) (raised poly c.args.power c.args.place) (sym (raised-above poly c.args.power c.args.place c.if-place-power.false ∙ past))
