use Rattle.std.proofs.Common.{◌≡◌, ap, ◌∙◌}
use Rattle.ntru_ring.specs.Polynomials.{tripled}
use Rattle.ntru_ring.proofs.Lists.{tripled_are_residues}
use Rattle.ntru_ring.proofs.coefficients.triple.Goals as goal

pub returns-clause-residues : goal.returns-clause-residues
returns-clause-residues c =
    let items : c.in_ok-coefficients.coefficients.items ≡ tripled c.args.a.now = c.in_ok-coefficients.ensures ∙ ap tripled (c.deref.ensures.value ∙ c.a.view_is) in
    rw items (tripled_are_residues c.args.a.now)
