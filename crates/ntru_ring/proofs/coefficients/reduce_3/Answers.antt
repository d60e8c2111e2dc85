use Rattle.std.proofs.Common.{◌≡◌, ap, ◌∙◌}
use Rattle.ntru_ring.specs.Polynomials.{reduced}
use Rattle.ntru_ring.proofs.Lists.{reduced_are_residues}
use Rattle.ntru_ring.proofs.coefficients.reduce_3.Goals as goal

pub returns-clause-residues : goal.returns-clause-residues
returns-clause-residues c =
    let items : c.in_ok-coefficients.coefficients.items ≡ reduced c.args.a.now = c.in_ok-coefficients.ensures ∙ ap reduced (c.deref.ensures.value ∙ c.a.view_is) in
    rw items (reduced_are_residues c.args.a.now)
