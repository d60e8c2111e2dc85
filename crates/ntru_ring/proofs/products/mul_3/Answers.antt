use Rattle.std.proofs.Common.{◌≡◌, ℤ, List, ap, ◌∙◌}
use Rattle.ntru_ring.specs.Product.{product}
use Rattle.ntru_ring.proofs.Ring.{product_are_residues}
use Rattle.ntru_ring.proofs.products.mul_3.Goals as goal

pub returns-clause-residues : goal.returns-clause-residues
returns-clause-residues c =
    let items : c.in_ok-coefficients.coefficients.items ≡ product 3 c.args.a.now c.args.b.now =
    c.in_ok-coefficients.ensures
    ∙ ap (λ (l : List ℤ). product 3 l c.deref-2.result.now) (c.deref.ensures.value ∙ c.a.view_is)
    ∙ ap (λ (l : List ℤ). product 3 c.args.a.now l) (c.deref-2.ensures.value ∙ c.b.view_is) in
    rw items (product_are_residues 1 c.args.a.now c.args.b.now)
