use Rattle.std.proofs.Common.{◌≡◌, ap, ◌∙◌}
use Rattle.ntru_ring.specs.Polynomials.{rounded}
use Rattle.ntru_ring.proofs.Lists.{rounded_is_nearest}
use Rattle.ntru_ring.proofs.coefficients.round_q.Goals as goal

pub returns-clause-nearest : goal.returns-clause-nearest
returns-clause-nearest c =
    let items : c.in_ok-coefficients.coefficients.items ≡ rounded c.args.a.now = c.in_ok-coefficients.ensures ∙ ap rounded (c.deref.ensures.value ∙ c.a.view_is) in
    λ place. rw items (rounded_is_nearest c.args.a.now place)
