use Rattle.std.proofs.Common.{ℤ, List, ap, sym, ◌∙◌, subst, Some}
use Rattle.field_solve.specs.Answers.{IsInverse}
use Rattle.ntru_prime.specs.Inverses.{inverse_of}
use Rattle.ntru_ring.proofs.Lists.{reduced_same}
use Rattle.ntru_prime.proofs.inverses.inverse_3.Goals as goal

pub returns-clause-value : goal.returns-clause-value
returns-clause-value c =
    let same = c.in_ok-reduce_3.ensures.value ∙ reduced_same c.in_ok-inverse.inverse c.in_ok-inverse.ensures.inverse.in_range.in_range in
    sym (ap (inverse_of 3) c.in_ok-lift.ensures) ∙ c.in_ok-inverse.ensures.value ∙ ap Some (sym same)

pub returns-clause-inverse : goal.returns-clause-inverse
returns-clause-inverse c =
    let same = c.in_ok-reduce_3.ensures.value ∙ reduced_same c.in_ok-inverse.inverse c.in_ok-inverse.ensures.inverse.in_range.in_range in
    let lifted = subst (λ (p : List ℤ). IsInverse 3 p c.in_ok-inverse.inverse) c.in_ok-lift.ensures c.in_ok-inverse.ensures.inverse in
    subst (IsInverse 3 c.args.poly.now) (sym same) lifted
