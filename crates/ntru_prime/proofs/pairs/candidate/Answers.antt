-- A divisor of g modulo 3, or of 3f modulo 4591, is one of the candidate.
use Rattle.std.proofs.Common.{ℤ, List, ap, ◌∙◌, subst, inl, inr}
use Rattle.std.proofs.lemmas.Result.{err_from_is_err_and}
use Rattle.field_solve.specs.Answers.{IsDivisor}
use Rattle.ntru_ring.specs.Polynomials.{tripled}
use Rattle.ntru_prime.specs.Drawing.{drawn_polynomial, weight_polynomial}
use Rattle.ntru_prime.specs.declared.reading.SecretKey.{SecretKey}
use Rattle.ntru_prime.proofs.Refusals.{OnRefused-weaker}
use Rattle.ntru_prime.proofs.pairs.candidate.Goals as goal

pub returns-in_err-g_inverse-clause-divisor : goal.returns-in_err-g_inverse-clause-divisor
returns-in_err-g_inverse-clause-divisor c =
    let e = err_from_is_err_and c.from_residual-in_err-g_inverse.result c.from_residual-in_err-g_inverse.ensures.1 in
    let g = c.in_ok-g.ensures ∙ ap drawn_polynomial c.split_at.ensures.front in
    rw (e.1, e.2)
    (OnRefused-weaker (List ℤ) SecretKey c.in_err-g_inverse.field-0.0 (λ (divisor : (v : List ℤ) × IsDivisor 3 c.in_ok-g.g v). inl (divisor.0, subst (λ (p : List ℤ). IsDivisor 3 p divisor.0) g divisor.1)) c.in_err-g_inverse.ensures.divisor)

pub returns-in_err-f_inverse-clause-divisor : goal.returns-in_err-f_inverse-clause-divisor
returns-in_err-f_inverse-clause-divisor c =
    let e = err_from_is_err_and c.from_residual-in_err-f_inverse.result c.from_residual-in_err-f_inverse.ensures.1 in
    let f = c.in_ok-triple.ensures.value ∙ ap tripled (c.in_ok-lift.ensures ∙ c.in_ok-f.ensures.value ∙ ap weight_polynomial c.split_at.ensures.back) in
    rw (e.1, e.2)
    (OnRefused-weaker (List ℤ) SecretKey c.in_err-f_inverse.field-0.0 (λ (divisor : (v : List ℤ) × IsDivisor 4591 c.in_ok-triple.field-0 v). inr (divisor.0, subst (λ (p : List ℤ). IsDivisor 4591 p divisor.0) f divisor.1)) c.in_err-f_inverse.ensures.divisor)
