use Rattle.std.proofs.Common.{◌≡◌, sym, ◌∙◌, ap, subst, arith}
use Rattle.std.proofs.lemmas.Result.{err_from_is_err_and}
use Rattle.ntru_ring.specs.Polynomials.{reduced}
use Rattle.ntru_code.specs.Forms.{small, spelling, values}
use Rattle.ntru_code.proofs.Soundness.{small_is_sound}
use Rattle.ntru_code.proofs.Spelled.{small_can_spell, found_is_spelled}
use Rattle.ntru_code.proofs.Reading.{cause_is_memory, small_reduced, values_are}
use Rattle.ntru_code.proofs.decoding.decode_small.Goals as goal

pub decode-requires-clause-sound : goal.decode-requires-clause-sound
decode-requires-clause-sound c = small_is_sound

pub returns-in_err-polynomial-clause-only : goal.returns-in_err-polynomial-clause-only
returns-in_err-polynomial-clause-only c =
    let e = err_from_is_err_and c.from_residual.result c.from_residual.ensures.1 in
    λ p polynomial spelled. rw (e.1, e.2) (cause_is_memory small c.args.bytes.now p small_is_sound (small_can_spell p polynomial) spelled _ c.in_err-polynomial.ensures.first)

pub returns-clause-found : goal.returns-clause-found
returns-clause-found c =
    let value : c.in_ok-small.small ≡ values small c.args.bytes.now =
    c.in_ok-small.ensures.value ∙ ap reduced c.in_ok-polynomial.ensures.value ∙ small_reduced c.args.bytes.now c.in_ok-polynomial.ensures.in_range in
    subst (λ q. c.args.bytes.now ≡ spelling small q) (sym value) (found_is_spelled small c.args.bytes.now small_is_sound c.requires (λ k. omega (arith, c.type_inv.bytes k)) c.in_ok-polynomial.ensures.in_range)

pub returns-clause-only : goal.returns-clause-only
returns-clause-only c =
    let value : c.in_ok-small.small ≡ values small c.args.bytes.now =
    c.in_ok-small.ensures.value ∙ ap reduced c.in_ok-polynomial.ensures.value ∙ small_reduced c.args.bytes.now c.in_ok-polynomial.ensures.in_range in
    λ p polynomial spelled. value ∙ values_are small c.args.bytes.now p small_is_sound (small_can_spell p polynomial) spelled
