use Rattle.std.proofs.Common.{◌∙◌, ap, sym, length}
use Rattle.packet_form.specs.Geometry.{Sizes}
use Rattle.reply_blocks.specs.Replies.{answer_to}
use Rattle.mix_waves.proofs.FateLaws.{answered_fits}
use Rattle.mix_waves.proofs.fates.reply.Goals as goal

pub returns-in-Ok : goal.returns-in-Ok
returns-in-Ok g c =
    let body = c.deref.ensures.value ∙ c.in_ok-body.ensures.value in
    answered_fits g.S.Suite.meaning c.args.geo.now c.as_slice.result.now c.deref.result.now _
    (ap length c.as_slice.ensures ∙ c.requires.block)
    (ap length c.deref.ensures.value ∙ c.in_ok-body.ensures.length ∙ ap (λ (s : Sizes). s.body) (sym c.requires.geometry))
    c.in-Ok.ensures.exact
    ∙ (λ i. answer_to (c.requires.suite i) (c.requires.geometry i) (c.as_slice.ensures i) (body i))
