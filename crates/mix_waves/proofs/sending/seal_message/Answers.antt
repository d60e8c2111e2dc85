use Rattle.std.proofs.Common.{◌∙◌, ap, length}
use Rattle.mix_tools.proofs.Refusals.{only_memory}
use Rattle.packet_form.specs.Geometry.{Sizes, block}
use Rattle.sphinx_make.specs.Faults.{cause_of}
use Rattle.mix_waves.proofs.MadeMessages.{packet_is_made}
use Rattle.mix_waves.proofs.sending.seal_message.Goals as goal

pub only_memory-requires : goal.only_memory-requires
only_memory-requires g c =
    only_memory (cause_of c.in-Err.fault) _
    (rw (c.requires.suite, c.requires.geometry) (packet_is_made c.args.config.now c.args.there.now _ c.deref.result.now c.as_slice.result.now _ c.requires.in_range c.requires.path
    (ap length c.deref.ensures.value ∙ c.in_ok-body.ensures.length)
    (ap length c.as_slice.ensures ∙ c.requires.block ∙ ap (λ (s : Sizes). block s) c.requires.geometry))) c.in-Err.ensures.exact
