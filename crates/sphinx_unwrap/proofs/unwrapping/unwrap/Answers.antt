use Rattle.std.proofs.Common.{refl, sym, subst}
use Rattle.sphinx_unwrap.specs.Layer.{commands_of, payload_under, unhidden, unsealed}
use Rattle.packet_form.specs.Commands.{read}
use Rattle.sphinx_unwrap.specs.Buffers.{layer_seen}
use Rattle.sphinx_unwrap.specs.Outcome.{Leaves}
use Rattle.sphinx_unwrap.specs.declared.outcome.Opened.{Opened}
use Rattle.sphinx_unwrap.specs.declared.outcome.Out.{Out}
use Rattle.sphinx_unwrap.proofs.Leaving.{leaves, said_of, says_under}
use Rattle.sphinx_unwrap.proofs.unwrapping.unwrap.Goals as goal

pub returns-clause-says : goal.returns-clause-says
returns-clause-says g c =
    let suite = g.S.Suite.meaning in
    let geo = c.args.geo.now in
    let packet = c.args.packet.now in
    let layer = c.in_ok-layer.layer in
    let slots = layer.slots.items in
    let payload = layer.payload.items in
    let exit = layer.commands.exit in
    let opened : Opened = record { tag = layer.tag; delay = layer.commands.delay; out = c.in_ok-out.out } in
    let left : Leaves geo slots payload exit c.in_ok-out.out =
    subst (λ (out : Out). Leaves geo slots payload exit out) (sym c.in_ok-out.ensures.value)
    (leaves geo (layer_seen geo layer) slots exit refl refl c.in_ok-out.ensures.lengths c.in_ok-layer.ensures.slots_length c.in_ok-layer.ensures.payload_length) in
    says_under geo (unsealed suite geo c.args.sk.now packet) (λ keys. unhidden suite geo keys packet) (λ keys. payload_under suite geo packet keys) slots payload opened
    c.in_ok-layer.ensures.slots
    c.in_ok-layer.ensures.payload
    (said_of geo slots payload (read (commands_of geo slots)) layer.commands opened c.in_ok-layer.ensures.commands refl left)
