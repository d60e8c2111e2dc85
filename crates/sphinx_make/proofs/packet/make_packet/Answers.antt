use Rattle.std.proofs.Common.{◌≡◌, ◌++◌, sym, subst, ◌∙◌}
use Rattle.std.specs.Option.{option_copied}
use Rattle.mix_base.specs.Suites.{SuiteMeaning}
use Rattle.sphinx_unwrap.specs.Payload.{spell}
use Rattle.sphinx_make.proofs.Layers.{Undoes, arrives-made_packet, carries-made_packet}
use Rattle.sphinx_make.specs.Making.{encrypted_along}
use Rattle.sphinx_make.proofs.packet.make_packet.Goals as goal

pub returns-clause-carries : goal.returns-clause-carries
returns-clause-carries g c =
    let suite_laws = g.met.S.Suite in
    let wide_laws = g.met.S.W.Wide in
    let suite = g.S.Suite.meaning in
    let laws = subst (λ (m : SuiteMeaning). Undoes m) (sym suite_laws.made_of_parts) (record { decrypts = wide_laws.decrypts; encrypted_length = wide_laws.encrypted_length }) in
    let header = c.in_ok-made.made.header in
    let wides = c.in_ok-made.made.wides.items in
    let parts : c.extend_from_slice.new.self.items ≡ header ++ encrypted_along suite wides (spell c.args.geo.now (option_copied c.args.block) c.args.body.now) =
    c.in_ok-extend_from_slice.ensures.items ∙ cc (c.into_vec-packet.ensures, c.deref-2.ensures.value, c.in_ok-payload.ensures.value) in
    carries-made_packet suite c.args.geo.now c.args.path.now c.args.recipient.now c.args.body.now (option_copied c.args.block) c.extend_from_slice.new.self.items
    (record { header = header; wides = wides; laws = laws; room = c.in_ok-check_contents.ensures.block; long = c.in_ok-check_contents.ensures.body; parts = parts; carries = c.in_ok-made.ensures.carries })

pub returns-clause-arrives : goal.returns-clause-arrives
returns-clause-arrives g c =
    let suite_laws = g.met.S.Suite in
    let wide_laws = g.met.S.W.Wide in
    let suite = g.S.Suite.meaning in
    let laws = subst (λ (m : SuiteMeaning). Undoes m) (sym suite_laws.made_of_parts) (record { decrypts = wide_laws.decrypts; encrypted_length = wide_laws.encrypted_length }) in
    let header = c.in_ok-made.made.header in
    let wides = c.in_ok-made.made.wides.items in
    let parts : c.extend_from_slice.new.self.items ≡ header ++ encrypted_along suite wides (spell c.args.geo.now (option_copied c.args.block) c.args.body.now) =
    c.in_ok-extend_from_slice.ensures.items ∙ cc (c.into_vec-packet.ensures, c.deref-2.ensures.value, c.in_ok-payload.ensures.value) in
    arrives-made_packet suite c.args.geo.now c.args.path.now c.args.recipient.now c.args.body.now (option_copied c.args.block) c.extend_from_slice.new.self.items
    (record { header = header; wides = wides; laws = laws; room = c.in_ok-check_contents.ensures.block; long = c.in_ok-check_contents.ensures.body; parts = parts; carries = c.in_ok-made.ensures.carries })
