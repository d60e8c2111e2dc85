use Rattle.std.proofs.Common.{length, None, ap, ◌∙◌, sym, arith}
use Rattle.std.proofs.lemmas.List.{length-append, length-replicate}
use Rattle.mix_base.specs.Suites.{SuiteMeaning}
use Rattle.sphinx_make.specs.Faults.{cause_of}
use Rattle.sphinx_make.specs.Making.{made_packet}
use Rattle.mix_tools.proofs.Refusals.{only_memory}
use Rattle.mix_top.specs.Storm.{path_with, recipient_id}
use Rattle.mix_top.proofs.StormPackets.{body_length, storm_made}
use Rattle.mix_top.proofs.storm.packets.seal.Goals as goal

pub only_memory-requires : goal.only_memory-requires
only_memory-requires g c =
    let suite_laws = g.met.S.Suite in
    let kem_laws = g.met.S.K.Kem in
    only_memory (cause_of c.in-Err.fault) (made_packet g.S.Suite.meaning c.args.setup.now.geo (path_with c.args.key c.args.delay) recipient_id c.deref.result.now None c.args.coins.now)
    (storm_made g.S.Suite.meaning c.args.setup.now.geo c.args.key recipient_id c.deref.result.now c.args.coins.now c.args.delay c.requires.node.hops c.requires.delay
    (ap length (c.deref.ensures.value ∙ c.in_ok-body.ensures) ∙ body_length c.args.setup.now c.args.number c.requires.node.body)
    (c.requires.key ∙ sym (ap (λ (m : SuiteMeaning). m.kem.public_key) suite_laws.made_of_parts ∙ kem_laws.public_key_length)) c.requires.sealing)
    c.in-Err.ensures.exact
