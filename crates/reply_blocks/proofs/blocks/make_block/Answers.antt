use Rattle.std.proofs.Common.{◌≡◌, ◌++◌, ℕ, List, length, ap, subst, sym, arith}
use Rattle.packet_form.specs.Geometry as lengths
use Rattle.packet_form.specs.declared.commands.Exit.TheVariants.{Reply}
use Rattle.sphinx_make.specs.Making.{decrypted_along, keyed}
use Rattle.sphinx_make.specs.NestedPath.{Carries}
use Rattle.reply_blocks.specs.Blocks.{first_id, header_in, keys_seen}
use Rattle.reply_blocks.proofs.BlockParts.{header_in-block_of}
use Rattle.reply_blocks.proofs.Returning.{comes_back}
use Rattle.reply_blocks.proofs.Undoing.{is_invertible}
use Rattle.reply_blocks.proofs.blocks.make_block.Goals as goal

pub returns-clause-carries : goal.returns-clause-carries
returns-clause-carries g c secrets payload agree long =
    let suite = g.S.Suite.meaning in
    let sizes = c.args.geo.now in
    let front : List ℕ = c.in_ok-made.made.header in
    let same : header_in sizes c.in_ok-block.block ≡ front = header_in-block_of sizes c.in_ok-block.block front c.in-Some.first.now.id c.args.own.now c.in_ok-block.ensures.value c.in_ok-made.ensures.length in
    subst (λ (bytes : List ℕ). Carries suite sizes (keyed c.args.path.now secrets) (Reply c.args.recipient.now c.args.surb.now) (bytes ++ payload) (decrypted_along suite c.in_ok-made.made.wides.items payload)) (sym same) (c.in_ok-made.ensures.carries secrets payload agree long)

pub returns-clause-comes_back : goal.returns-clause-comes_back
returns-clause-comes_back g c secrets body agree long =
    let suite_laws = g.met.S.Suite in
    let wide_laws = g.met.S.W.Wide in
    let suite = g.S.Suite.meaning in
    let laws = is_invertible suite _ suite_laws.made_of_parts (record {
      decrypts = wide_laws.decrypts;
      encrypts = wide_laws.encrypts;
      encrypted_length = wide_laws.encrypted_length;
      decrypted_length = wide_laws.decrypted_length;
    }) in
    let block_long : length c.in_ok-block.block ≡ lengths.block c.args.geo.now = omega (arith, c.in_ok-block.ensures.length, c.in_ok-made.ensures.length) in
    comes_back suite c.args.geo.now c.args.path.now secrets c.args.recipient.now c.args.surb.now c.in_ok-block.block c.in_ok-made.made.header c.in-Some.first.now.id (keys_seen (record { hops = c.in_ok-made.made.wides; own = c.args.own.now })) body
    c.in_ok-block.ensures.value
    (sym (ap first_id c.in-Some.ensures.cases.0))
    c.in_ok-made.ensures.length
    block_long
    c.told-own
    long
    laws
    (λ payload payload_long. c.in_ok-made.ensures.carries secrets payload agree payload_long)
