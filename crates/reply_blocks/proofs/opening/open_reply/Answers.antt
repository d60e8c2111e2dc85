use Rattle.std.proofs.Common.{◌≡◌, ℕ, List, Ok, Err, ap, ◌∙◌}
use Rattle.reply_blocks.specs.Blocks.{Keys, keys_seen}
use Rattle.reply_blocks.specs.Replies.{body_in, opened_reply}
use Rattle.reply_blocks.specs.declared.faults.OpenFault.TheVariants as faults
use Rattle.reply_blocks.proofs.Undoing.{is_invertible, opened_reply-answer}
use Rattle.reply_blocks.proofs.opening.open_reply.Goals as goal

pub returns-in_default-clause-honest : goal.returns-in_default-clause-honest
returns-in_default-clause-honest g c body long is_answer =
    let suite_laws = g.met.S.Suite in
    let wide_laws = g.met.S.W.Wide in
    let suite = g.S.Suite.meaning in
    let sizes = c.args.geo.now in
    let keys : Keys = keys_seen c.args.keys.now in
    let laws = is_invertible suite _ suite_laws.made_of_parts (record {
      decrypts = wide_laws.decrypts;
      encrypts = wide_laws.encrypts;
      encrypted_length = wide_laws.encrypted_length;
      decrypted_length = wide_laws.decrypted_length;
    }) in
    let opens : body_in sizes c.in_ok-recovered.recovered.items ≡ Ok body =
    ap (body_in sizes) c.in_ok-recovered.ensures.value ∙ ap (opened_reply suite sizes keys) is_answer ∙ opened_reply-answer suite sizes keys body laws in
    let damaged : body_in sizes c.in_ok-recovered.recovered.items ≡ Err faults.Damaged = c.in_default.ensures.damaged in
    cc

pub returns-clause-honest : goal.returns-clause-honest
returns-clause-honest g c body long is_answer =
    let suite_laws = g.met.S.Suite in
    let wide_laws = g.met.S.W.Wide in
    let suite = g.S.Suite.meaning in
    let sizes = c.args.geo.now in
    let keys : Keys = keys_seen c.args.keys.now in
    let laws = is_invertible suite _ suite_laws.made_of_parts (record {
      decrypts = wide_laws.decrypts;
      encrypts = wide_laws.encrypts;
      encrypted_length = wide_laws.encrypted_length;
      decrypted_length = wide_laws.decrypted_length;
    }) in
    let opens : body_in sizes c.in_ok-recovered.recovered.items ≡ Ok body =
    ap (body_in sizes) c.in_ok-recovered.ensures.value ∙ ap (opened_reply suite sizes keys) is_answer ∙ opened_reply-answer suite sizes keys body laws in
    let found : body_in sizes c.in_ok-recovered.recovered.items ≡ Ok c.in-Some.body.items = c.in-Some.ensures.body in
    cc
