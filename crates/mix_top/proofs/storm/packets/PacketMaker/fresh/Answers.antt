use Rattle.std.proofs.Common.{ap, ◌∙◌, sym}
use Rattle.std.proofs.lemmas.Result.{IfOk-weaker}
use Rattle.mix_base.specs.Suites.{SuiteMeaning}
use Rattle.mix_top.proofs.StormPackets.{drawn_behind, made_fresh_is, moved_behind}
use Rattle.mix_top.proofs.storm.packets.PacketMaker.fresh.Goals as goal

pub returns-clause-packet : goal.returns-clause-packet
returns-clause-packet g c =
    let suite_laws = g.met.S.Suite in
    let kem_laws = g.met.S.K.Kem in
    let words = g.W.Words.to_come c.args.self.now.words in
    let behind = g.W.Words.to_come c.next-delay.new.self in
    let count = ap (λ (m : SuiteMeaning). m.kem.coins) suite_laws.made_of_parts ∙ kem_laws.coins_length ∙ sym c.COINS.ensures in
    IfOk-weaker c.seal.result _ _
    (λ packet made. made_fresh_is g.S.Suite.meaning c.args.setup.now c.args.number words (g.W.Words.to_come c.next_words.new.words) c.args.self.now.last c.in_ok-key.key c.deref.result.now
    packet.items c.next-delay.result c.in_ok-key.ensures.key c.next-delay.ensures.word
    (drawn_behind words behind _ _ c.deref.result.now c.next-delay.ensures.rest count (c.deref.ensures.value ∙ c.in-Ok.ensures.words)) made
    (moved_behind words behind (g.W.Words.to_come c.next_words.new.words) _ _ c.next-delay.ensures.rest count c.in-Ok.ensures.rest))
    c.seal.ensures.packet
