use Rattle.std.proofs.Common.{ℕ, ◌-◌, ◌%◌, ◌∙◌, take, ap, rules}
use Rattle.std.proofs.lemmas.Result.{IfOk-weaker}
use Rattle.mix_top.specs.Storming.{making_at}
use Rattle.mix_top.proofs.StormPackets.{as_changed, as_cut, as_last, next_is}
use Rattle.mix_top.proofs.storm.packets.PacketMaker.next_packet.Goals as goal

pub returns-in-5-clause-packet : goal.returns-in-5-clause-packet
returns-in-5-clause-packet g c =
    IfOk-weaker c.again.result _ _
    (λ packet made. next_is g.S.Suite.meaning c.args.setup.now c.args.number (g.W.Words.to_come c.args.self.now.words) (g.W.Words.to_come c.next.new.self) c.args.self.now.last c.next.result _
    c.next.ensures.rest c.next.ensures.word (rw c.in-5.is made))
    c.again.ensures.packet

pub returns-in_ok-packet-in-6-clause-packet : goal.returns-in_ok-packet-in-6-clause-packet
returns-in_ok-packet-in-6-clause-packet g c =
    next_is g.S.Suite.meaning c.args.setup.now c.args.number (g.W.Words.to_come c.args.self.now.words) (g.W.Words.to_come c.next.new.self) c.args.self.now.last c.next.result _
    c.next.ensures.rest c.next.ensures.word
    (rw c.in-6.is (as_changed g.S.Suite.meaning c.args.setup.now c.args.number (making_at (g.W.Words.to_come c.next.new.self) c.args.self.now.last)
    (making_at (g.W.Words.to_come c.fresh.new.self.words) c.fresh.new.self.last) c.in_ok-packet-in-6.packet.items c.of.result
    c.in_ok-packet-in-6.ensures.packet (c.of.ensures ∙ c.change_mac.ensures)))

pub returns-in_ok-packet-in-7-clause-packet : goal.returns-in_ok-packet-in-7-clause-packet
returns-in_ok-packet-in-7-clause-packet g c =
    next_is g.S.Suite.meaning c.args.setup.now c.args.number (g.W.Words.to_come c.args.self.now.words) (g.W.Words.to_come c.next.new.self) c.args.self.now.last c.next.result _
    c.next.ensures.rest c.next.ensures.word
    (rw c.in-7.is (as_cut g.S.Suite.meaning c.args.setup.now c.args.number (making_at (g.W.Words.to_come c.next.new.self) c.args.self.now.last)
    (making_at (g.W.Words.to_come c.fresh-in-7.new.self.words) c.fresh-in-7.new.self.last) c.in_ok-packet-in-7.packet.items c.of-in-7.result
    c.in_ok-packet-in-7.ensures.packet (c.of-in-7.ensures ∙ c.truncate.ensures.items ∙ ap (λ (n : ℕ). take (n - 1) c.in_ok-packet-in-7.packet.items) (c.len.ensures ∙ c.in_ok-packet-in-7.packet.ok.0))))

pub returns-in_default-clause-packet : goal.returns-in_default-clause-packet
returns-in_default-clause-packet g c =
    IfOk-weaker c.fresh_and_last.result _ _
    (λ packet made. next_is g.S.Suite.meaning c.args.setup.now c.args.number (g.W.Words.to_come c.args.self.now.words) (g.W.Words.to_come c.next.new.self) c.args.self.now.last c.next.result _
    c.next.ensures.rest c.next.ensures.word
    (as_last g.S.Suite.meaning c.args.setup.now c.args.number (c.next.result % 8) (making_at (g.W.Words.to_come c.next.new.self) c.args.self.now.last) _ (search rules) (search rules) (search rules) made))
    c.fresh_and_last.ensures.packet
