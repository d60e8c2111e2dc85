use Rattle.std.proofs.Common.{◌++◌, Option, sym, ap, ◌∙◌}
use Rattle.std.proofs.lemmas.List.{append-nil}
use Rattle.node_actors.specs.Packets.{arrived, dealt_packets, packet_with}
use Rattle.node_actors.specs.declared.queues.items.Arrival.{Arrival}
use Rattle.node_actors.proofs.Working.{noted_more}
use Rattle.node_actors.proofs.actors.working.deal_arrival.Goals as goal

pub returns-in-Some-clause-log : goal.returns-in-Some-clause-log
returns-in-Some-clause-log g c =
    let noted = c.deal.ensures.log in
    let arrival = c.in-Some.arrival in
    noted_more c.args.dealer.now.log c.deal.new.self.log noted.dealt (packet_with arrival.number arrival.receipt arrival.packet) noted.log
    (λ i. packet_with (noted.number_is i) (noted.receipt_is i) (noted.packet_is i))
    ∙ ap (λ (a : Option Arrival). dealt_packets c.args.dealer.now.log ++ arrived a) (sym c.in-Some.is)

pub returns-in-None-clause-log : goal.returns-in-None-clause-log
returns-in-None-clause-log g c =
    sym (append-nil (dealt_packets c.args.dealer.now.log)) ∙ ap (λ (a : Option Arrival). dealt_packets c.args.dealer.now.log ++ arrived a) (sym c.in-None.is)
