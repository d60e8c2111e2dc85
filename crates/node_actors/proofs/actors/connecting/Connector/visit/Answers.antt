use Rattle.std.proofs.Common.{List, refl, subst, sym}
use Rattle.mix_shard.specs.Items.{Item}
use Rattle.node_actors.specs.Connecting.{ConnectorState, HasConnected}
use Rattle.node_actors.specs.Handing.{link_out}
use Rattle.node_actors.specs.declared.actors.takings.Taking.{Taking}
use Rattle.node_actors.specs.declared.actors.turns.Found.TheVariants.{Waiting, Empty, Drained}
use Rattle.node_actors.proofs.Connecting.{connected_on, connected_still}
use Rattle.node_actors.proofs.Seating.{acts_nothing, found_claims}
use Rattle.node_actors.proofs.actors.connecting.Connector.visit.Goals as goal

pub invariant_of-self : goal.invariant_of-self
invariant_of-self g c =
    let was : ConnectorState g.row.C.Denot = record {
      taker = record { seat = c.self.inside.seat; log = c.self.inside.log.items; unsent = c.self.inside.unsent };
      clock = c.self.inside.clock.now;
      hop = c.self.inside.hop;
      was = link_out g.O.LinkOut.given g.O.LinkOut.faults c.self.inside.was.value;
      link = link_out g.O.LinkOut.given g.O.LinkOut.faults c.self.inside.link;
    } in
    let may = subst (λ (t : ConnectorState g.row.C.Denot). g.C.Clock.may_give t.clock c.args.moment) (sym c.self.view_is) c.requires.moment in
    let link = link_out g.O.LinkOut.given g.O.LinkOut.faults c.send-sent.new.link in
    let taking : Taking Item = record { shard = c.args.shard; item = c.of.result; sent = c.send-sent.result } in
    let unsent = c.unsent_with-self-inside.result in
    subst (λ (log : List (Taking Item)). HasConnected g.S.Suite.meaning g.C.Clock.may_give (record was { taker = record { seat = c.take_out.new.self; log = log; unsent = unsent }; link = link })) (sym c.push.ensures)
    (connected_on g.S.Suite.meaning g.C.Clock.may_give was c.take_out.new.self c.args.shard c.args.moment c.self.invariant may c.in-Packet.held unsent taking link refl c.of.ensures c.in-Packet.ensures.held
    c.in-Packet.ensures.setup c.in-Packet.ensures.accepted c.in-Packet.ensures.dest c.in-Packet.ensures.acts c.send-sent.ensures.given c.send-sent.ensures.failed c.unsent_with-self-inside.ensures)

pub invariant_of-self-in-Waiting : goal.invariant_of-self-in-Waiting
invariant_of-self-in-Waiting g c =
    let was : ConnectorState g.row.C.Denot = record {
      taker = record { seat = c.self.inside.seat; log = c.self.inside.log.items; unsent = c.self.inside.unsent };
      clock = c.self.inside.clock.now;
      hop = c.self.inside.hop;
      was = link_out g.O.LinkOut.given g.O.LinkOut.faults c.self.inside.was.value;
      link = link_out g.O.LinkOut.given g.O.LinkOut.faults c.self.inside.link;
    } in
    let may = subst (λ (t : ConnectorState g.row.C.Denot). g.C.Clock.may_give t.clock c.args.moment) (sym c.self.view_is) c.requires.moment in
    connected_still g.S.Suite.meaning g.C.Clock.may_give was c.take_out.new.self c.args.shard c.args.moment c.self.invariant may Waiting tt c.in-Waiting.ensures.acts

pub invariant_of-self-in-Empty : goal.invariant_of-self-in-Empty
invariant_of-self-in-Empty g c =
    let was : ConnectorState g.row.C.Denot = record {
      taker = record { seat = c.self.inside.seat; log = c.self.inside.log.items; unsent = c.self.inside.unsent };
      clock = c.self.inside.clock.now;
      hop = c.self.inside.hop;
      was = link_out g.O.LinkOut.given g.O.LinkOut.faults c.self.inside.was.value;
      link = link_out g.O.LinkOut.given g.O.LinkOut.faults c.self.inside.link;
    } in
    let may = subst (λ (t : ConnectorState g.row.C.Denot). g.C.Clock.may_give t.clock c.args.moment) (sym c.self.view_is) c.requires.moment in
    connected_still g.S.Suite.meaning g.C.Clock.may_give was c.take_out.new.self c.args.shard c.args.moment c.self.invariant may Empty tt c.in-Empty.ensures.acts

pub invariant_of-self-in-Drained : goal.invariant_of-self-in-Drained
invariant_of-self-in-Drained g c =
    let was : ConnectorState g.row.C.Denot = record {
      taker = record { seat = c.self.inside.seat; log = c.self.inside.log.items; unsent = c.self.inside.unsent };
      clock = c.self.inside.clock.now;
      hop = c.self.inside.hop;
      was = link_out g.O.LinkOut.given g.O.LinkOut.faults c.self.inside.was.value;
      link = link_out g.O.LinkOut.given g.O.LinkOut.faults c.self.inside.link;
    } in
    let may = subst (λ (t : ConnectorState g.row.C.Denot). g.C.Clock.may_give t.clock c.args.moment) (sym c.self.view_is) c.requires.moment in
    connected_still g.S.Suite.meaning g.C.Clock.may_give was c.take_out.new.self c.args.shard c.args.moment c.self.invariant may Drained tt c.in-Drained.ensures.acts

pub returns-in-Packet : goal.returns-in-Packet
returns-in-Packet g c = rw (← c.self.view_is) (record { nothing = acts_nothing _ _ _ _ c.take_out.ensures.acts (λ own h. found_claims _ _ c.take_out.result own h); clock = refl; hop = refl; was = refl })

pub returns-in-Waiting : goal.returns-in-Waiting
returns-in-Waiting g c = rw (← c.self.view_is) (record { nothing = acts_nothing _ _ _ _ c.take_out.ensures.acts (λ own h. found_claims _ _ c.take_out.result own h); clock = refl; hop = refl; was = refl })

pub returns-in-Empty : goal.returns-in-Empty
returns-in-Empty g c = rw (← c.self.view_is) (record { nothing = acts_nothing _ _ _ _ c.take_out.ensures.acts (λ own h. found_claims _ _ c.take_out.result own h); clock = refl; hop = refl; was = refl })

pub returns-in-Drained : goal.returns-in-Drained
returns-in-Drained g c = rw (← c.self.view_is) (record { nothing = acts_nothing _ _ _ _ c.take_out.ensures.acts (λ own h. found_claims _ _ c.take_out.result own h); clock = refl; hop = refl; was = refl })
