use Rattle.std.proofs.Common.{List, ap, subst, sym}
use Rattle.mix_shard.specs.Items.{Item}
use Rattle.node_actors.specs.Connecting.{HasConnected}
use Rattle.node_actors.specs.Handing.{link_out}
use Rattle.node_actors.specs.declared.actors.takings.Taking.{Taking}
use Rattle.node_actors.proofs.Connecting.{connected_first}
use Rattle.node_actors.proofs.actors.connecting.Connector.new.Goals as goal

pub invariant_of-result : goal.invariant_of-result
invariant_of-result g c =
    let link = link_out g.O.LinkOut.given g.O.LinkOut.faults c.args.link in
    let was = link_out g.O.LinkOut.given g.O.LinkOut.faults c.of.result.value in
    subst (λ (log : List (Taking Item)). HasConnected g.S.Suite.meaning g.C.Clock.may_give (record { taker = record { seat = c.args.seat; log = log; unsent = 0 }; clock = c.args.clock.now; hop = c.args.hop; was = was; link = link }))
    (sym c.new.ensures) (connected_first g.S.Suite.meaning g.C.Clock.may_give c.args.seat c.args.clock.now c.args.hop was link (ap (link_out g.O.LinkOut.given g.O.LinkOut.faults) c.of.ensures) c.requires)
