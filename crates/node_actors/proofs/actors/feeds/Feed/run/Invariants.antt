use Rattle.std.proofs.Common.{map}
use Rattle.std.specs.Prelude.{take}
use Rattle.node_actors.specs.Handing.{HandsFeed, link_out}
use Rattle.node_actors.proofs.actors.feeds.Feed.run.Given as goal

abbrev pub invariant-loop-packet : goal.invariant-loop-packet
invariant-loop-packet g l =
    HandsFeed (map (λ packet. packet.items) (take l.packet-index l.packet-items)) (link_out g.O.LinkOut.given g.O.LinkOut.faults l.fn.self.link)
    (link_out g.O.LinkOut.given g.O.LinkOut.faults l.link)
