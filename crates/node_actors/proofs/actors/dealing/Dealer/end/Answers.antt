use Rattle.node_actors.proofs.Fating.{dealt_same}
use Rattle.node_actors.proofs.actors.dealing.Dealer.end.Goals as goal

pub returns-clause-dealt : goal.returns-clause-dealt
returns-clause-dealt g c = dealt_same g.S.Suite.meaning (record { seat = c.self.inside.seat; log = c.self.inside.log.items; dropped = c.self.inside.dropped }) c.end_all.new.seat c.end_all.ensures.claims c.self.invariant.0
