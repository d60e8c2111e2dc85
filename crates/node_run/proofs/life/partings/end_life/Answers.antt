use Rattle.std.proofs.Common.{sym, subst}
use Rattle.node_run.specs.Crews.{AreAllLeft}
use Rattle.node_run.proofs.life.partings.end_life.Goals as goal

pub end_houses-nodes-requires-clause-left : goal.end_houses-nodes-requires-clause-left
end_houses-nodes-requires-clause-left g c =
    subst (λ ls. AreAllLeft g.S.Suite.meaning g.C.Clock.may_give g.N.LinkIn.left g.N.LinkIn.faults g.O.LinkOut.given g.O.LinkOut.faults c.args.clock.now
    c.args.houses.items c.args.feeds.now.value.items ls) (sym c.into_iter-lefts.ensures.rest) c.requires.left
