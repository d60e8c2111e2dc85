use Rattle.node_actors.proofs.Drained.{fresh_holds_nothing, not_ended}
use Rattle.node_actors.proofs.actors.draining.nobody_ended.Goals as goal

pub returns-clause-open : goal.returns-clause-open
returns-clause-open g c = λ caller low. not_ended g.R.Rack.tells g.S.Suite.meaning c.args.shard.now c.tale-tale.ensures.kept caller low (c.requires.done caller low)

pub returns-clause-nothing_held : goal.returns-clause-nothing_held
returns-clause-nothing_held g c = fresh_holds_nothing g.R.Rack.tells g.S.Suite.meaning c.args.shard.now c.tale-tale.ensures.kept c.requires.empty
