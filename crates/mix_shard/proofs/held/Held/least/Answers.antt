use Rattle.mix_shard.proofs.Holding.{held_live}
use Rattle.mix_shard.proofs.held.Held.least.Goals as goal

pub returns-clause-low : goal.returns-clause-low
returns-clause-low g c = rw (← c.self.view_is) (c.least_live.ensures.near c.self.inside.epoch (held_live g.S.Suite.meaning _ c.self.invariant)).0

pub returns-clause-high : goal.returns-clause-high
returns-clause-high g c = rw (← c.self.view_is) (c.least_live.ensures.near c.self.inside.epoch (held_live g.S.Suite.meaning _ c.self.invariant)).1
