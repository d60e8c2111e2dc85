use Rattle.mix_shard.proofs.shard.Shard.next_due.Goals as goal

pub returns-clause-first : goal.returns-clause-first
returns-clause-first g c = rw (← c.self.view_is) c.next_due.ensures.first

pub returns-clause-none : goal.returns-clause-none
returns-clause-none g c = rw (← c.self.view_is) c.next_due.ensures.none
