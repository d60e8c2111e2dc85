use Rattle.mix_shard.proofs.shard.Shard.floor.Goals as goal

pub floor-requires : goal.floor-requires
floor-requires g c = (c.self.invariant.0.store_is c.in-Some.store c.in-Some.is).sound
