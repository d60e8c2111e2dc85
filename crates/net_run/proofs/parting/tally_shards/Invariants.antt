use Rattle.std.proofs.Common.{◌≡◌, ◌++◌, map, drop}
use Rattle.net_run.specs.Parting.{takes_of}
use Rattle.net_run.proofs.parting.tally_shards.Given as goal

-- the counts so far, and those to come, are all
abbrev pub invariant-shards : goal.invariant-shards
invariant-shards g l = l.takes.items ++ map takes_of (drop l.shard-index l.shards) ≡ map takes_of l.shards
