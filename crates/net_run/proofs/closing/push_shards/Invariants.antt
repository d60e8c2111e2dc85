use Rattle.std.proofs.Common.{◌≡◌, ◌++◌, ◌+◌, ◌≤◌, All, List, map, reverse, vec_len, vec_capacity}
use Rattle.mix_shard.specs.Shards.{IsKept, ShardState}
use Rattle.net_run.proofs.closing.push_shards.Given as goal

abbrev pub invariant-loop-shard : goal.invariant-loop-shard
invariant-loop-shard g l = record {
  are : map (λ shard. shard.rack) l.fn.shards.items ++ map g.R.Rack.state (reverse l.initial.racks.items)
      ≡ map (λ shard. shard.rack) l.shards.items ++ map g.R.Rack.state (reverse l.racks.items);
  gone : List ShardState;
  shards : l.fn.shards.items ≡ l.shards.items ++ gone;
  kept : All (IsKept g.R.Rack.tells g.S.Suite.meaning) gone;
  fit : vec_len l.racks + vec_len l.shards ≤ vec_capacity l.racks;
  len : vec_len l.racks + vec_len l.shards ≡ vec_len l.initial.racks + vec_len l.fn.shards;
  capacity : vec_capacity l.racks ≡ vec_capacity l.initial.racks;
}

abbrev pub decreases-loop-shard : goal.decreases-loop-shard
decreases-loop-shard g l = goal.left-loop-shard g l
