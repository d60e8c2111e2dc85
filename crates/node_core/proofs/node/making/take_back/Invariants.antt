use Rattle.std.proofs.Common.{◌≡◌, ◌++◌, ◌+◌, ◌≤◌, map, reverse, vec_len, vec_capacity}
use Rattle.node_core.proofs.node.making.take_back.Given as goal

abbrev pub invariant-loop-shard : goal.invariant-loop-shard
invariant-loop-shard g l = record {
  are : map (λ shard. shard.rack) l.fn.shards.items ++ map g.R.Rack.state (reverse l.fn.places.items) ≡ map (λ shard. shard.rack) l.shards.items ++ map g.R.Rack.state (reverse l.places.items);
  fit : vec_len l.shards + vec_len l.places ≤ vec_capacity l.places;
}

abbrev pub decreases-loop-shard : goal.decreases-loop-shard
decreases-loop-shard g l = goal.left-loop-shard g l
