use Rattle.std.proofs.Common.{◌≡◌, ◌++◌, ◌+◌, ◌≤◌, map, reverse, vec_len, vec_capacity}
use Rattle.node_core.specs.Kept.{AreMade}
use Rattle.node_core.proofs.node.making.make_shards.Given as goal

abbrev pub invariant-loop-rack : goal.invariant-loop-rack
invariant-loop-rack g l = record {
  are : map g.R.Rack.state l.fn.racks.items ≡ map (λ shard. shard.rack) l.shards.items ++ map g.R.Rack.state (reverse l.racks.items);
  made : AreMade g.R.Rack.tells g.S.Suite.meaning l.setup l.shards.items;
  count : vec_len l.racks + vec_len l.shards ≡ l.setup.shards;
  shards_fit : vec_len l.racks + vec_len l.shards ≤ vec_capacity l.shards;
  racks_fit : vec_len l.racks + vec_len l.shards ≤ vec_capacity l.racks;
}

abbrev pub decreases-loop-rack : goal.decreases-loop-rack
decreases-loop-rack g l = vec_len l.racks
