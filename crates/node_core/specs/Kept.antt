-- Words of private functions and proofs alone.
use Rattle.std.specs.Prelude.{◌≡◌, ℕ, List, Some, slice_get}
use Rattle.mix_base.specs.Suites.{SuiteMeaning}
use Rattle.mix_shard.specs.Shards.{ShardState}
use Rattle.node_core.specs.Nodes.{IsNewShard, IsShardOf}
use Rattle.node_core.specs.declared.setup.NodeSetup.{NodeSetup}

-- a shard of its rack, to which nothing was done yet
pub record IsMade (tells : Type 0) (suite : SuiteMeaning) (setup : NodeSetup) (index : ℕ) (shard : ShardState) : Type 0 where
  pub is_shard : IsShardOf tells suite setup index shard
  pub is_new : IsNewShard setup index shard.rack shard

abbrev pub AreMade : Type 0 → SuiteMeaning → NodeSetup → List ShardState → Type 0
AreMade tells suite setup shards = (index : ℕ) (shard : ShardState) → slice_get shards index ≡ Some shard → IsMade tells suite setup index shard
