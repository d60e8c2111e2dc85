use Rattle.std.proofs.Common.{◌≡◌, ℕ, All, Some, length, slice_get}
use Rattle.mix_shard.specs.Shards.{ShardState}
use Rattle.node_run.specs.Openings.{IsShardAt, IsUnused}
use Rattle.node_run.proofs.tests.seats.shards.Given as goal

abbrev pub invariant-loop-index : goal.invariant-loop-index
invariant-loop-index l = record {
  many : length l.shards.items ≡ l.index;
  unused : All (IsUnused l.callers) l.shards.items;
  places : (i : ℕ) (shard : ShardState) → slice_get l.shards.items i ≡ Some shard → IsShardAt l.setup l.count i shard;
}
