use Rattle.std.proofs.Common.{◌≡◌, ◌++◌, ◌+◌, ◌≤◌, All, map, reverse, vec_len, vec_capacity}
use Rattle.node_run.specs.Openings.{IsMade, IsUnused, tale_behind, tale_of}
use Rattle.node_run.proofs.life.locking.lock_all.Given as goal

abbrev pub invariant-loop-shard : goal.invariant-loop-shard
invariant-loop-shard g l = record {
  are : map tale_of l.fn.shards.items ≡ map (λ one. tale_behind one.lock) l.made.items ++ map tale_of (reverse l.shards.items);
  made : All (IsMade l.callers) l.made.items;
  unused : All (IsUnused l.callers) l.shards.items;
  made_fit : vec_len l.shards + vec_len l.made ≤ vec_capacity l.made;
  shards_fit : vec_len l.shards + vec_len l.made ≤ vec_capacity l.shards;
}

abbrev pub decreases-loop-shard : goal.decreases-loop-shard
decreases-loop-shard g l = vec_len l.shards
