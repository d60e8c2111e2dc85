use Rattle.std.proofs.Common.{◌≡◌, ◌+◌, List, ◌++◌, length, reverse, vec_len, vec_capacity}
use Rattle.std.specs.Global.{Vec}
use Rattle.std.specs.Prelude.{◌≤◌}
use Rattle.mix_shard.specs.declared.entries.Told.{Told}
use Rattle.turn_lock.specs.Seen.{Caller, Lock}
use Rattle.node_run.specs.Closings.{AreShut}
use Rattle.node_run.proofs.life.closing.close_all.Given as goal

abbrev pub invariant-loop-lock : goal.invariant-loop-lock
invariant-loop-lock g l =
    (locks : List (Lock Told)) × (lists : List (Vec (Caller Told))) × (l.locks.items ++ locks ≡ l.fn.locks.items) × (l.lists.items ++ lists ≡ l.fn.lists.items)
    × (length l.lists.items ≡ length l.locks.items) × AreShut g.R.Rack.tells g.S.Suite.meaning locks lists (reverse l.shards.items)
    × (vec_len l.locks + vec_len l.shards ≤ vec_capacity l.shards)

abbrev pub decreases-loop-lock : goal.decreases-loop-lock
decreases-loop-lock g l = vec_len l.locks
