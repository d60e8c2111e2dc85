-- The shards of a node once it has ended.
use Rattle.std.specs.Prelude.{All, List}
use Rattle.mix_base.specs.Suites.{SuiteMeaning}
use Rattle.mix_shard.specs.Items.{Item}
use Rattle.mix_shard.specs.Laws.{accepted}
use Rattle.mix_shard.specs.Shards.{IsDrained, IsKept, ShardState}
use Rattle.mix_shard.specs.declared.entries.Told.{Told}
use Rattle.spent_store.specs.Books.{IsCovered}
use Rattle.spent_store.specs.Stores as stores
use Rattle.turn_lock.specs.Seen.{Caller, Lock}
use Rattle.node_actors.specs.declared.actors.works.Left.{Left}
use Rattle.node_run.specs.Accounts.{hands_of}
use Rattle.node_run.specs.Closings.{AreClosed}

-- whatever a crash leaves of its rack, that covers each pair that was accepted
abbrev pub CoversAccepted : ShardState → Type 0
CoversAccepted shard =
    (image : stores.Left shard.rack.areas)
    → All (λ pair. IsCovered (stores.opened shard.terms.shape shard.terms.limit shard.rack.areas image) pair.0 pair.1) (accepted shard.told)

-- each began as the value that its lock was made with, and since then holds the calls of each caller, each once and in
-- its order; its tale leads to its state; nothing is held, and whoever may claim is done
pub record Lives {N O : Type 0} (tells : Type 0) (suite : SuiteMeaning) (locks : List (Lock Told)) (lefts : List (Left (Caller Told) Item N O)) (shards : List ShardState) : Type 0 where
  pub closed : AreClosed locks (hands_of lefts) shards
  pub kept : All (IsKept tells suite) shards
  pub drained : All IsDrained shards

-- where the racks tell their contents, what was accepted lasts
abbrev pub Rests : Type 0 → List ShardState → Type 0
Rests tells shards = tells → All CoversAccepted shards
