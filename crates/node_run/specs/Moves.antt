-- The order of claims: no packet is claimed twice, and a caller claims the packets of one listener in the order of
-- their numbers.
use Rattle.std.specs.Prelude.{◌≡◌, ℕ, List, Some, flat_map, slice_get}
use Rattle.mix_shard.specs.declared.entries.Told.{Told}
use Rattle.node_run.specs.Accounts.{calls_of}
use Rattle.node_run.specs.Orders.{Differ, InOrder, claim_numbers}

-- what was told of the shards of a node since their locks were made, in which so many listeners number packets: over
-- all shards no number has two claims; and at each shard a caller's claims of packets of one listener stand in the
-- order of their numbers
pub record Moves (listeners : ℕ) (tales : List (List Told)) : Type 0 where
  pub once : Differ (flat_map claim_numbers tales)
  pub ordered : (i caller : ℕ) (tale : List Told) → slice_get tales i ≡ Some tale → InOrder listeners (claim_numbers (calls_of caller tale))
