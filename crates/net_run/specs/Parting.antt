-- What a life left, node by node.
use Rattle.std.specs.Prelude.{ℕ, Bool, nat_lt, List, map}
use Rattle.std.specs.Global.{Vec}
use Rattle.mix_shard.specs.Items.{Item}
use Rattle.mix_shard.specs.Shards.{ShardState}
use Rattle.node_run.specs.declared.life.seats.NodeEnd.{NodeEnd}
use Rattle.node_run.specs.declared.life.seats.NodeSeat.{NodeSeat}
use Rattle.net_run.specs.Tallies.{takes_in}

-- how many packets were taken out of a shard
abbrev pub takes_of : ShardState → ℕ
takes_of shard = takes_in (map (λ told. told.entry) shard.told)

module _ {R S N O K M D Z W : Type 0} where
  -- its shards, and the packets for its recipients
  abbrev pub shards_left : NodeEnd R S N O K M D Z W → Vec ShardState
  shards_left end = end.shards

  abbrev pub local_in : NodeEnd R S N O K M D Z W → Vec Item
  local_in end = end.local

  -- how many packets were taken out of each of its shards
  abbrev pub takes_left : NodeEnd R S N O K M D Z W → List ℕ
  takes_left end = map takes_of end.shards.items

  -- a packet met want of memory
  abbrev pub has_dropped : NodeEnd R S N O K M D Z W → Bool
  has_dropped end = nat_lt 0 end.dropped

  -- the shards of a node that didn't live
  abbrev pub shards_of_seat : NodeSeat R S N O K M D Z W → Vec ShardState
  shards_of_seat seat = seat.shards
