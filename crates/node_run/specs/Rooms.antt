-- The memory that closing a node needs: empty lists with room.
use Rattle.std.specs.Prelude.{◌≡◌, ◌≤◌, ℕ, All, [], length, vec_capacity}
use Rattle.std.specs.Global.{Vec}
use Rattle.node_run.specs.declared.life.living.Ends.{Ends}
use Rattle.node_run.specs.declared.life.rooms.Rooms.{Rooms}
use Rattle.node_run.specs.declared.life.rooms.Works.{Works}

-- an empty list with room for so many
pub record HasRoom {A : Type 0} (many : ℕ) (list : Vec A) : Type 0 where
  pub empty : list.items ≡ []
  pub room : many ≤ vec_capacity list

-- so many of them, each with room for so many
pub record AreEmpty {A : Type 0} (lists many : ℕ) (all : Vec (Vec A)) : Type 0 where
  pub count : length all.items ≡ lists
  pub each : All (HasRoom many) all.items

-- nothing was sorted yet, and there is room for what so many listeners, workers and connectors leave
pub record HasRoomFor {P N O : Type 0} (listeners workers links : ℕ) (works : Works P N O) : Type 0 where
  pub incoming : HasRoom listeners works.incoming
  pub senders : HasRoom listeners works.senders
  pub receivers : HasRoom workers works.receivers
  pub outgoing : HasRoom links works.outgoing
  pub local : works.local.items ≡ []
  pub unsent : works.unsent ≡ 0
  pub dropped : works.dropped ≡ 0

-- room for a node with so many shards and callers
pub record IsRoomFor {Q T P N O : Type 0} (shards callers listeners workers links : ℕ) (rooms : Rooms Q T P N O) : Type 0 where
  pub passes : AreEmpty shards callers rooms.passes
  pub shards_room : HasRoom shards rooms.shards
  pub works : HasRoomFor listeners workers links rooms.works

-- room for the end of a life with so many threads, nodes and feeds
pub record HasRooms {R S N O K M D Z W : Type 0} (threads nodes feeds : ℕ) (room : Ends R S N O K M D Z W) : Type 0 where
  pub threads_are : room.threads ≡ threads
  pub hands_room : HasRoom threads room.hands
  pub nodes_room : HasRoom nodes room.nodes
  pub links_room : HasRoom feeds room.links
