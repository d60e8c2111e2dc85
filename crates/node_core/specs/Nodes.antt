-- Nodes between two events.
use Rattle.std.specs.Prelude.{◌≡◌, ⊤, ℕ, ◌^◌, ◌≤◌, false, List, [], ◌∷◌, length, Option, None, Some, slice_get, slice_set}
use Rattle.std.specs.List.{flat_map}
use Rattle.mix_base.specs.Suites.{SuiteMeaning}
use Rattle.mix_base.specs.declared.shards.Shape.{Shape}
use Rattle.replay_disk.specs.Disk.{RackState}
use Rattle.mix_shard.specs.Items.{Item, setup_of}
use Rattle.mix_shard.specs.Shards.{IsKept, ShardState, new_shard, terms_of}
use Rattle.mix_shard.specs.declared.setup.Setup.{Setup}
use Rattle.mix_shard.specs.declared.terms.Terms.{Terms}
use Rattle.node_core.specs.declared.arrivals.Arrival.{Arrival}
use Rattle.node_core.specs.declared.setup.NodeSetup.{NodeSetup}

-- its setup, the number of the next arrival, the arrivals that wait, oldest first, what the four workers hold, and the
-- shards
pub record NodeState : Type 0 where
  pub setup : NodeSetup
  pub next : ℕ
  pub arrivals : List Arrival
  pub workers : List (Option Item)
  pub shards : List ShardState

-- what its packets are unwrapped under
abbrev pub packets_setup : NodeSetup → Setup
packets_setup setup = setup_of setup.geo setup.times setup.seed

-- which of its shards one is, and what doesn't change of it; a node is the one caller of each
abbrev pub shape_at : NodeSetup → ℕ → Shape
shape_at setup index = record { shards = setup.shards; index = index }

abbrev pub terms_at : NodeSetup → ℕ → Terms
terms_at setup index = terms_of (shape_at setup index) (packets_setup setup) setup.limit 1

-- workers that hold nothing
abbrev pub no_packets : List (Option Item)
no_packets = None ∷ None ∷ None ∷ None ∷ []

-- all that its shards hold
abbrev pub all_held : List ShardState → List Item
all_held shards = flat_map (λ shard. shard.state.held) shards

-- ---- what holds of a node at all times

-- 1 to 16 shards, whose logs have at most 2 to 2^26 records
pub record IsNodeSetup (setup : NodeSetup) : Type 0 where
  pub some : 1 ≤ setup.shards
  pub few : setup.shards ≤ 16
  pub least : 2 ≤ setup.limit
  pub limit : setup.limit ≤ 2 ^ 26

-- what a worker holds was unwrapped under this node's setup
abbrev pub HeldFor : Setup → Option Item → Type 0
HeldFor setup None = ⊤
HeldFor setup (Some item) = item.setup ≡ setup

-- a shard of this node, in which all holds that a shard keeps
pub record IsShardOf (tells : Type 0) (suite : SuiteMeaning) (setup : NodeSetup) (index : ℕ) (shard : ShardState) : Type 0 where
  pub terms : shard.terms ≡ terms_at setup index
  pub active : shard.state.done ≡ false ∷ []
  pub kept : IsKept tells suite shard

-- as many shards as the setup says, each in its place
pub record AreShardsOf (tells : Type 0) (suite : SuiteMeaning) (setup : NodeSetup) (shards : List ShardState) : Type 0 where
  pub allowed : IsNodeSetup setup
  pub count : length shards ≡ setup.shards
  pub each : (index : ℕ) → (shard : ShardState) → slice_get shards index ≡ Some shard → IsShardOf tells suite setup index shard

-- ---- a node over racks to which nothing was done yet

-- the shard of a rack
abbrev pub IsNewShard : NodeSetup → ℕ → RackState → ShardState → Type 0
IsNewShard setup index rack shard = shard ≡ new_shard (terms_at setup index) rack shard.spare

pub record IsNewNode (setup : NodeSetup) (racks : List RackState) (node : NodeState) : Type 0 where
  pub setup_is : node.setup ≡ setup
  pub next_is : node.next ≡ 1
  pub arrivals_are : node.arrivals ≡ []
  pub workers_are : node.workers ≡ no_packets
  pub count : length node.shards ≡ length racks
  pub each : (index : ℕ) → (rack : RackState) → (shard : ShardState) → slice_get racks index ≡ Some rack
      → slice_get node.shards index ≡ Some shard → IsNewShard setup index rack shard

-- ---- one shard changes, and nothing else

pub record AtShard (Changes : ShardState → ShardState → Type 0) (place : ℕ) (old new : NodeState) : Type 0 where
  pub before : ShardState
  pub after : ShardState
  pub there : slice_get old.shards place ≡ Some before
  pub changes : Changes before after
  pub new_is : new ≡ record old { shards = slice_set old.shards place after }

-- every shard changes
pub record AtEachShard (Changes : ShardState → ShardState → Type 0) (old new : List ShardState) : Type 0 where
  pub count : length new ≡ length old
  pub each : (index : ℕ) → (before after : ShardState) → slice_get old index ≡ Some before → slice_get new index ≡ Some after
      → Changes before after
