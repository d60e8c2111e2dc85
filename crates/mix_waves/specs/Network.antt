-- The network that settings describe: layers of nodes, each with a number, an id, a seed and disks of its own.
use Rattle.std.specs.Prelude.{ℕ, zero, suc, ◌+◌, ◌*◌, ◌/◌, ◌%◌, List, [], ◌∷◌, ◌++◌, replicate, Option, Some, codes}
use Rattle.mix_base.specs.Options.{◌>>=◌}
use Rattle.prim_std.specs.Primitives.{hmac}
use Rattle.packet_form.specs.Geometry.{Sizes}
use Rattle.epoch_keys.specs.Epochs.{EpochTimes}
use Rattle.epoch_keys.specs.Keys.{epoch_public_key}
use Rattle.lab_text.specs.declared.settings.Config.{Config}
use Rattle.mix_tools.specs.Suites.{scheme_for}

-- ---- the settings as a geometry and times

-- a path has a hop in each layer
abbrev pub sizes_of : Config → Sizes
sizes_of config = record { ct = (scheme_for config.ntru).ciphertext; hops = config.layers; body = config.body }

abbrev pub times_of : Config → EpochTimes
times_of config = record { epoch = config.epoch; grace = config.grace }

-- ---- a node, by its layer and its place in the layer

abbrev pub number_of : Config → ℕ → ℕ → ℕ
number_of config layer place = layer * config.width + place

abbrev pub node_id : ℕ → ℕ → List ℕ
node_id layer place = layer ∷ place ∷ replicate 30 0

abbrev pub node_seed : Config → ℕ → ℕ → List ℕ
node_seed config layer place = hmac config.seed (codes "mix-node" ++ layer ∷ place ∷ [])

-- the first of the disks of the node with this number: sixteen belong to each, and a shard has one of them
abbrev pub first_disk : ℕ → ℕ
first_disk number = 16 * number

-- ---- all nodes, by their numbers from 0

abbrev pub node_count : Config → ℕ
node_count config = config.layers * config.width

abbrev pub seed_of : Config → ℕ → List ℕ
seed_of config number = node_seed config (number / config.width) (number % config.width)

-- the node's public key of an epoch, where it has one
abbrev pub key_of : Config → ℕ → ℕ → Option (List ℕ)
key_of config epoch number = epoch_public_key (scheme_for config.ntru) (seed_of config number) epoch

-- the keys of the first so many nodes, where each has one
abbrev pub first_keys : Config → ℕ → ℕ → Option (List (List ℕ))
first_keys config epoch zero = Some []
first_keys config epoch (suc count) = do
  before ← first_keys config epoch count
  key ← key_of config epoch count
  Some (before ++ key ∷ [])

abbrev pub all_keys : Config → ℕ → Option (List (List ℕ))
all_keys config epoch = first_keys config epoch (node_count config)
