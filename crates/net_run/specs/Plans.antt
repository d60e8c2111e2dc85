-- The nodes of the network by their numbers: how many links each has, and what it is opened as.
use Rattle.std.specs.Prelude.{ℕ, ◌+◌, ◌*◌, ◌/◌, max, ◌==◌, if◌then◌else◌}
use Rattle.lab_text.specs.declared.settings.Config.{Config}
use Rattle.mix_shard.specs.Items.{setup_of}
use Rattle.mix_waves.specs.Network.{seed_of, sizes_of, times_of}
use Rattle.net_run.specs.declared.opening.NodePlan.{NodePlan}

-- the layer of a node
abbrev pub layer_of : Config → ℕ → ℕ
layer_of config number = number / config.width

-- a line comes in from the client, or from each node of the layer before
abbrev pub links_into : Config → ℕ → ℕ
links_into config layer = if layer == 0 then 1 else config.width

-- and one goes out to each node of the next layer, if there is one
abbrev pub links_onto : Config → ℕ → ℕ
links_onto config layer = if layer + 1 == config.layers then 0 else config.width

abbrev pub callers_at : Config → ℕ → ℕ
callers_at config layer = 2 * max (links_into config layer + config.workers) (links_onto config layer + 2)

-- what the node of a number is opened as
abbrev pub plan_of : Config → ℕ → NodePlan
plan_of config number = record {
  number = number;
  setup = setup_of (sizes_of config) (times_of config) (seed_of config number);
  shards = config.shards;
  callers = callers_at config (layer_of config number);
}
