-- A node as it is handed to a life, and what is left of it where it doesn't live.
use Rattle.std.specs.Prelude.{◌≡◌, ℕ, List, length, map}
use Rattle.mix_shard.specs.Items.{setup_of}
use Rattle.mix_shard.specs.declared.entries.Told.{Told}
use Rattle.mix_shard.specs.declared.setup.Setup.{Setup}
use Rattle.node_run.specs.Openings.{CanOpen, tale_of}
use Rattle.node_run.specs.Roles.{callers_for}
use Rattle.node_run.specs.declared.life.seats.NodeSeat.{NodeSeat}

module _ {R S N O K M D Z W : Type 0} where
  -- what it unwraps packets under
  abbrev pub setup_in : NodeSeat R S N O K M D Z W → Setup
  setup_in seat = setup_of seat.geo seat.times seat.seed

  -- how many callers it has with so many workers
  abbrev pub callers_with : ℕ → NodeSeat R S N O K M D Z W → ℕ
  callers_with workers seat = callers_for (length seat.incoming.items) workers (length seat.outgoing.items)

  -- what is left of it where it doesn't live: its setup, and the origin and the tale of each shard
  abbrev pub kept_of : NodeSeat R S N O K M D Z W → Setup × List (List (List ℕ) × List Told)
  kept_of seat = (setup_in seat, map tale_of seat.shards.items)

  -- it can live with so many workers, under a suite with ciphertexts of this length
  pub record CanLive (ciphertext workers : ℕ) (seat : NodeSeat R S N O K M D Z W) : Type 0 where
    pub opens : CanOpen (setup_in seat) seat.shards.items (length seat.incoming.items) workers (length seat.outgoing.items)
    pub ciphertext_is : seat.geo.ct ≡ ciphertext
