-- A packet under the keys of the epochs that were live at its receipt, the current epoch's before its neighbour's.
use Rattle.std.specs.Prelude.{ℕ, List, [], ◌∷◌, Option, option_map, Result, Ok, Err, map}
use Rattle.mix_base.specs.Suites.{SuiteMeaning}
use Rattle.epoch_keys.specs.Epochs.{live_epochs}
use Rattle.epoch_keys.specs.Keys.{secret_keys}
use Rattle.packet_form.specs.Geometry.{Sizes}
use Rattle.sphinx_unwrap.specs.Outcome.{unwrapped}
use Rattle.sphinx_unwrap.specs.declared.outcome.Opened.{Opened}
use Rattle.sphinx_unwrap.specs.declared.faults.Refused.{Refused}
use Rattle.sphinx_unwrap.specs.declared.faults.Refused.TheVariants.{Sealed}
use Rattle.mix_shard.specs.declared.setup.Setup.{Setup}

-- of answers under one key after the other, the first decides that doesn't leave the packet sealed
abbrev pub first_open : List (ℕ × Result Opened Refused) → Result (ℕ × Opened) Refused
first_open [] = Err Sealed
first_open ((epoch, Ok opened) ∷ others) = Ok (epoch, opened)
first_open ((epoch, Err Sealed) ∷ others) = first_open others
first_open ((epoch, Err why) ∷ others) = Err why

-- the secret keys of the epochs that are live at a moment, the current one first, each with its epoch; nothing where one
-- of these epochs has no pair
abbrev pub live_keys : SuiteMeaning → Setup → ℕ → Option (List (ℕ × List ℕ))
live_keys suite setup moment = secret_keys suite.kem setup.seed (live_epochs setup.times moment)

-- a packet under the key of an epoch
abbrev pub opened_with : SuiteMeaning → Sizes → List ℕ → ℕ × List ℕ → ℕ × Result Opened Refused
opened_with suite sizes packet key = (key.0, unwrapped suite sizes key.1 packet)

-- a packet under the keys of the epochs that were live at its receipt: the epoch whose key opens it, and the packet
-- unwrapped; nothing where one of these epochs has no pair
abbrev pub opened_at : SuiteMeaning → Setup → ℕ → List ℕ → Option (Result (ℕ × Opened) Refused)
opened_at suite setup at packet =
    option_map (λ keys. first_open (map (opened_with suite setup.geometry packet) keys)) (live_keys suite setup at)
