-- What contracts see of a key ring.
use Rattle.std.specs.Prelude.{◌==◌, ℕ, Bool, false, List, ◌++◌, Option, Some, fold, if◌then◌else◌}
use Rattle.std.specs.Option.{option_map_or, option_to_list}
use Rattle.epoch_keys.specs.Epochs.{EpochTimes, live_epochs}

-- the seed and the times that its keys are of, and the epochs of the keys that it holds: the newest, and the one that
-- was the newest before
pub record RingOf : Type 0 where
  pub seed : List ℕ
  pub times : EpochTimes
  pub newest : Option ℕ
  pub before : Option ℕ

-- all epochs whose keys it holds
abbrev pub held_epochs : RingOf → List ℕ
held_epochs ring = option_to_list ring.newest ++ option_to_list ring.before

-- the epochs that are live at a moment by its times
abbrev pub live_by : RingOf → ℕ → List ℕ
live_by ring moment = live_epochs ring.times moment

-- the epoch's key is the newest
abbrev pub is_newest : RingOf → ℕ → Bool
is_newest ring epoch = option_map_or (λ newest. newest == epoch) ring.newest false

-- the ring once this epoch's key was asked for: it is the newest, and the one that was the newest stands behind it
abbrev pub asked : RingOf → ℕ → RingOf
asked ring epoch = if is_newest ring epoch then ring else record ring { newest = Some epoch; before = ring.newest }

-- the ring once the keys of these epochs were asked for, one after the other
abbrev pub asked_all : RingOf → List ℕ → RingOf
asked_all ring epochs = fold asked ring epochs
