-- What contracts see of a rack over files: how often it was called, and how often it has failed. Of its areas they see
-- nothing, so all else stands at one value.
use Rattle.std.specs.Prelude.{ℕ, [], None}
use Rattle.replay_disk.specs.Disk.{RackState, settled}

abbrev pub untold : ℕ → ℕ → RackState
untold calls faults = record {
  areas = record { root = settled []; one = settled []; two = settled [] };
  past = [];
  faults = faults;
  room = 0;
  calls = calls;
  left = None;
  arms = [];
  crashes = [];
}
