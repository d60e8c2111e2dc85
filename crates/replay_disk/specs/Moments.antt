-- Every moment of a call. A rack's past is the list of what its areas were; each write, sync and crash adds one.
use Rattle.std.specs.Prelude.{◌≡◌, List, [], ◌∷◌, ◌++◌}
use Rattle.std.specs.List.{AllByRecursion}
use Rattle.replay_disk.specs.Disk.{Areas, RackState}

-- one moment passed: what the areas were is past now
abbrev pub PassesOne : RackState → RackState → Type 0
PassesOne old new = new.past ≡ old.past ++ old.areas ∷ []

-- At every moment from the old state to the new one, both included, the areas have P: the past grew by areas that
-- have it, and the areas now have it.
pub record AtEachMoment (P : Areas → Type 0) (old new : RackState) : Type 0 where
  pub passed : List Areas
  pub grew : new.past ≡ old.past ++ passed
  pub each : AllByRecursion P passed
  pub now : P new.areas
