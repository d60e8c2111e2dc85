-- What becomes of a rack in a run.
use Rattle.std.specs.Prelude.{◌≡◌, ◌≤◌, List}
use Rattle.std.specs.List.{AllZip}
use Rattle.replay_disk.specs.Disk.{RackState}

-- a rack as it is later: nobody armed or crashed it, and its count of faults hasn't fallen
pub record IsLater (old new : RackState) : Type 0 where
  pub arms : new.arms ≡ old.arms
  pub crashes : new.crashes ≡ old.crashes
  pub faults : old.faults ≤ new.faults

-- each of these racks in its place
abbrev pub AreLater : List RackState → List RackState → Type 0
AreLater old new = AllZip IsLater old new
