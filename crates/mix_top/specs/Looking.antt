-- Words of private functions and proofs alone: how a reading of the kept disks ends, and how far it has come.
use Rattle.std.specs.Prelude.{◌≡◌, ⊤, ℕ, ◌<◌, List, Result, Ok, Err, IsOk, String, string_bytes}
use Rattle.std.specs.declared.alloc.Global.{Global}
use Rattle.mix_base.specs.declared.shards.Shape.{Shape}
use Rattle.replay_disk.specs.Disk.{RackState}
use Rattle.spent_store.specs.declared.faults.OpenStore.{OpenStore}
use Rattle.spent_store.specs.declared.faults.OpenStore.TheVariants as faults
use Rattle.lab_text.specs.declared.statuses.Status.{Status}
use Rattle.lab_text.specs.declared.statuses.Status.TheVariants.{Done, Foreign, OtherShape, Memory, Disk}
use Rattle.mix_top.specs.Look.{AreRead, lines_on}

-- how a disk that gave no book ends the call
abbrev pub fault_status : Shape → OpenStore → Status
fault_status shape (faults.Foreign area at) = Foreign 0 shape.index area at
fault_status shape (faults.OtherShape stored) = OtherShape 0 shape.index stored shape
fault_status shape faults.Failed = Disk 0 shape.index
fault_status shape faults.Memory = Memory

-- what such a status says of the first so many disks
abbrev pub StopsLook : ℕ → List RackState → Status → Type 0
StopsLook shards racks (Disk node shard) = IsOk (lines_on shards shard racks)
StopsLook shards racks Memory = ⊤
StopsLook shards racks status = lines_on shards shards racks ≡ Err status

-- and what it says by itself
abbrev pub IsLookStop : ℕ → Status → Type 0
IsLookStop shards (Foreign node shard area at) = ⊤
IsLookStop shards (OtherShape node shard stored asked) = ⊤
IsLookStop shards (Disk node shard) = (node ≡ 0) × (shard < shards)
IsLookStop shards Memory = ⊤
IsLookStop shards _ = ⊥

-- the disks below a place were read, and their lines are this text
pub record ReadBelow (tells : Type 0) (shards place : ℕ) (text : List ℕ) (old new : List RackState) : Type 0 where
  pub lines : tells → lines_on shards place old ≡ Ok text
  pub disks : AreRead place Done old new

-- a reading of the first so many disks
abbrev pub HasRead : Type 0 → ℕ → Result (String Global) Status → List RackState → List RackState → Type 0
HasRead tells shards (Ok text) old new = ReadBelow tells shards shards (string_bytes text) old new
HasRead tells shards (Err status) old new =
    IsLookStop shards status × (tells → StopsLook shards old status) × AreRead shards status old new
