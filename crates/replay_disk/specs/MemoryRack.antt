-- The rack in memory: its pending writes, and which image of its areas a crash leaves.
use Rattle.std.specs.Prelude.{None, ℕ, zero, suc, ◌+◌, ◌-◌, ◌/◌, ◌%◌, List, [], ◌∷◌, ◌++◌, length, take, replicate, filter, not, ◌==◌, if◌then◌else◌}
use Rattle.replay_disk.specs.Disk.{RackState, settled, with_bytes}
use Rattle.replay_disk.specs.Failing.{Failing}

-- a write since the last sync of its area
pub record Write : Type 0 where
  pub area : ℕ
  pub place : ℕ
  pub bytes : List ℕ

-- what contracts see of a rack in memory: as of every rack, its pending writes in their order, and which single calls
-- fail
pub record MemState : Type 0 where
  pub rack : RackState
  pub pending : List Write
  pub failing : Failing

-- the writes of the other areas
abbrev pub without_area : ℕ → List Write → List Write
without_area area writes = filter (λ write. not (write.area == area)) writes

-- bytes laid at a place of a list that is filled up to their end first
abbrev pub laid : ℕ → ℕ → List ℕ → List ℕ → List ℕ
laid fill place bytes old = with_bytes place bytes (old ++ replicate (place + length bytes - length old) fill)

-- the first half of the bytes, and 0x7f for each of the rest
abbrev pub torn : List ℕ → List ℕ
torn bytes = take (length bytes / 2) bytes ++ replicate (length bytes - length bytes / 2) 0x7f

-- what a write does to an image by its digit: 0 nothing, 1 the whole, 2 its first half and 0x7f
abbrev pub laid_by : ℕ → Write → List ℕ → List ℕ
laid_by zero write image = image
laid_by (suc zero) write image = laid 0x7f write.place write.bytes image
laid_by (suc (suc n)) write image = laid 0x7f write.place (torn write.bytes) image

-- The image of an area that a pick leaves: digit i of the pick in base 3 decides write i, of all areas, and the
-- area's own are laid in their order on what its last sync left.
abbrev pub picked : ℕ → ℕ → List Write → List ℕ → List ℕ
picked area pick [] image = image
picked area pick (write ∷ writes) image = picked area (pick / 3) writes (if write.area == area then laid_by (pick % 3) write image else image)

-- three areas at rest, in a rack to which nothing has happened
abbrev pub at_first : List ℕ → List ℕ → List ℕ → RackState
at_first root one two = record { areas = record { root = settled root; one = settled one; two = settled two }; past = []; faults = 0; room = 0; calls = 0; left = None; arms = []; crashes = [] }
