-- What the rack in memory keeps, as its private parts see it: the bytes of an area, the pending writes with the room for
-- more, and the counts.
use Rattle.std.specs.Prelude.{ℕ, Option, List, [], ◌∷◌, length, slice_index_or, ◌==◌, if◌then◌else◌}
use Rattle.replay_disk.specs.Disk.{Range}
use Rattle.replay_disk.specs.Failing.{Failing}
use Rattle.replay_disk.specs.MemoryRack.{Write}

-- an area in memory: what a read gives, what its last sync left, the greatest length since, and the length up to
-- which it can grow without taking memory
pub record Buffer : Type 0 where
  pub contents : List ℕ
  pub synced : List ℕ
  pub greatest : ℕ
  pub limit : ℕ

-- a list of writes, and for how many bytes more it has room
pub record Writes : Type 0 where
  pub list : List Write
  pub spare : ℕ

-- the write of an index
abbrev pub write_at : ℕ → List Write → Write
write_at i writes = slice_index_or writes i (record { area = 0; place = 0; bytes = [] })

-- the ranges of an area's writes
abbrev pub ranges_of : ℕ → List Write → List Range
ranges_of area [] = []
ranges_of area (write ∷ writes) = if write.area == area then record { place = write.place; size = length write.bytes } ∷ ranges_of area writes else ranges_of area writes

-- what decides which calls fail, and counts them: these, how many are left before all fail, how many were made, and
-- how many failed
pub record Counting : Type 0 where
  pub failing : Failing
  pub left : Option ℕ
  pub calls : ℕ
  pub faults : ℕ
