-- The areas of a rack in memory, and what its type keeps of them.
use Rattle.std.specs.Prelude.{◌≡◌, ◌≢◌, ℕ, zero, suc, ◌+◌, ◌<◌, ◌≤◌, min, List, [], ◌∷◌, length, max, Bool, if◌then◌else◌}
use Rattle.replay_disk.specs.declared.memory_disk.MemDisk.{MemDisk}
use Rattle.replay_disk.specs.Disk.{Area, Areas, IsImage, with_bytes}
use Rattle.replay_disk.specs.Kept.{Buffer, ranges_of}
use Rattle.replay_disk.specs.MemoryRack.{Write}

-- an area, from its bytes and the pending writes
abbrev pub area_of : ℕ → List Write → Buffer → Area
area_of area writes buffer = record { contents = buffer.contents; synced = buffer.synced; written = ranges_of area writes; least = length buffer.synced; greatest = buffer.greatest }

abbrev pub areas_of : MemDisk → Areas
areas_of disk = record { root = area_of 0 disk.log.list disk.root; one = area_of 1 disk.log.list disk.one; two = area_of 2 disk.log.list disk.two }

abbrev pub buffer_at : ℕ → MemDisk → Buffer
buffer_at zero disk = disk.root
buffer_at (suc zero) disk = disk.one
buffer_at (suc (suc n)) disk = disk.two

-- each pending write of an area ends there at the latest
abbrev pub EndBy : ℕ → ℕ → List Write → Type 0
EndBy area limit [] = Unit {0}
EndBy area limit (write ∷ writes) = (write.area ≡ area → write.place + length write.bytes ≤ limit) × EndBy area limit writes

-- An area whose contents are one of its images, whose pending writes can be laid without taking memory, and which
-- can grow by the rack's room.
pub record IsReady (area room : ℕ) (writes : List Write) (buffer : Buffer) : Type 0 where
  pub image : IsImage (area_of area writes buffer) buffer.contents
  pub reaches : EndBy area (min buffer.greatest buffer.limit) writes
  pub grows : 0 < room → room + buffer.greatest ≤ buffer.limit

pub record IsSound (disk : MemDisk) (room : ℕ) : Type 0 where
  pub root : IsReady 0 room disk.log.list disk.root
  pub one : IsReady 1 room disk.log.list disk.one
  pub two : IsReady 2 room disk.log.list disk.two
  pub log : room ≤ disk.log.spare

-- a write, done or not, in the area's own bytes
pub record IsWritten (place : ℕ) (bytes : List ℕ) (done : Bool) (old new : Buffer) : Type 0 where
  pub contents : new.contents ≡ (if done then with_bytes place bytes old.contents else old.contents)
  pub synced : new.synced ≡ old.synced
  pub greatest : new.greatest ≡ max old.greatest (place + length bytes)
  pub limit : old.limit ≤ new.limit

-- the contents are these bytes, and on the disk
pub record IsSettled (left : List ℕ) (old new : Buffer) : Type 0 where
  pub contents : new.contents ≡ left
  pub synced : new.synced ≡ left
  pub greatest : new.greatest ≡ length left
  pub limit : old.limit ≤ new.limit

-- nothing changes but the length up to which the area can grow
pub record OnlyLimit (old new : Buffer) : Type 0 where
  pub contents : new.contents ≡ old.contents
  pub synced : new.synced ≡ old.synced
  pub greatest : new.greatest ≡ old.greatest
  pub limit : old.limit ≤ new.limit

-- one area changed so, and the others stay
pub record ChangesBuffer (area : ℕ) (Step : Buffer → Buffer → Type 0) (old new : MemDisk) : Type 0 where
  pub changed : Step (buffer_at area old) (buffer_at area new)
  pub others : (other : ℕ) → other < 3 → other ≢ area → buffer_at other new ≡ buffer_at other old
