-- How the pending writes of a rack in memory are kept: their bytes one after the other, and a mark for each.
use Rattle.std.specs.Prelude.{ℕ, ◌+◌, ◌≤◌, List, length, take, drop, map}
use Rattle.std.specs.List.{AllByRecursion}
use Rattle.replay_disk.specs.declared.write_log.Mark.{Mark}
use Rattle.replay_disk.specs.MemoryRack.{Write}

-- the write that a mark stands for
abbrev pub write_of : List ℕ → Mark → Write
write_of bytes mark = record { area = mark.area; place = mark.place; bytes = take mark.size (drop mark.from bytes) }

abbrev pub writes_of : List ℕ → List Mark → List Write
writes_of bytes marks = map (write_of bytes) marks

-- each mark's bytes are there
abbrev pub AreMarked : List ℕ → List Mark → Type 0
AreMarked bytes marks = AllByRecursion (λ mark. mark.from + mark.size ≤ length bytes) marks
