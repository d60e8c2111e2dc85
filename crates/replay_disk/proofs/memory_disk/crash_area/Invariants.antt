use Rattle.std.proofs.Common.{◌≡◌, ◌≤◌, drop}
use Rattle.replay_disk.specs.MemoryRack.{picked}
use Rattle.replay_disk.proofs.memory_disk.crash_area.Given as goal

abbrev pub invariant-loop-i : goal.invariant-loop-i
invariant-loop-i l = record {
  laid : picked l.number l.digits (drop l.i l.log.list) l.area.contents ≡ picked l.number l.pick l.log.list l.fn.area.synced;
  limit : l.fn.area.limit ≤ l.area.limit;
}
