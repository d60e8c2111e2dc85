use Rattle.std.proofs.Common.{◌≤◌}
use Rattle.replay_disk.proofs.Pending.{EndBy-weaken}
use Rattle.replay_disk.proofs.memory_disk.crash_area.Goals as goal

pub patch_one-requires-clause-ends : goal.patch_one-requires-clause-ends
patch_one-requires-clause-ends c =
    let le : c.args.area.now.limit ≤ c.loop-i.area.limit = c.loop-i.invariant.limit in
    EndBy-weaken c.args.number c.args.area.now.limit c.loop-i.area.limit c.args.log.now.list le c.requires.ends
