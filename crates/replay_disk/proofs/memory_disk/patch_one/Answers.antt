use Rattle.std.proofs.Common.{◌≡◌, arith, length, ap}
use Rattle.replay_disk.specs.Kept.{write_at}
use Rattle.replay_disk.proofs.Pending.{ends_at}
use Rattle.replay_disk.proofs.memory_disk.patch_one.Goals as goal

pub patch_by-requires-clause-fits : goal.patch_by-requires-clause-fits
patch_by-requires-clause-fits c =
    let of : (write_at c.args.i c.args.log.now.list).area ≡ c.args.number = cc in
    let ends = ends_at c.args.number c.args.area.now.limit c.args.i c.args.log.now.list c.requires.ends c.requires.index of in
    omega (arith, ends, c.place.ensures, ap length c.bytes.ensures)
