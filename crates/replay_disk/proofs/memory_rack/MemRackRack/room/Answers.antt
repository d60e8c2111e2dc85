use Rattle.std.proofs.Common.{arith}
use Rattle.replay_disk.proofs.Ready.{sound_limits}
use Rattle.replay_disk.proofs.memory_rack.MemRackRack.room.Goals as goal

pub invariant_of-self : goal.invariant_of-self
invariant_of-self c =
    let sound = c.self.invariant in
    let root = c.reserve.ensures.root in
    let one = c.reserve.ensures.one in
    let two = c.reserve.ensures.two in
    let spare = c.reserve.ensures.spare in
    let log = sound.log in
    sound_limits c.self.inside.room c.self.inside.room c.self.inside.disk c.reserve.new.self sound root one two c.reserve.ensures.list
    (λ some. let grows = sound.root.grows some in omega (arith, root.limit)) (λ some. let grows = sound.one.grows some in omega (arith, one.limit)) (λ some. let grows = sound.two.grows some in omega (arith, two.limit)) (omega arith)

pub invariant_of-self-then-bytes-self : goal.invariant_of-self-then-bytes-self
invariant_of-self-then-bytes-self c =
    let made = c.in_ok-reserve.ensures in
    sound_limits c.self.inside.room c.args.bytes c.self.inside.disk c.reserve.new.self c.self.invariant made.root made.one made.two made.list
    (λ some. made.root_grows) (λ some. made.one_grows) (λ some. made.two_grows) made.log_grows
