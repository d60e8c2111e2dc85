use Rattle.std.proofs.Common.{ap, subst}
use Rattle.replay_disk.specs.Disk.{Areas, IsCrashed}
use Rattle.replay_disk.specs.MemoryRack.{MemState}
use Rattle.replay_disk.specs.MemoryDisk.{areas_of}
use Rattle.replay_disk.proofs.Ready.{ends_in_limit, sound_crashed, crashed_from}
use Rattle.replay_disk.proofs.memory_rack.MemRackCrashRack.crash.Goals as goal

pub crash-requires-clause-root_ends : goal.crash-requires-clause-root_ends
crash-requires-clause-root_ends c = ends_in_limit 0 c.self.inside.room c.self.inside.disk.log.list c.self.inside.disk.root c.self.invariant.root

pub crash-requires-clause-one_ends : goal.crash-requires-clause-one_ends
crash-requires-clause-one_ends c = ends_in_limit 1 c.self.inside.room c.self.inside.disk.log.list c.self.inside.disk.one c.self.invariant.one

pub crash-requires-clause-two_ends : goal.crash-requires-clause-two_ends
crash-requires-clause-two_ends c = ends_in_limit 2 c.self.inside.room c.self.inside.disk.log.list c.self.inside.disk.two c.self.invariant.two

pub invariant_of-self : goal.invariant_of-self
invariant_of-self c =
    let done = c.crash.ensures in
    sound_crashed c.self.inside.room c.args.pick c.self.inside.disk c.crash.new.self c.self.invariant done.root done.one done.two done.list done.spare

pub returns-clause-image : goal.returns-clause-image
returns-clause-image c =
    let areas = ap (λ (m : MemState). m.rack.areas) c.self.view_is in
    let done = c.crash.ensures in
    subst (λ (a : Areas). IsCrashed a (areas_of c.crash.new.self)) areas
    (crashed_from c.self.inside.room c.args.pick c.self.inside.disk c.crash.new.self c.self.invariant done.root done.one done.two done.list)
