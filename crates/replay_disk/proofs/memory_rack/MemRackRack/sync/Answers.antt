use Rattle.std.proofs.Common.{ap, subst}
use Rattle.std.specs.Prelude.{Result, Ok, Err, OnOk}
use Rattle.replay_disk.specs.Disk.{Areas, IsSynced, ChangesOnly}
use Rattle.replay_disk.specs.MemoryRack.{MemState}
use Rattle.replay_disk.specs.MemoryDisk.{areas_of}
use Rattle.replay_disk.proofs.Ready.{sound_synced, synced_from}
use Rattle.replay_disk.proofs.memory_rack.MemRackRack.sync.Goals as goal

pub invariant_of-self : goal.invariant_of-self
invariant_of-self c =
    sound_synced c.args.area c.self.inside.room c.self.inside.disk c.sync.new.self c.requires c.sync.ensures.area c.sync.ensures.list c.self.invariant c.sync.ensures.spare

on_ok : {T E : Type 0} (r : Result T E) (P : Type 0) → P → OnOk r P
on_ok (Ok x) P p = p
on_ok (Err e) P p = tt

pub returns-then-is_ok-clause-synced : goal.returns-then-is_ok-clause-synced
returns-then-is_ok-clause-synced c =
    let areas = ap (λ (m : MemState). m.rack.areas) c.self.view_is in
    on_ok _ _ (subst (λ (a : Areas). ChangesOnly c.args.area IsSynced a (areas_of c.sync.new.self)) areas
    (synced_from c.args.area c.self.inside.room c.self.inside.disk c.sync.new.self c.requires c.sync.ensures.area c.sync.ensures.list))
