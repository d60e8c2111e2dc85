use Rattle.std.proofs.Common.{◌≤◌, ◌-◌, length, sym, ◌∙◌, ap, subst, rules, List, ℕ}
use Rattle.replay_disk.specs.Disk.{Area, Areas, Range, area_at, IsTried, ChangesOnly}
use Rattle.replay_disk.specs.MemoryRack.{MemState}
use Rattle.replay_disk.specs.MemoryDisk.{areas_of}
use Rattle.replay_disk.proofs.Ready.{area_at-areas_of, sound_written, tried_from, images_from}
use Rattle.replay_disk.proofs.memory_rack.MemRackRack.write.Goals as goal

pub invariant_of-self : goal.invariant_of-self
invariant_of-self c =
    let areas = ap (λ (m : MemState). m.rack.areas) c.self.view_is in
    let room : length c.args.bytes.now ≤ c.self.inside.room = search rules in
    let contents = ap (λ (a : Areas). (area_at c.args.area a).contents) (sym areas) ∙ ap (λ (a : Area). a.contents) (area_at-areas_of c.args.area c.self.inside.disk c.requires.area) in
    let place = subst (λ (xs : List ℕ). c.args.at ≤ length xs) contents c.requires.place in
    sound_written c.args.area c.args.at c.args.bytes.now _ c.self.inside.room c.requires.some room c.self.inside.disk c.write.new.self c.requires.area place c.self.invariant c.write.ensures.area c.write.ensures.list c.write.ensures.spare

pub returns-clause-tried : goal.returns-clause-tried
returns-clause-tried c =
    let areas = ap (λ (m : MemState). m.rack.areas) c.self.view_is in
    let room : length c.args.bytes.now ≤ c.self.inside.room = search rules in
    let contents = ap (λ (a : Areas). (area_at c.args.area a).contents) (sym areas) ∙ ap (λ (a : Area). a.contents) (area_at-areas_of c.args.area c.self.inside.disk c.requires.area) in
    let place = subst (λ (xs : List ℕ). c.args.at ≤ length xs) contents c.requires.place in
    let range : Range = record { place = c.args.at; size = length c.args.bytes.now } in
    subst (λ (a : Areas). ChangesOnly c.args.area (IsTried range) a (areas_of c.write.new.self)) areas
    (tried_from c.args.area c.args.at c.args.bytes.now _ c.self.inside.room c.requires.some room c.self.inside.disk c.write.new.self c.requires.area place c.write.ensures.area c.write.ensures.list)

pub returns-clause-images : goal.returns-clause-images
returns-clause-images c = images_from (c.self.inside.room - length c.args.bytes.now) c.write.new.self (invariant_of-self c)
