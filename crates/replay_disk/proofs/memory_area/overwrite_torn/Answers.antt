use Rattle.std.proofs.Common.{◌+◌, ◌-◌, ◌/◌, List, ℕ, length, replicate, refl, ◌∙◌, ap}
use Rattle.replay_disk.specs.Disk.{with_bytes}
use Rattle.replay_disk.proofs.Laying.{torn_over}
use Rattle.replay_disk.proofs.memory_area.overwrite_torn.Goals as goal

pub returns : goal.returns
returns c =
    let n = length c.args.bytes.now in
    let place = c.args.place in
    c.blot.ensures ∙ ap (λ (xs : List ℕ). with_bytes (place + n / 2) (replicate (place + n - (place + n / 2)) 0x7f) xs) c.overwrite.ensures
    ∙ torn_over place (place + n / 2) (place + n) c.args.bytes.now c.args.target.now c.requires refl refl
