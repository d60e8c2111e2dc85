use Rattle.std.proofs.Common.{◌≡◌, List, [], ◌∷◌, ◌++◌, length, refl, ◌∙◌, ap, rules}
use Rattle.replay_disk.specs.Kept.{Writes}
use Rattle.replay_disk.specs.MemoryRack.{Write}
use Rattle.replay_disk.proofs.Marks.{writes_of-push}
use Rattle.replay_disk.proofs.write_log.WriteLog.push.Goals as goal

pub returns-clause-list : goal.returns-clause-list
returns-clause-list c =
    let from : c.len.result ≡ length c.self.inside.bytes.items = search rules in
    let before = ap (λ (w : Writes). w.list) c.self.view_is in
    rw (c.add.ensures.bytes, c.add.ensures.marks)
    (writes_of-push c.self.inside.bytes.items c.args.bytes.now c.self.inside.marks.items _ c.self.invariant from refl
    ∙ ap (λ (ws : List Write). ws ++ (record { area = c.args.area; place = c.args.place; bytes = c.args.bytes.now }) ∷ []) before)
