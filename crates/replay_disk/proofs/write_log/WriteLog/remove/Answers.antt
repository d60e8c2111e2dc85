use Rattle.std.proofs.Common.{◌≡◌, List, [], sym, ◌∙◌, ap, rules}
use Rattle.std.proofs.lemmas.List.{nil_from_length}
use Rattle.replay_disk.specs.declared.write_log.Mark.{Mark}
use Rattle.replay_disk.specs.Kept.{Writes}
use Rattle.replay_disk.specs.MemoryRack.{without_area}
use Rattle.replay_disk.specs.WriteLog.{writes_of}
use Rattle.replay_disk.proofs.Marks.{writes_of-filter, AreMarked-filter}
use Rattle.replay_disk.proofs.write_log.WriteLog.remove.Goals as goal

pub invariant_of-self-else-is_empty : goal.invariant_of-self-else-is_empty
invariant_of-self-else-is_empty c = rw c.keep_others.ensures.items (AreMarked-filter c.self.inside.bytes.items c.args.area c.self.inside.marks.items c.self.invariant)

pub returns-else-is_empty-clause-list : goal.returns-else-is_empty-clause-list
returns-else-is_empty-clause-list c =
    rw c.keep_others.ensures.items (writes_of-filter c.self.inside.bytes.items c.args.area c.self.inside.marks.items
    ∙ ap (λ (w : Writes). without_area c.args.area w.list) c.self.view_is)

pub returns-then-is_empty-clause-list : goal.returns-then-is_empty-clause-list
returns-then-is_empty-clause-list c =
    let none : c.keep_others.new.marks.items ≡ [] = nil_from_length c.keep_others.new.marks.items (search rules) in
    ap (λ (ms : List Mark). writes_of c.clear.new.self.items ms) none
    ∙ sym (ap (λ (ms : List Mark). writes_of c.self.inside.bytes.items ms) none)
    ∙ ap (λ (ms : List Mark). writes_of c.self.inside.bytes.items ms) c.keep_others.ensures.items
    ∙ writes_of-filter c.self.inside.bytes.items c.args.area c.self.inside.marks.items
    ∙ ap (λ (w : Writes). without_area c.args.area w.list) c.self.view_is
