use Rattle.std.proofs.Common.{◌≡◌, ◌+◌, ◌∙◌, List, sym, ap, subst, arith}
use Rattle.std.specs.List.{position}
use Rattle.due_queue.specs.Destinations.{same_dest}
use Rattle.due_queue.specs.Queues.{room_for}
use Rattle.due_queue.specs.declared.destinations.Dest.{Dest}
use Rattle.due_queue.proofs.Entries.{found_room, other_room}
use Rattle.due_queue.proofs.queue.remove_entry.Goals as goal

pub returns-in-Some-clause-room : goal.returns-in-Some-clause-room
returns-in-Some-clause-room c =
    let found = ap (λ (kept : List Dest). position (λ one. same_dest one c.args.dest.now) kept) (sym c.deref.ensures.value) ∙ sym c.entry_for.ensures.place ∙ c.in-Some.is in
    let one = found_room c.args.dest.now c.args.reserved.now.items c.in-Some.place c.swap_remove.result found in
    omega (arith, one, ap (λ (kept : List Dest). room_for kept c.args.dest.now) c.swap_remove.ensures.items)

pub returns-in-Some-clause-others : goal.returns-in-Some-clause-others
returns-in-Some-clause-others c = λ other differs.
    let found = ap (λ (kept : List Dest). position (λ one. same_dest one c.args.dest.now) kept) (sym c.deref.ensures.value) ∙ sym c.entry_for.ensures.place ∙ c.in-Some.is in
    ap (λ (kept : List Dest). room_for kept other) c.swap_remove.ensures.items
    ∙ other_room c.args.dest.now other c.args.reserved.now.items c.in-Some.place c.swap_remove.result found differs
