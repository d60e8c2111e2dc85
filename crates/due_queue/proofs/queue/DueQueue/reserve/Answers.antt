use Rattle.std.proofs.Common.{◌≡◌, ◌≤◌, List, sym, subst, arith}
use Rattle.due_queue.specs.Queues.{room_for}
use Rattle.due_queue.specs.declared.destinations.Dest.{Dest}
use Rattle.due_queue.proofs.Entries.{pushed_room}
use Rattle.due_queue.proofs.queue.DueQueue.reserve.Goals as goal

pub returns-clause-ok : goal.returns-clause-ok
returns-clause-ok g c =
    let more = pushed_room c.args.dest.now c.self.inside.reserved.items in
    subst (λ (kept : List Dest). 1 ≤ room_for kept c.args.dest.now) (sym c.in_ok-push.ensures.items) (omega (arith, more))
