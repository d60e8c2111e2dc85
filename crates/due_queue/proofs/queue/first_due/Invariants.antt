use Rattle.std.proofs.Common.{take}
use Rattle.due_queue.specs.Inside.{HasFound}
use Rattle.due_queue.proofs.queue.first_due.Given as goal

abbrev pub invariant-items : goal.invariant-items
invariant-items g l = HasFound g.T.Due.told l.wanted l.moment l.items (take l.place l.items) l.found
