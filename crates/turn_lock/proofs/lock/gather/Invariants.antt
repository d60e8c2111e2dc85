use Rattle.std.proofs.Common.{◌≡◌, List, ◌++◌}
use Rattle.turn_lock.specs.Seen.{Caller}
use Rattle.turn_lock.specs.Seats.{IsSeatOfAll}
use Rattle.turn_lock.proofs.lock.gather.Given as goal

abbrev pub invariant-loop-pass : goal.invariant-loop-pass
invariant-loop-pass g l = (done : List (Caller g.row.T-Entry.Denot)) × (l.fn.passes.items ≡ l.passes.items ++ done) × IsSeatOfAll l.lock done l.all

abbrev pub decreases-loop-pass : goal.decreases-loop-pass
decreases-loop-pass g l = goal.left-loop-pass g l
