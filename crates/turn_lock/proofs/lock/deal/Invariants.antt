use Rattle.std.proofs.Common.{◌≡◌, ◌+◌, vec_len}
use Rattle.std.specs.Prelude.{◌≤◌, vec_capacity}
use Rattle.turn_lock.specs.Seats.{IsFirst, passes_from}
use Rattle.turn_lock.proofs.lock.deal.Given as goal

abbrev pub invariant-loop-number : goal.invariant-loop-number
invariant-loop-number g l = IsFirst l.lock l.number l.first × (l.passes.items ≡ passes_from l.lock 1 l.number) × (l.callers ≤ vec_capacity l.passes) × (vec_len l.passes + 1 ≡ l.number)
