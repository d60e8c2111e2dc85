-- The sum over the logs so far, of which each has at most 2 ^ 26 tags.
use Rattle.std.proofs.Common.{◌≡◌, ◌*◌, ◌^◌, ◌≤◌, ◌==◌, if◌then◌else◌, length, sum_by, take}
use Rattle.spent_store.proofs.log_lists.tags_in.Given as goal

abbrev pub invariant-counting : goal.invariant-counting
invariant-counting l = (l.count ≡ sum_by (λ log. if log.epoch == l.epoch then length log.tags else 0) (take l.log-index l.logs)) × (l.count ≤ l.log-index * 2 ^ 26)
