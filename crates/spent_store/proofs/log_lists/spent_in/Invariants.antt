-- The sum over the logs so far, of which each has at most 2 ^ 26 tags.
use Rattle.std.proofs.Common.{◌≡◌, ◌*◌, ◌^◌, ◌≤◌, sum_by, take}
use Rattle.spent_store.specs.Books as books
use Rattle.spent_store.proofs.log_lists.spent_in.Given as goal

abbrev pub invariant-counting : goal.invariant-counting
invariant-counting l = (l.spent ≡ sum_by (λ log. books.distinct_count log.tags) (take l.log-index l.logs)) × (l.spent ≤ l.log-index * 2 ^ 26)
