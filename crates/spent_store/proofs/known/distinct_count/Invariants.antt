-- What was counted and what is to come are all different tags.
use Rattle.std.proofs.Common.{◌≡◌, ◌+◌, ◌≤◌, length}
use Rattle.spent_store.specs.Books as books
use Rattle.spent_store.proofs.known.distinct_count.Given as goal

abbrev pub invariant-counting : goal.invariant-counting
invariant-counting l = (l.count + books.distinct_count l.rest ≡ books.distinct_count l.tags) × (l.count + length l.rest ≤ length l.tags)

abbrev pub decreases-counting : goal.decreases-counting
decreases-counting l = length l.rest
