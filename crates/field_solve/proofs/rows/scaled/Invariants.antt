use Rattle.std.proofs.Common.{◌≡◌, ℕ, ◌*◌, ◌%◌, ◌<◌, slice_index, length}
use Rattle.field_solve.proofs.rows.scaled.Given as goal

abbrev pub invariant-loop-sum : goal.invariant-loop-sum
invariant-loop-sum l = record {
  whole : length l.numbers.items ≡ l.sum-index;
  values : (place : ℕ) → place < l.sum-index → slice_index l.numbers.items place ≡ l.factor * (slice_index l.sums place % l.prime) % l.prime;
}
