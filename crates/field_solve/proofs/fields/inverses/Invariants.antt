use Rattle.std.proofs.Common.{◌≡◌, ℕ, ◌*◌, ◌%◌, ◌<◌, slice_index, length}
use Rattle.field_solve.proofs.fields.inverses.Given as goal

abbrev pub invariant-loop-number : goal.invariant-loop-number
invariant-loop-number l = record {
  whole : length l.table.items ≡ l.number;
  below : (number : ℕ) → number < l.number → slice_index l.table.items number < l.prime;
  product : (number : ℕ) → number < l.number → 0 < number → number * slice_index l.table.items number % l.prime ≡ 1;
}
