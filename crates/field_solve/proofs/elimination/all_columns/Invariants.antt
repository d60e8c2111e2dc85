use Rattle.std.proofs.Common.{◌≡◌, ℕ, ◌<◌, slice_index, length}
use Rattle.field_solve.proofs.elimination.all_columns.Given as goal

abbrev pub invariant-loop-column : goal.invariant-loop-column
invariant-loop-column l = record {
  whole : length l.columns.items ≡ l.column;
  each : (place : ℕ) → place < l.column → slice_index l.columns.items place ≡ place;
}
