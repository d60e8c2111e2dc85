use Rattle.std.proofs.Common.{◌≡◌, ℕ, ◌+◌, ◌*◌, ◌<◌, ◌≤◌, slice_index}
use Rattle.field_solve.proofs.rows.add_multiple.Given as goal

abbrev pub invariant-loop-i : goal.invariant-loop-i
invariant-loop-i l = record {
  done : (place : ℕ) → place < l.i → slice_index l.sums place ≡ slice_index l.initial.sums place + l.factor * slice_index l.list place;
  rest : (place : ℕ) → l.i ≤ place → slice_index l.sums place ≡ slice_index l.initial.sums place;
}
