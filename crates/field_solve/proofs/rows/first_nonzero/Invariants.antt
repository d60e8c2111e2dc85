use Rattle.std.proofs.Common.{◌≡◌, ℕ, ◌%◌, ◌<◌, slice_index}
use Rattle.field_solve.proofs.rows.first_nonzero.Given as goal

abbrev pub invariant-loop-i : goal.invariant-loop-i
invariant-loop-i l = (place : ℕ) → place < l.i → slice_index l.sums (slice_index l.columns place) % l.prime ≡ 0
