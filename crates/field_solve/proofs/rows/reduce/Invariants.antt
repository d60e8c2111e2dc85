use Rattle.std.proofs.Common.{◌≡◌, ℕ, ◌+◌, ◌*◌, ◌^◌, ◌≤◌, length, slice_index, ℤ}
use Rattle.field_solve.specs.Elimination.{AllBelow, AreCleared, AreCombined, Combines}
use Rattle.field_solve.proofs.rows.reduce.Given as goal

abbrev pub invariant-loop-row : goal.invariant-loop-row
invariant-loop-row l = record {
  cleared : AreCleared l.fn.prime l.row-index l.fn.rows l.sums;
  behind : (place : ℕ) → length l.fn.rows ≤ place → slice_index l.combination place ≡ slice_index l.initial.combination place;
  combined : (poly start : ℕ → ℤ) → AreCombined l.fn.prime poly l.fn.rows → Combines l.fn.prime poly start l.initial.combination l.initial.sums → Combines l.fn.prime poly start l.combination l.sums;
  room : AllBelow (2 ^ 25 * (l.row-index + 1)) l.sums;
  room_combination : AllBelow (2 ^ 25 * (l.row-index + 1)) l.combination;
}
