use Rattle.std.proofs.Common.{◌≡◌, length}
use Rattle.field_solve.specs.Elimination.{Progress}
use Rattle.field_solve.proofs.elimination.invert.Given as goal

abbrev pub invariant-loop : goal.invariant-loop
invariant-loop l = record {
  progress : Progress l.prime l.fn.poly l.columns.items l.rows.items;
  count : length l.rows.items ≡ l.counter;
}
