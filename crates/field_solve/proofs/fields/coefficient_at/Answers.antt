use Rattle.std.proofs.Common.{arith, pos}
use Rattle.std.proofs.lemmas.Int.{ints}
use Rattle.std.proofs.lemmas.List.{get_or_past}
use Rattle.field_solve.proofs.fields.coefficient_at.Goals as goal

pub returns-else-place-numbers-clause-congruent : goal.returns-else-place-numbers-clause-congruent
returns-else-place-numbers-clause-congruent c =
    (pos 0, omega (arith, ints, get_or_past c.args.numbers.now c.args.place 0 c.if-place-numbers.false))
