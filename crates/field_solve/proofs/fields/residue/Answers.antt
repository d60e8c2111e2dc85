use Rattle.std.proofs.Common.{arith, pos}
use Rattle.std.proofs.lemmas.Int.{ints}
use Rattle.field_solve.proofs.fields.residue.Goals as goal

pub returns-then-coefficient-lt0-clause-congruent : goal.returns-then-coefficient-lt0-clause-congruent
returns-then-coefficient-lt0-clause-congruent c = (pos 1, omega (arith, ints))

pub returns-else-coefficient-lt0-clause-congruent : goal.returns-else-coefficient-lt0-clause-congruent
returns-else-coefficient-lt0-clause-congruent c = (pos 0, omega (arith, ints))
