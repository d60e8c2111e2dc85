use Rattle.std.proofs.Common.{ℕ, ◌-◌, ◌^◌, arith, sym, replicate, slice_set, List, subst}
use Rattle.field_solve.specs.Elimination.{AllBelow, Combines, minus_one}
use Rattle.field_solve.proofs.Units.{first_set-AllBelow, first_set-Combines}
use Rattle.field_solve.proofs.powers.minus_one.Goals as goal

pub returns-clause-room : goal.returns-clause-room
returns-clause-room c =
    let e = c.in_ok-entries.ensures in
    subst (λ (l : List ℕ). AllBelow (2 ^ 25) (slice_set l 0 (c.from.result - 1))) (sym e) (first_set-AllBelow 761 (c.from.result - 1) (2 ^ 25) (omega arith) (omega arith))

pub returns-clause-combined : goal.returns-clause-combined
returns-clause-combined c =
    let e = c.in_ok-entries.ensures in
    λ poly. subst (λ (l : List ℕ). Combines c.args.prime poly minus_one (replicate 761 0) (slice_set l 0 (c.from.result - 1))) (sym e) (first_set-Combines c.args.prime poly (c.from.result - 1) 761 (omega arith) (omega arith))
