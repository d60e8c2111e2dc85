use Rattle.std.proofs.Common.{ℕ, ◌%◌, arith, ap, pos}
use Rattle.std.proofs.lemmas.Int.{ints}
use Rattle.field_solve.proofs.Congruences.{congruent-mod, congruent_less}
use Rattle.field_solve.proofs.fields.centred.Goals as goal

pub returns-then-rest-prime-clause-congruent : goal.returns-then-rest-prime-clause-congruent
returns-then-rest-prime-clause-congruent c =
    let e = ap (λ (x : ℕ). c.args.number % x) c.from.ensures in
    let h = congruent-mod c.args.prime c.args.number in
    (h.0, omega (arith, ints, h.1))

pub returns-else-rest-prime-clause-congruent : goal.returns-else-rest-prime-clause-congruent
returns-else-rest-prime-clause-congruent c =
    let e = ap (λ (x : ℕ). c.args.number % x) c.from.ensures in
    let h = congruent_less c.args.prime (pos (c.args.number % c.args.prime)) (pos c.args.number) (congruent-mod c.args.prime c.args.number) in
    (h.0, omega (arith, ints, h.1))
