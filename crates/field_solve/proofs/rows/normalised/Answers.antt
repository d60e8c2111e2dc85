use Rattle.std.proofs.Common.{◌≡◌, ℕ, ◌*◌, ◌%◌, ◌<◌, arith, ap, ◌∙◌, slice_index}
use Rattle.std.proofs.Math.Nat.{mul_comm}
use Rattle.std.proofs.lemmas.Nat.{mod_below}
use Rattle.field_solve.proofs.Steps.{Combines-scaled}
use Rattle.field_solve.proofs.rows.normalised.Goals as goal

pub returns-clause-form : goal.returns-clause-form
returns-clause-form c =
    let p = c.args.prime in
    let pivot = c.args.pivot in
    let table = c.args.inverses.now in
    let s = slice_index c.args.sums.now pivot in
    let factor = slice_index table (s % c.from.result) in
    let e = c.in_ok-entries.ensures in
    let f = c.in_ok-combination.ensures in
    let some : 0 < s % p = omega arith in
    let same : factor ≡ slice_index table (s % p) = ap (λ (x : ℕ). slice_index table (s % x)) c.from.ensures in
    let one : s % p * slice_index table (s % p) % p ≡ 1 = c.requires.table.product (s % p) some (mod_below s p c.requires.positive) in
    λ place short. record {
      whole = e.whole ∙ c.requires.whole;
      small = record { below = λ k. omega (arith, e.values k, mod_below (factor * (slice_index c.args.sums.now k % p)) p c.requires.positive) };
      short = omega (arith, f.whole);
      small_combination = record { below = λ k. omega (arith, f.values k, mod_below (factor * (slice_index c.args.combination.now k % p)) p c.requires.positive) };
      pivot_within = c.requires.within;
      one = e.values pivot ∙ ap (λ (x : ℕ). x * (s % p) % p) same ∙ ap (λ (x : ℕ). x % p) (mul_comm (slice_index table (s % p)) (s % p)) ∙ one;
    }

pub returns-clause-combined : goal.returns-clause-combined
returns-clause-combined c =
    let factor = slice_index c.args.inverses.now (slice_index c.args.sums.now c.args.pivot % c.from.result) in
    λ poly before. Combines-scaled c.args.prime poly c.args.combination.now c.args.sums.now c.in_ok-combination.combination.items c.in_ok-entries.entries.items factor
    (λ place. c.in_ok-combination.ensures.values place) (λ place. c.in_ok-entries.ensures.values place) before
