use Rattle.std.proofs.Common.{◌≡◌, ℕ, ◌+◌, ◌/◌, ◌<◌, ◌≤◌, arith, sym, ap, subst, List, length}
use Rattle.ntru_ring.specs.Polynomials.{coefficient}
use Rattle.field_solve.specs.Answers.{IsDivisor, IsInverse}
use Rattle.field_solve.specs.Elimination.{AreCombined, AreRows, Divides, Inverts, IsPivot}
use Rattle.field_solve.specs.declared.rows.Row.{Row}
use Rattle.field_solve.proofs.Primes.{prime_bounds}
use Rattle.field_solve.proofs.Laws.{never_both, one_inverse}
use Rattle.field_solve.proofs.Products.{StandsFor, product-inverse, divisor_of}
use Rattle.field_solve.proofs.Progress.{Progress-none, Progress-all}
use Rattle.field_solve.proofs.elimination.invert.Goals as goal

pub loop-init : goal.loop-init
loop-init c = record {
  progress = Progress-none c.prime_of-prime.result c.args.poly.now c.in_ok-columns.columns.items c.new-rows.result.items c.in_ok-columns.ensures.whole c.in_ok-columns.ensures.each c.new-rows.ensures.items;
  count = ap length c.new-rows.ensures.items;
}

pub add_row-requires-clause-progress : goal.add_row-requires-clause-progress
add_row-requires-clause-progress c = c.loop.invariant.progress

pub add_row-requires-clause-unfinished : goal.add_row-requires-clause-unfinished
add_row-requires-clause-unfinished c = omega (arith, c.loop.invariant.count)

pub returns-in-Some-clause-divisor : goal.returns-in-Some-clause-divisor
returns-in-Some-clause-divisor c =
    let p = c.prime_of-prime.result in
    let poly = c.args.poly.now in
    let b = prime_bounds c.args.modulus in
    let numbers = c.deref-in-Some.result.now in
    let v = c.in_ok-polynomial-in-Some.field-0.items in
    let divides = rw c.in-Some.is at c.in_ok-add_row.ensures.divisor in
    let short : length c.in-Some.combination.items ≤ 761 = rw c.in-Some.is at c.in_ok-add_row.ensures.short in
    let seen = c.deref-in-Some.ensures.value in
    let stands : StandsFor p v numbers = record {
      whole = c.in_ok-polynomial-in-Some.ensures.whole.whole;
      short = omega (arith, ap length seen);
      at = c.in_ok-polynomial-in-Some.ensures.congruent;
    } in
    let small : 1 + p / 2 < p = omega (arith, c.prime_of-prime.ensures) in
    subst (λ (q : ℕ). IsDivisor q poly v) c.prime_of-prime.ensures
    (divisor_of p poly v numbers small c.in_ok-polynomial-in-Some.ensures.whole stands (subst (Divides p poly) (sym seen) divides))

pub returns-in-Some-clause-no_inverse : goal.returns-in-Some-clause-no_inverse
returns-in-Some-clause-no_inverse c = λ w inverse. absurd (never_both c.args.modulus c.args.poly.now w c.in_ok-polynomial-in-Some.field-0.items c.requires inverse (returns-in-Some-clause-divisor c))

pub loop-preserved : goal.loop-preserved
loop-preserved c =
    let one_more : length c.add_row.new.rows.items ≡ length c.loop.rows.items + 1 = rw c.in-None.is at c.in_ok-add_row.ensures.one_more in
    record {
      progress = rw c.in-None.is at c.in_ok-add_row.ensures.progress;
      count = omega (arith, one_more, c.loop.invariant.count);
    }

pub inverse_by-requires-clause-rows : goal.inverse_by-requires-clause-rows
inverse_by-requires-clause-rows c = subst AreRows (sym c.deref-2.ensures.value) c.loop.invariant.progress.rows_hold

pub inverse_by-requires-clause-all : goal.inverse_by-requires-clause-all
inverse_by-requires-clause-all c = omega (arith, ap length c.deref-2.ensures.value, c.loop.invariant.count)

pub inverse_by-requires-clause-pivots : goal.inverse_by-requires-clause-pivots
inverse_by-requires-clause-pivots c =
    let all : length c.loop.rows.items ≡ 761 = omega (arith, c.loop.invariant.count) in
    subst (λ (l : List Row). (column : ℕ) → column < 761 → IsPivot l column) (sym c.deref-2.ensures.value)
    (Progress-all c.prime_of-prime.result c.args.poly.now c.loop.columns.items c.loop.rows.items c.loop.invariant.progress all)

pub returns-clause-inverse : goal.returns-clause-inverse
returns-clause-inverse c =
    let p = c.prime_of-prime.result in
    let poly = c.args.poly.now in
    let b = prime_bounds c.args.modulus in
    let numbers = c.deref-3.result.now in
    let u = c.in_ok-polynomial.field-0.items in
    let seen = c.deref-3.ensures.value in
    let combined = subst (AreCombined p (coefficient poly)) (sym c.deref-2.ensures.value) c.loop.invariant.progress.combined in
    let inverts = c.in_ok-combination.ensures.inverse (coefficient poly) combined in
    let stands : StandsFor p u numbers = record {
      whole = c.in_ok-polynomial.ensures.whole.whole;
      short = omega (arith, ap length seen, c.in_ok-combination.ensures.short);
      at = c.in_ok-polynomial.ensures.congruent;
    } in
    let small : 1 + p / 2 < p = omega (arith, c.prime_of-prime.ensures) in
    subst (λ (q : ℕ). IsInverse q poly u) c.prime_of-prime.ensures
    (record { in_range = c.in_ok-polynomial.ensures.whole; product_is_one = product-inverse p poly u numbers small stands (subst (Inverts p (coefficient poly)) (sym seen) inverts) })

pub returns-clause-only_inverse : goal.returns-clause-only_inverse
returns-clause-only_inverse c = λ w inverse. one_inverse c.args.modulus c.args.poly.now c.in_ok-polynomial.field-0.items w c.requires (returns-clause-inverse c) inverse

pub returns-clause-no_divisor : goal.returns-clause-no_divisor
returns-clause-no_divisor c = λ w divisor. never_both c.args.modulus c.args.poly.now c.in_ok-polynomial.field-0.items w c.requires (returns-clause-inverse c) divisor
