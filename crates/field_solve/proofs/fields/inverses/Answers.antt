use Rattle.std.proofs.Common.{◌≡◌, ℕ, ◌*◌, ◌/◌, ◌%◌, ◌-◌, ◌<◌, ◌≤◌, arith, sym, ap, subst, ◌∙◌, slice_index}
use Rattle.std.proofs.lemmas.Grind.{common_steps}
use Rattle.std.proofs.lemmas.List.{get_or_read}
use Rattle.std.proofs.lemmas.Nat.{mod_below}
use Rattle.field_solve.proofs.Lists.{holds_at_push}
use Rattle.field_solve.proofs.Primes.{prime_bounds, product_below, inverse_next, remainder_positive}
use Rattle.field_solve.proofs.fields.inverses.Goals as goal

pub overflow_mul-prime : goal.overflow_mul-prime
overflow_mul-prime c =
    let p = c.prime_of-prime.result in
    let n = c.loop-number.number in
    let table = c.loop-number.table.items in
    let b = prime_bounds c.args.modulus in
    let i = c.loop-number.invariant in
    let low : 2 ≤ n = omega arith in
    let at : p % n < n = mod_below p n (omega arith) in
    let rest : c.index-rest.result.now ≡ slice_index table (p % n) = get_or_read table _ _ (omega arith) c.index-rest.ensures 0 in
    let small : c.index-rest.result.now < p = omega (arith, i.below (p % n) at) in
    omega (arith, product_below (p / n) c.index-rest.result.now (omega arith) (omega arith))

pub loop-number-preserved : goal.loop-number-preserved
loop-number-preserved c =
    let p = c.prime_of-prime.result in
    let n = c.loop-number.number in
    let table = c.loop-number.table.items in
    let b = prime_bounds c.args.modulus in
    let i = c.loop-number.invariant in
    let t = c.index-rest.result.now in
    let low : 2 ≤ n = omega arith in
    let at : p % n < n = mod_below p n (omega arith) in
    let rest : t ≡ slice_index table (p % n) = get_or_read table _ _ (omega arith) c.index-rest.ensures 0 in
    let e = c.in_ok-push-3.ensures.items in
    let v = (p - p / n * t % p) % p in
    let some : 0 < p % n = subst (λ (x : ℕ). 0 < x % n) (sym c.prime_of-prime.ensures) (remainder_positive c.args.modulus n low (omega arith)) in
    let known : (p % n) * t % p ≡ 1 = ap (λ (x : ℕ). (p % n) * x % p) rest ∙ i.product (p % n) at some in
    record {
      whole = grind (arith, common_steps);
      below = holds_at_push (λ (k x : ℕ). x < p) table c.push-in-loop-number.new.self.items v 0 n e i.whole i.below (mod_below (p - p / n * t % p) p (omega arith));
      product = holds_at_push (λ (k x : ℕ). 0 < k → k * x % p ≡ 1) table c.push-in-loop-number.new.self.items v 0 n e i.whole i.product (λ _. inverse_next p n t (omega arith) known);
    }
