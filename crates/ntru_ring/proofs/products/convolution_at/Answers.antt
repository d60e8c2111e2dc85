use Rattle.std.proofs.Common.{◌≡◌, ℕ, ℤ, ◌+◌, ◌-◌, ◌+ℤ◌, to_z, of_z, w16, w64, sym, ◌∙◌, ap, arith, min}
use Rattle.std.proofs.lemmas.Int.{ints}
use Rattle.ntru_ring.specs.Centring.{IsWithin}
use Rattle.ntru_ring.specs.Polynomials.{coefficient}
use Rattle.ntru_ring.specs.Product.{sum_below}
use Rattle.ntru_ring.proofs.Lists.{zero_within}
use Rattle.ntru_ring.proofs.Sums.{pair_at, sum_below_more, start_is_zero, end_is_whole}
use Rattle.ntru_ring.proofs.products.convolution_at.Goals as goal

pub loop-i-init : goal.loop-i-init
loop-i-init c = (sym (start_is_zero c.args.a.now c.args.b.now c.args.place c.saturating_sub-start.result c.requires.right (omega arith)), zero_within _)

pub loop-i-preserved : goal.loop-i-preserved
loop-i-preserved c =
    let term : ℕ → ℤ = pair_at c.args.a.now c.args.b.now c.args.place in
    let more : sum_below (c.loop-i.i + 1) term ≡ sum_below c.loop-i.i term +ℤ term c.loop-i.i = sum_below_more c.loop-i.i term in
    let value : c.multiplied-sum.result ≡ term c.loop-i.i =
    let left : to_z w16 (of_z w16 (coefficient c.args.a.now c.loop-i.i)) ≡ coefficient c.args.a.now c.loop-i.i = omega (arith, ints, c.requires.left.in_range c.loop-i.i) in
    let right : to_z w16 (of_z w16 (coefficient c.args.b.now (c.args.place - c.loop-i.i))) ≡ coefficient c.args.b.now (c.args.place - c.loop-i.i) = omega (arith, ints, c.requires.right.in_range (c.args.place - c.loop-i.i)) in
    cc (c.multiplied-sum.ensures.value) in
    let step : to_z w64 (of_z w64 (to_z w64 c.loop-i.sum-bits +ℤ to_z w64 (of_z w64 c.multiplied-sum.result))) ≡ c.loop-i.sum +ℤ c.multiplied-sum.result = omega (arith, ints) in
    let here : IsWithin 5267025 c.multiplied-sum.result = c.multiplied-sum.ensures.small in
    let total : c.loop-i.sum +ℤ c.multiplied-sum.result ≡ sum_below (c.loop-i.i + 1) term = cc in
    rw step (total, record { low = omega (arith, ints, c.loop-i.invariant.1.low, here.low); high = omega (arith, ints, c.loop-i.invariant.1.high, here.high) })

pub returns-clause-value : goal.returns-clause-value
returns-clause-value c =
    let at_end : c.loop-i.i ≡ min (c.args.place + 1) 761 = omega arith in
    c.loop-i.invariant.0 ∙ ap (λ n. sum_below n (pair_at c.args.a.now c.args.b.now c.args.place)) at_end ∙ end_is_whole c.args.a.now c.args.b.now c.args.place c.requires.left
