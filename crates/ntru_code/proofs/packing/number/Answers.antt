use Rattle.std.proofs.Common.{ℕ, ◌+◌, ◌-◌, ◌*◌, sym, ap, ◌∙◌, arith}
use Rattle.ntru_code.proofs.Digits.{number_end, number_before, number_fits}
use Rattle.ntru_code.proofs.packing.number.Goals as goal

pub loop-place-init : goal.loop-place-init
loop-place-init g c = (omega arith, c.digit-value.ensures ∙ sym (number_end c.args.base (g.D.Digits.at c.args.digits.now) (c.args.start + c.args.last) (c.args.last - c.args.last) (omega arith)))

pub overflow_mul-value : goal.overflow_mul-value
overflow_mul-value g c =
    let f : ℕ → ℕ = g.D.Digits.at c.args.digits.now in
    let step = number_before c.args.base f c.args.start c.args.last c.loop-place.place c.loop-place.invariant.0 c.loop-place-test.true in
    let whole = number_fits c.args.base f c.requires.small (c.args.last - (c.loop-place.place - 1)) (c.args.start + (c.loop-place.place - 1)) c.args.last (omega arith) c.requires.fits in
    omega (arith, step, whole, ap (λ n. n * c.args.base) c.loop-place.invariant.1)

pub overflow_add-value : goal.overflow_add-value
overflow_add-value g c =
    let f : ℕ → ℕ = g.D.Digits.at c.args.digits.now in
    let step = number_before c.args.base f c.args.start c.args.last c.loop-place.place c.loop-place.invariant.0 c.loop-place-test.true in
    let whole = number_fits c.args.base f c.requires.small (c.args.last - (c.loop-place.place - 1)) (c.args.start + (c.loop-place.place - 1)) c.args.last (omega arith) c.requires.fits in
    omega (arith, step, whole, c.digit.ensures, ap (λ n. n * c.args.base) c.loop-place.invariant.1)

pub loop-place-preserved : goal.loop-place-preserved
loop-place-preserved g c =
    let f : ℕ → ℕ = g.D.Digits.at c.args.digits.now in
    let step = number_before c.args.base f c.args.start c.args.last c.loop-place.place c.loop-place.invariant.0 c.loop-place-test.true in
    (omega (arith, c.loop-place.invariant.0), omega (arith, step, c.digit.ensures, ap (λ n. n * c.args.base) c.loop-place.invariant.1))
