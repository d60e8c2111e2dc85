use Rattle.std.proofs.Common.{◌≡◌, ℕ, ℤ, ◌+◌, ◌+ℤ◌, ◌<◌, ap, ◌∙◌, arith}
use Rattle.std.proofs.lemmas.Int.{ints}
use Rattle.ntru_ring.specs.Polynomials.{coefficient}
use Rattle.ntru_ring.specs.Product.{folded}
use Rattle.ntru_ring.proofs.Ring.{folded_zero, folded_above}
use Rattle.ntru_ring.proofs.products.folded.Goals as goal

pub returns-then-place-eq0-clause-value : goal.returns-then-place-eq0-clause-value
returns-then-place-eq0-clause-value c =
    let f : ℕ → ℤ = coefficient c.args.plain.now in
    let is : folded f c.args.place ≡ f 0 +ℤ f 761 = ap (folded f) c.if-place-eq0.true ∙ folded_zero f in
    omega (arith, ints, is, c.requires.small 0, c.requires.small 761)

pub returns-else-place-eq0-clause-value : goal.returns-else-place-eq0-clause-value
returns-else-place-eq0-clause-value c =
    let f : ℕ → ℤ = coefficient c.args.plain.now in
    let above : 0 < c.args.place = omega arith in
    let is : folded f c.args.place ≡ f c.args.place +ℤ f (761 + c.args.place) +ℤ f (760 + c.args.place) = folded_above f c.args.place above in
    omega (arith, ints, is, c.requires.small c.args.place, c.requires.small (761 + c.args.place), c.requires.small (760 + c.args.place))

pub returns-else-place-eq0-clause-small : goal.returns-else-place-eq0-clause-small
returns-else-place-eq0-clause-small c =
    record {
      low = omega (arith, ints, c.requires.small c.args.place, c.requires.small (761 + c.args.place), c.requires.small (760 + c.args.place));
      high = omega (arith, ints, c.requires.small c.args.place, c.requires.small (761 + c.args.place), c.requires.small (760 + c.args.place));
    }
