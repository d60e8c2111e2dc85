use Rattle.std.proofs.Common.{◌≡◌, ℕ, ℤ, ◌∷◌, [], ◌++◌, sym, ◌∙◌, ap, to_z, of_z, w64, arith}
use Rattle.std.proofs.lemmas.Int.{ints}
use Rattle.ntru_ring.specs.Polynomials.{coefficient, coefficients}
use Rattle.ntru_ring.specs.Product.{convolution}
use Rattle.ntru_ring.proofs.Lists.{zero_within}
use Rattle.ntru_ring.proofs.Ring.{coefficients_none, coefficients_more, push_within}
use Rattle.ntru_ring.proofs.products.convolution.Goals as goal

pub loop-place-init : goal.loop-place-init
loop-place-init c = (c.in_ok-plain.ensures.items ∙ sym (coefficients_none _), rw c.in_ok-plain.ensures.items (λ k. zero_within 4008206025))

pub loop-place-preserved : goal.loop-place-preserved
loop-place-preserved c =
    let at : ℕ → ℤ = convolution (coefficient c.args.a.now) (coefficient c.args.b.now) in
    let before = c.loop-place.invariant in
    let items : c.push.new.self.items ≡ c.loop-place.plain.items ++ c.convolution_at.result ∷ [] =
    let kept : to_z w64 (of_z w64 c.convolution_at.result) ≡ c.convolution_at.result = omega (arith, ints) in
    rw kept at c.in_ok-push.ensures.items in (
      items ∙ ap (λ xs. xs ++ c.convolution_at.result ∷ []) before.0 ∙ ap (λ x. coefficients c.loop-place.place at ++ x ∷ []) c.convolution_at.ensures.value ∙ sym (coefficients_more c.loop-place.place at),
      rw items (push_within 4008206025 c.loop-place.plain.items c.convolution_at.result before.1 c.convolution_at.ensures.small),
    )
