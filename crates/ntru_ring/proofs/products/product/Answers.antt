use Rattle.std.proofs.Common.{◌≡◌, ℕ, ℤ, ◌+◌, ◌*◌, ◌∷◌, [], ◌++◌, length, sym, ◌∙◌, ap, to_z, of_z, w16, w64, arith}
use Rattle.std.proofs.lemmas.Int.{ints}
use Rattle.ntru_ring.specs.Centring.{centred}
use Rattle.ntru_ring.specs.Polynomials.{coefficient, coefficients}
use Rattle.ntru_ring.specs.Product.{folded, product, ring_coefficient}
use Rattle.ntru_ring.proofs.Ring.{coefficients_none, coefficients_more, length-coefficients, folded_plain}
use Rattle.ntru_ring.proofs.products.product.Goals as goal

pub loop-place-init : goal.loop-place-init
loop-place-init c = c.in_ok-coefficients.ensures.items ∙ sym (coefficients_none _)

pub folded-requires-clause-whole : goal.folded-requires-clause-whole
folded-requires-clause-whole c = ap length (c.deref.ensures.value ∙ c.in_ok-plain.ensures.value) ∙ length-coefficients 1522 _

pub loop-place-preserved : goal.loop-place-preserved
loop-place-preserved c =
    let at : ℕ → ℤ = λ place. centred (2 * c.args.half + 1) (ring_coefficient c.args.a.now c.args.b.now place) in
    let place : ℕ = c.loop-place.place in
    let plain = c.deref.ensures.value ∙ c.in_ok-plain.ensures.value in
    let fold : c.folded.result ≡ ring_coefficient c.args.a.now c.args.b.now place =
    c.folded.ensures.value ∙ ap (λ xs. folded (coefficient xs) place) plain ∙ folded_plain c.args.a.now c.args.b.now place c.loop-place-test.true in
    let wide : to_z w64 (of_z w64 c.folded.result) ≡ c.folded.result = omega (arith, ints) in
    let narrow : to_z w16 (of_z w16 c.centred.result) ≡ c.centred.result = omega (arith, ints) in
    let value : c.centred.result ≡ at place = c.centred.ensures.value ∙ ap (centred (2 * c.args.half + 1)) (wide ∙ fold) in
    let items : c.push.new.self.items ≡ c.loop-place.coefficients.items ++ c.centred.result ∷ [] = rw narrow at c.in_ok-push.ensures.items in
    items ∙ ap (λ xs. xs ++ c.centred.result ∷ []) c.loop-place.invariant ∙ ap (λ x. coefficients place at ++ x ∷ []) value ∙ sym (coefficients_more place at)

pub returns : goal.returns
unfolding product
returns c =
    let at_end : c.loop-place.place ≡ 761 = omega arith in
    c.loop-place.invariant ∙ ap (λ n. coefficients n (λ place. centred (2 * c.args.half + 1) (ring_coefficient c.args.a.now c.args.b.now place))) at_end
