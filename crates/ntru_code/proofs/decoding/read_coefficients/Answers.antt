use Rattle.std.proofs.Common.{◌≡◌, ℕ, ℤ, ◌*◌, ◌<◌, pos, ◌-ℤ◌, ◌∷◌, [], ◌++◌, length, sym, ◌∙◌, ap, subst, to_z, of_z, w16, arith, below_more}
use Rattle.std.proofs.lemmas.Int.{ints}
use Rattle.ntru_ring.specs.Polynomials.{coefficients}
use Rattle.ntru_ring.proofs.Lists.{zero_within}
use Rattle.ntru_ring.proofs.Ring.{coefficients_none, coefficients_more, length-coefficients, push_within}
use Rattle.ntru_code.specs.Forms.{field_in, bound_at, values}
use Rattle.ntru_code.proofs.Spelled.{bound_inside}
use Rattle.ntru_code.proofs.decoding.read_coefficients.Goals as goal

pub loop-place-init : goal.loop-place-init
loop-place-init c =
    record {
      items = c.in_ok-list.ensures.items ∙ sym (coefficients_none _);
      within = rw c.in_ok-list.ensures.items (λ k. zero_within 2295);
      below = λ k none. absurd (omega arith);
    }

pub coefficient-requires-clause-below : goal.coefficient-requires-clause-below
coefficient-requires-clause-below c =
    omega (arith, c.in_ok-field.ensures.below, bound_inside c.args.form.now c.loop-place.place c.loop-place-test.true)

pub loop-place-preserved : goal.loop-place-preserved
loop-place-preserved c =
    let place : ℕ = c.loop-place.place in
    let at : ℕ → ℤ = λ k. pos (c.args.form.now.step * field_in c.args.form.now c.args.bytes.now k) -ℤ pos c.args.form.now.lowest in
    let kept : to_z w16 (of_z w16 c.coefficient.result) ≡ c.coefficient.result = omega (arith, ints, c.coefficient.ensures.near) in
    let items : c.push.new.self.items ≡ c.loop-place.list.items ++ c.coefficient.result ∷ [] = rw kept at c.in_ok-push.ensures.items in
    let value : c.coefficient.result ≡ at place = c.coefficient.ensures.value ∙ ap (λ n. pos (c.args.form.now.step * n) -ℤ pos c.args.form.now.lowest) c.in_ok-field.ensures.value in
    let here : field_in c.args.form.now c.args.bytes.now place < bound_at c.args.form.now place = subst (λ n. n < bound_at c.args.form.now place) c.in_ok-field.ensures.value c.in_ok-field.ensures.below in
    record {
      items = items ∙ ap (λ xs. xs ++ c.coefficient.result ∷ []) c.loop-place.invariant.items ∙ ap (λ x. coefficients place at ++ x ∷ []) value ∙ sym (coefficients_more place at);
      within = rw items (push_within 2295 c.loop-place.list.items c.coefficient.result c.loop-place.invariant.within c.coefficient.ensures.near);
      below = below_more (λ k. field_in c.args.form.now c.args.bytes.now k < bound_at c.args.form.now k) place c.loop-place.invariant.below here;
    }

pub returns-clause-value : goal.returns-clause-value
unfolding values
returns-clause-value c =
    let at_end : c.loop-place.place ≡ 761 = omega arith in
    c.loop-place.invariant.items ∙ ap (λ n. coefficients n (λ k. pos (c.args.form.now.step * field_in c.args.form.now c.args.bytes.now k) -ℤ pos c.args.form.now.lowest)) at_end

pub returns-clause-polynomial : goal.returns-clause-polynomial
returns-clause-polynomial c =
    let at_end : c.loop-place.place ≡ 761 = omega arith in
    record { whole = ap length c.loop-place.invariant.items ∙ length-coefficients c.loop-place.place _ ∙ at_end; in_range = c.loop-place.invariant.within }
