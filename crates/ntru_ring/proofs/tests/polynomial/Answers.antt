use Rattle.std.proofs.Common.{◌≡◌, ◌∷◌, [], ◌++◌, length, length-append, ap, ◌∙◌, arith, to_z, of_z, w16}
use Rattle.std.proofs.lemmas.Int.{ints}
use Rattle.ntru_ring.proofs.Lists.{zero_within}
use Rattle.ntru_ring.proofs.Ring.{push_within}
use Rattle.ntru_ring.proofs.tests.polynomial.Goals as goal

pub loop-place-init : goal.loop-place-init
loop-place-init c = (ap length c.in_ok-list.ensures.items, rw c.in_ok-list.ensures.items (λ k. zero_within 2295))

pub loop-place-preserved : goal.loop-place-preserved
loop-place-preserved c =
    let kept : to_z w16 (of_z w16 c.bounded.result) ≡ c.bounded.result = omega (arith, ints, c.bounded.ensures) in
    let items : c.push.new.self.items ≡ c.loop-place.list.items ++ c.bounded.result ∷ [] = rw kept at c.in_ok-push.ensures.items in
    (rw (items, length-append) (omega (arith, c.loop-place.invariant.0)), rw items (push_within 2295 c.loop-place.list.items c.bounded.result c.loop-place.invariant.1 c.bounded.ensures))

pub from_list-requires : goal.from_list-requires
from_list-requires c =
    let at_end : c.loop-place.place ≡ 761 = omega arith in
    rw c.deref.ensures.value (record { whole = c.loop-place.invariant.0 ∙ at_end; in_range = c.loop-place.invariant.1 })
