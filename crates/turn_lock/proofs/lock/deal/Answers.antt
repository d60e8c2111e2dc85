use Rattle.std.proofs.Common.{◌+◌, ◌-◌, ◌∷◌, [], ◌++◌, ◌≡◌, map, ap, ◌∙◌, sym, arith}
use Rattle.std.specs.List.{range_with_len}
use Rattle.std.proofs.lemmas.List.FromFn.{map-range_with_len_more}
use Rattle.turn_lock.specs.Seen.{new_pass}
use Rattle.turn_lock.proofs.lock.deal.Goals as goal

pub loop-number-preserved : goal.loop-number-preserved
loop-number-preserved g c =
    let before = c.loop-number.invariant in
    let pass = new_pass c.args.lock.now in
    let n = c.loop-number.number in
    let low = c.loop-number.auto.number in
    let count : (n + 1) - 1 ≡ (n - 1) + 1 = omega arith in
    let more = map-range_with_len_more pass 1 (n - 1) n (omega arith) in
    let push = c.push_reserved.ensures in (
      c.next_pass.ensures.first,
      push.items ∙ ((λ i. before.1 i ++ c.next_pass.ensures.pass i ∷ []) ∙ (sym more ∙ ap (λ k. map pass (range_with_len 1 k)) (sym count))),
      (let same = push.capacity in omega (arith, before.2)),
      (let l = push.len in omega (arith, before.3)),
    )
