use Rattle.std.proofs.Common.{◌≡◌, ◌+◌, ◌∷◌, ◌++◌, [], ℕ, List, drop, length, sym, ap, subst, ◌∙◌, arith}
use Rattle.std.specs.Vec.Iter.{into_iter_items}
use Rattle.std.proofs.lemmas.List.{length_push}
use Rattle.node_run.proofs.Walking.{are_left, is_next}
use Rattle.node_run.proofs.Weaving.{AreWovenBelow, all_woven, one_more_woven}
use Rattle.node_run.proofs.life.posts.weave.Goals as goal

pub loop-even-preserved : goal.loop-even-preserved
loop-even-preserved g c =
    let before = c.loop-even.invariant in
    let n = length c.loop-even.yielded in
    let next : c.in-Some.even ∷ into_iter_items c.next.new.self ≡ drop n c.args.evens.items = sym c.in-Some.ensures.steps.0 ∙ before.evens_left in
    let other : c.in-Some-next.odd ∷ into_iter_items c.next-in-loop-even.new.self ≡ drop n c.args.odds.items = sym c.in-Some-next.ensures.items ∙ before.odds_left in
    let more : n + 1 ≡ length (c.loop-even.yielded ++ c.in-Some.even ∷ []) = sym (length_push c.loop-even.yielded c.in-Some.even) in
    let items : (c.loop-even.woven.items ++ c.in-Some.even ∷ []) ++ c.in-Some-next.odd ∷ [] ≡ c.push-in-loop-even.new.self.items =
    sym (c.in_ok-push-2.ensures.items ∙ ap (λ (xs : List g.row.T.Denot). xs ++ c.in-Some-next.odd ∷ []) c.in_ok-push.ensures.items) in
    record {
      evens_left = are_left c.args.evens.items n c.in-Some.even (into_iter_items c.next.new.self) next ∙ ap (λ (k : ℕ). drop k c.args.evens.items) more;
      count = (let a = before.count in let b = c.in-Some.ensures.steps.1 in omega arith);
      odds_left = are_left c.args.odds.items n c.in-Some-next.odd (into_iter_items c.next-in-loop-even.new.self) other ∙ ap (λ (k : ℕ). drop k c.args.odds.items) more;
      woven = subst (λ (k : ℕ). AreWovenBelow c.args.evens.items c.args.odds.items c.push-in-loop-even.new.self.items k) more
          (subst (λ (xs : List g.row.T.Denot). AreWovenBelow c.args.evens.items c.args.odds.items xs (n + 1)) items
          (one_more_woven c.args.evens.items c.args.odds.items c.loop-even.woven.items n c.in-Some.even c.in-Some-next.odd before.woven
          (is_next c.args.evens.items n c.in-Some.even (into_iter_items c.next.new.self) next)
          (is_next c.args.odds.items n c.in-Some-next.odd (into_iter_items c.next-in-loop-even.new.self) other)));
    }

pub returns : goal.returns
returns g c =
    let before = c.loop-even.invariant in
    let end = c.in-None.ensures.steps in
    all_woven c.args.evens.items c.args.odds.items c.loop-even.woven.items (length c.loop-even.yielded) before.woven (let a = before.count in let b = end.0 in omega arith)
