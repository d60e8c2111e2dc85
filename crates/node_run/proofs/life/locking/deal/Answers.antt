use Rattle.std.proofs.Common.{rules, sym, ◌∙◌}
use Rattle.std.specs.Vec.Iter.{into_iter_items}
use Rattle.std.proofs.lemmas.Option.{slice_get_within}
use Rattle.node_run.proofs.Dealing.{one_more_dealt}
use Rattle.node_run.proofs.Walking.{are_left, is_next}
use Rattle.node_run.proofs.life.locking.deal.Goals as goal

pub loop-place-preserved : goal.loop-place-preserved
loop-place-preserved g c =
    let next = sym c.in-Some.ensures.items ∙ c.loop-place.invariant.left in
    let at = is_next c.args.cards.items c.loop-place.place c.in-Some.card (into_iter_items c.next.new.self) next in
    let more = c.push_reserved.ensures in
    record {
      left = are_left c.args.cards.items c.loop-place.place c.in-Some.card (into_iter_items c.next.new.self) next;
      dealt = one_more_dealt c.args.cards.items c.args.hands.now.items c.loop-place.hands.items c.loop-place.place c.in-Some.card c.index_mut.result.now c.push_reserved.new.self
          c.loop-place.invariant.dealt (search rules) at (search rules) (record { items = more.items; len = more.len; room = more.capacity });
    }

pub returns : goal.returns
returns g c =
    let dealt = c.loop-place.invariant.dealt in
    record {
      many = dealt.many;
      each = λ i card was is card_at was_at is_at.
          let few = slice_get_within c.loop-place.hands.items i is is_at in
          let many = c.len-place-end.ensures in
          let end = c.loop-place-test.false in
          dealt.dealt i card was is (search rules) card_at was_at is_at;
    }
