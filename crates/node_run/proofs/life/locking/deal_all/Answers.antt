use Rattle.std.proofs.Common.{◌∷◌, ◌++◌, [], List, length, ap, sym, subst, ◌∙◌, arith}
use Rattle.std.specs.Vec.Iter.{into_iter_items}
use Rattle.std.proofs.lemmas.List.{length-map, map-append}
use Rattle.std.proofs.lemmas.List.FromFn.{length-map-range_with_len}
use Rattle.mix_shard.specs.declared.entries.Told.{Told}
use Rattle.turn_lock.specs.Seen.{Caller, Lock, new_pass, new_passes}
use Rattle.node_run.specs.Openings.{IsMade}
use Rattle.node_run.proofs.Filling.{AreFilled, have_room, one_more_filled}
use Rattle.node_run.proofs.Moving.{fewer_met, is_middle, one_further}
use Rattle.node_run.proofs.life.locking.deal_all.Goals as goal

pub deal-requires-clause-many : goal.deal-requires-clause-many
deal-requires-clause-many g c =
    let n = length c.args.hands.items in
    let next = c.loop-one.invariant.left ∙ ap (λ xs. c.loop-one.yielded ++ xs) c.in-Some.ensures.steps.0 in
    let made = is_middle (IsMade n) c.args.made.items c.loop-one.yielded (into_iter_items c.next.new.self) c.in-Some.one next c.requires.made in
    ap (λ (ps : List (Caller Told)). length ps) made.passes
    ∙ (length-map-range_with_len (new_pass c.in-Some.one.lock) 0 c.in-Some.one.lock.callers
    ∙ (made.quiet.many ∙ sym c.loop-one.invariant.hands.many))

pub deal-requires-clause-room : goal.deal-requires-clause-room
deal-requires-clause-room g c =
    let next = c.loop-one.invariant.left ∙ ap (λ xs. c.loop-one.yielded ++ xs) c.in-Some.ensures.steps.0 in
    let few = fewer_met c.args.made.items c.loop-one.yielded (into_iter_items c.next.new.self) c.in-Some.one next in
    let count = ap (λ (ls : List (Lock Told)). length ls) c.loop-one.invariant.locks ∙ length-map c.loop-one.yielded (λ one. one.lock) in
    have_room c.loop-one.locks.items (length c.args.hands.items) (length c.args.made.items) c.loop-one.hands.items c.loop-one.invariant.hands (omega arith)

pub loop-one-preserved : goal.loop-one-preserved
loop-one-preserved g c =
    let before = c.loop-one.invariant in
    let more = c.push_reserved.ensures in
    let n = length c.args.hands.items in
    let lock = c.in-Some.one.lock in
    let next = before.left ∙ ap (λ xs. c.loop-one.yielded ++ xs) c.in-Some.ensures.steps.0 in
    let made = is_middle (IsMade n) c.args.made.items c.loop-one.yielded (into_iter_items c.next.new.self) c.in-Some.one next c.requires.made in
    let passes = made.passes ∙ ap (λ k. new_passes lock k) made.quiet.many in
    record {
      left = one_further c.args.made.items c.loop-one.yielded (into_iter_items c.loop-one.one-iterator) (into_iter_items c.next.new.self) c.in-Some.one before.left c.in-Some.ensures.steps.0;
      locks = more.items ∙ (ap (λ (ls : List (Lock Told)). ls ++ lock ∷ []) before.locks ∙ sym (map-append (λ one. one.lock) c.loop-one.yielded (c.in-Some.one ∷ [])));
      room = more.capacity ∙ before.room;
      hands = subst (λ (ls : List (Lock Told)). AreFilled ls n (length c.args.made.items) c.deal.new.hands.items) (sym more.items)
          (one_more_filled c.loop-one.locks.items n (length c.args.made.items) c.loop-one.hands.items c.deal.new.hands.items lock c.in-Some.one.passes.items before.hands passes c.deal.ensures);
    }
