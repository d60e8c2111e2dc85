use Rattle.std.proofs.Common.{◌≡◌, List, [], ◌∷◌, ◌++◌, length, map, sym, ap, ◌∙◌, subst, refl, arith, append_assoc}
use Rattle.std.specs.Global.{Vec}
use Rattle.std.specs.Vec.Iter.{into_iter_items}
use Rattle.std.proofs.lemmas.List.{append-nil, length-map, map-append}
use Rattle.node_run.specs.Closings.{AreColumns}
use Rattle.node_run.proofs.Columns.{all_middle, columns_more, columns_start, room_more, room_next, room_start, with_rest}
use Rattle.node_run.proofs.Yielding.{count_first, count_next, nothing_left}
use Rattle.node_run.proofs.life.unused.turn_round.Goals as goal

pub loop-hand-init : goal.loop-hand-init
loop-hand-init g c = record {
  whole = c.into_iter-hand-iterator.ensures.into_iter_gives.0;
  count = count_first c.into_iter-hand-iterator.result c.args.hands c.into_iter-hand-iterator.ensures.into_iter_gives.0
      c.into_iter-hand-iterator.ensures.into_iter_gives.1;
  many = refl;
  columns = columns_start (length c.args.hands.items) c.args.lists.items c.requires.lists.each;
  room = room_start (length c.args.hands.items) c.args.lists.items c.requires.lists.each;
}

pub put_passes-requires-clause-many : goal.put_passes-requires-clause-many
put_passes-requires-clause-many g c =
    let before = c.loop-hand.invariant in
    let whole = ap (λ (xs : List (Vec g.row.Q.Denot)). c.loop-hand.yielded ++ xs) (sym c.in-Some.ensures.steps.0) ∙ before.whole in
    all_middle (λ hand. length hand.items ≡ length c.args.lists.items) c.loop-hand.yielded (into_iter_items c.next.new.self) c.in-Some.hand c.args.hands.items whole c.requires.hands
    ∙ sym before.many

pub put_passes-requires-clause-room : goal.put_passes-requires-clause-room
put_passes-requires-clause-room g c =
    let before = c.loop-hand.invariant in
    let whole = ap (λ (xs : List (Vec g.row.Q.Denot)). c.loop-hand.yielded ++ xs) (sym c.in-Some.ensures.steps.0) ∙ before.whole in
    let many = with_rest c.loop-hand.yielded (into_iter_items c.next.new.self) c.args.hands.items c.in-Some.hand whole in
    let hands = length-map c.loop-hand.yielded (λ (hand : Vec g.row.Q.Denot). hand.items) in
    room_next (map (λ (hand : Vec g.row.Q.Denot). hand.items) c.loop-hand.yielded) c.loop-hand.lists.items (length c.args.hands.items) before.columns before.room (omega (arith, many, hands))

pub loop-hand-preserved : goal.loop-hand-preserved
loop-hand-preserved g c =
    let before = c.loop-hand.invariant in
    let hand = c.in-Some.hand in
    let rest = into_iter_items c.next.new.self in
    let turned = map (λ (hand : Vec g.row.Q.Denot). hand.items) c.loop-hand.yielded in
    let whole = ap (λ (xs : List (Vec g.row.Q.Denot)). c.loop-hand.yielded ++ xs) (sym c.in-Some.ensures.steps.0) ∙ before.whole in
    let fits = all_middle (λ hand. length hand.items ≡ length c.args.lists.items) c.loop-hand.yielded rest hand c.args.hands.items whole c.requires.hands ∙ sym before.many in
    let hands = map-append (λ (hand : Vec g.row.Q.Denot). hand.items) c.loop-hand.yielded (hand ∷ []) in
    record {
      whole = append_assoc c.loop-hand.yielded (hand ∷ []) rest ∙ whole;
      count = count_next c.loop-hand.hand-iterator c.next.new.self hand c.in-Some.ensures.steps before.count;
      many = c.put_passes.ensures.many ∙ before.many;
      columns = subst (λ (hs : List (List g.row.Q.Denot)). AreColumns hs c.put_passes.new.lists.items) (sym hands)
          (columns_more turned hand.items c.loop-hand.lists.items c.put_passes.new.lists.items c.put_passes.ensures fits before.columns);
      room = room_more turned hand.items c.loop-hand.lists.items c.put_passes.new.lists.items c.put_passes.ensures fits (length c.args.hands.items) before.room;
    }

pub returns-clause-columns : goal.returns-clause-columns
returns-clause-columns g c =
    let before = c.loop-hand.invariant in
    let all : c.loop-hand.yielded ≡ c.args.hands.items =
    sym (append-nil c.loop-hand.yielded)
    ∙ (ap (λ (xs : List (Vec g.row.Q.Denot)). c.loop-hand.yielded ++ xs) (sym (nothing_left c.loop-hand.hand-iterator before.count c.in-None.ensures.steps.0)) ∙ before.whole) in
    subst (λ (xs : List (Vec g.row.Q.Denot)). AreColumns (map (λ hand. hand.items) xs) c.loop-hand.lists.items) all before.columns
