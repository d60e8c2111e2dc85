use Rattle.std.proofs.Common.{◌≡◌, List, [], ◌∷◌, ◌++◌, length, sym, ap, ◌∙◌, subst, refl, arith, append_assoc}
use Rattle.std.specs.Vec.Iter.{into_iter_items}
use Rattle.std.proofs.lemmas.List.{append-nil, length-append, length-map, map-append}
use Rattle.node_actors.specs.declared.actors.works.Left.{Left}
use Rattle.node_run.specs.Accounts.{hands_of}
use Rattle.node_run.specs.Closings.{AreColumns}
use Rattle.node_run.proofs.Columns.{all_middle, columns_more, columns_start, room_more, room_next, room_start}
use Rattle.node_run.proofs.Yielding.{count_first, count_next, nothing_left}
use Rattle.node_run.proofs.Sorting.{sorted_more, sorted_start, works_fit, works_more, works_start}
use Rattle.node_run.proofs.life.gathering.gather.Goals as goal

pub loop-left-init : goal.loop-left-init
loop-left-init g c = record {
  whole = c.into_iter-left-iterator.ensures.into_iter_gives.0;
  count = count_first c.into_iter-left-iterator.result c.args.lefts c.into_iter-left-iterator.ensures.into_iter_gives.0
      c.into_iter-left-iterator.ensures.into_iter_gives.1;
  many = refl;
  columns = columns_start (length c.args.lefts.items) c.args.lists.items c.requires.lists.each;
  lists_room = room_start (length c.args.lefts.items) c.args.lists.items c.requires.lists.each;
  sorted = sorted_start _ _ _ c.args.works c.requires.room;
  works_room = works_start _ _ _ c.args.works c.requires.room;
}

pub put_passes-requires-clause-many : goal.put_passes-requires-clause-many
put_passes-requires-clause-many g c =
    let before = c.loop-left.invariant in
    let whole = ap (λ (xs : List (Left g.row.Q.Denot g.row.P.Denot g.row.N.Denot g.row.O.Denot)). c.loop-left.yielded ++ xs) (sym c.in-Some.ensures.steps.0) ∙ before.whole in
    all_middle (λ gave. length gave.passes.items ≡ length c.args.lists.items) c.loop-left.yielded (into_iter_items c.next.new.self) c.in-Some.left c.args.lefts.items whole c.requires.hands
    ∙ sym before.many

pub put_passes-requires-clause-room : goal.put_passes-requires-clause-room
put_passes-requires-clause-room g c =
    let before = c.loop-left.invariant in
    let whole = ap (λ (xs : List (Left g.row.Q.Denot g.row.P.Denot g.row.N.Denot g.row.O.Denot)). c.loop-left.yielded ++ xs) (sym c.in-Some.ensures.steps.0) ∙ before.whole in
    let many = ap (λ (xs : List (Left g.row.Q.Denot g.row.P.Denot g.row.N.Denot g.row.O.Denot)). length xs) (sym whole)
    ∙ length-append c.loop-left.yielded (c.in-Some.left ∷ into_iter_items c.next.new.self) in
    let hands = length-map c.loop-left.yielded (λ (gave : Left g.row.Q.Denot g.row.P.Denot g.row.N.Denot g.row.O.Denot). gave.passes.items) in
    room_next (hands_of c.loop-left.yielded) c.loop-left.lists.items (length c.args.lefts.items) before.columns before.lists_room (omega (arith, many, hands))

pub put_work-requires : goal.put_work-requires
put_work-requires g c =
    let before = c.loop-left.invariant in
    let whole = ap (λ (xs : List (Left g.row.Q.Denot g.row.P.Denot g.row.N.Denot g.row.O.Denot)). c.loop-left.yielded ++ xs) (sym c.in-Some.ensures.steps.0) ∙ before.whole in
    works_fit c.args.lefts.items c.loop-left.yielded (into_iter_items c.next.new.self) c.in-Some.left c.loop-left.works (sym whole) before.sorted before.works_room

pub loop-left-preserved : goal.loop-left-preserved
loop-left-preserved g c =
    let before = c.loop-left.invariant in
    let left = c.in-Some.left in
    let rest = into_iter_items c.next.new.self in
    let whole = ap (λ (xs : List (Left g.row.Q.Denot g.row.P.Denot g.row.N.Denot g.row.O.Denot)). c.loop-left.yielded ++ xs) (sym c.in-Some.ensures.steps.0) ∙ before.whole in
    let fits = all_middle (λ gave. length gave.passes.items ≡ length c.args.lists.items) c.loop-left.yielded rest left c.args.lefts.items whole c.requires.hands ∙ sym before.many in
    let hands = map-append (λ (gave : Left g.row.Q.Denot g.row.P.Denot g.row.N.Denot g.row.O.Denot). gave.passes.items) c.loop-left.yielded (left ∷ []) in
    record {
      whole = append_assoc c.loop-left.yielded (left ∷ []) rest ∙ whole;
      count = count_next c.loop-left.left-iterator c.next.new.self left c.in-Some.ensures.steps before.count;
      many = c.put_passes.ensures.many ∙ before.many;
      columns = subst (λ (hs : List (List g.row.Q.Denot)). AreColumns hs c.put_passes.new.lists.items) (sym hands)
          (columns_more (hands_of c.loop-left.yielded) left.passes.items c.loop-left.lists.items c.put_passes.new.lists.items c.put_passes.ensures fits before.columns);
      lists_room = room_more (hands_of c.loop-left.yielded) left.passes.items c.loop-left.lists.items c.put_passes.new.lists.items c.put_passes.ensures fits
          (length c.args.lefts.items) before.lists_room;
      sorted = sorted_more c.loop-left.yielded left c.loop-left.works c.put_work.new.works before.sorted c.put_work.ensures;
      works_room = works_more _ _ _ left.work c.loop-left.works c.put_work.new.works before.works_room c.put_work.ensures;
    }

pub returns-clause-columns : goal.returns-clause-columns
returns-clause-columns g c =
    let before = c.loop-left.invariant in
    let all : c.loop-left.yielded ≡ c.args.lefts.items =
    sym (append-nil c.loop-left.yielded)
    ∙ (ap (λ (xs : List (Left g.row.Q.Denot g.row.P.Denot g.row.N.Denot g.row.O.Denot)). c.loop-left.yielded ++ xs) (sym (nothing_left c.loop-left.left-iterator before.count c.in-None.ensures.steps.0)) ∙ before.whole) in
    subst (λ (xs : List (Left g.row.Q.Denot g.row.P.Denot g.row.N.Denot g.row.O.Denot)). AreColumns (hands_of xs) c.loop-left.lists.items) all before.columns
