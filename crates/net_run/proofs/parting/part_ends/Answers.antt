use Rattle.std.proofs.Common.{◌≡◌, ◌++◌, ◌∷◌, [], length, map, ap, refl, sym, ◌∙◌, arith}
use Rattle.std.specs.Vec.Iter.{into_iter_items}
use Rattle.std.proofs.lemmas.List.{length_push, map-append}
use Rattle.net_run.specs.Parting.{local_in, shards_left, shards_of_seat}
use Rattle.net_run.proofs.Passing.{all_met, count_first, count_next, fewer_met, nothing_left, one_further}
use Rattle.net_run.proofs.parting.part_ends.Goals as goal

pub ends-init : goal.ends-init
ends-init g c =
    let gives = c.into_iter-end-iterator.ensures.into_iter_gives in
    record {
      whole = sym gives.0;
      rest = count_first c.into_iter-end-iterator.result c.args.ends gives.0 gives.1;
      shards = c.requires.shards.empty;
      locals = c.requires.locals.empty;
      shards_len = (let a = ap (λ xs. length xs) c.requires.shards.empty in omega (arith, a, c.args.shards.ok.0));
      locals_len = (let a = ap (λ xs. length xs) c.requires.locals.empty in omega (arith, a, c.args.locals.ok.0));
      shards_room = c.requires.shards.room;
      locals_room = c.requires.locals.room;
    }

pub ends-preserved : goal.ends-preserved
ends-preserved g c =
    let before = c.ends.invariant in
    let one = c.in-Some.end in
    let yielded = c.ends.yielded in
    let more = into_iter_items c.next.new.self in
    let longer = length_push yielded one in
    record {
      whole = one_further c.args.ends.items yielded (into_iter_items c.ends.end-iterator) more one before.whole c.in-Some.ensures.steps.0;
      rest = count_next c.ends.end-iterator c.next.new.self one c.in-Some.ensures.steps before.rest;
      shards = c.push_reserved.ensures.items ∙ ap (λ xs. xs ++ one.shards ∷ []) before.shards ∙ sym (map-append shards_left yielded (one ∷ []));
      locals = c.push_reserved-in-ends.ensures.items ∙ ap (λ xs. xs ++ one.local ∷ []) before.locals ∙ sym (map-append local_in yielded (one ∷ []));
      shards_len = omega (arith, c.push_reserved.ensures.len, before.shards_len, longer);
      locals_len = omega (arith, c.push_reserved-in-ends.ensures.len, before.locals_len, longer);
      shards_room = omega (arith, c.push_reserved.ensures.capacity, before.shards_room);
      locals_room = omega (arith, c.push_reserved-in-ends.ensures.capacity, before.locals_room);
    }

pub push_reserved-requires : goal.push_reserved-requires
push_reserved-requires g c =
    let before = c.ends.invariant in
    let fewer = fewer_met c.args.ends.items c.ends.yielded (into_iter_items c.ends.end-iterator) (into_iter_items c.next.new.self) c.in-Some.end before.whole c.in-Some.ensures.steps.0 in
    omega (arith, fewer, before.shards_len, before.shards_room)

pub push_reserved-requires-in-ends : goal.push_reserved-requires-in-ends
push_reserved-requires-in-ends g c =
    let before = c.ends.invariant in
    let fewer = fewer_met c.args.ends.items c.ends.yielded (into_iter_items c.ends.end-iterator) (into_iter_items c.next.new.self) c.in-Some.end before.whole c.in-Some.ensures.steps.0 in
    omega (arith, fewer, before.locals_len, before.locals_room)

pub returns-clause-shards : goal.returns-clause-shards
returns-clause-shards g c =
    let before = c.ends.invariant in
    before.shards ∙ ap (λ xs. map shards_left xs)
    (sym (all_met c.args.ends.items c.ends.yielded (into_iter_items c.ends.end-iterator) before.whole (nothing_left c.ends.end-iterator before.rest c.in-None.ensures.steps.0)))

pub returns-clause-locals : goal.returns-clause-locals
returns-clause-locals g c =
    let before = c.ends.invariant in
    before.locals ∙ ap (λ xs. map local_in xs)
    (sym (all_met c.args.ends.items c.ends.yielded (into_iter_items c.ends.end-iterator) before.whole (nothing_left c.ends.end-iterator before.rest c.in-None.ensures.steps.0)))
