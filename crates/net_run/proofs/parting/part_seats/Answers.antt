use Rattle.std.proofs.Common.{◌≡◌, ◌++◌, ◌∷◌, [], length, map, ap, refl, sym, ◌∙◌, arith}
use Rattle.std.specs.Vec.Iter.{into_iter_items}
use Rattle.std.proofs.lemmas.List.{length_push, map-append}
use Rattle.net_run.specs.Parting.{local_in, shards_left, shards_of_seat}
use Rattle.net_run.proofs.Passing.{all_met, count_first, count_next, fewer_met, nothing_left, one_further}
use Rattle.net_run.proofs.parting.part_seats.Goals as goal

pub seats-init : goal.seats-init
seats-init g c =
    let gives = c.into_iter-seat-iterator.ensures.into_iter_gives in
    record {
      whole = sym gives.0;
      rest = count_first c.into_iter-seat-iterator.result c.args.seats gives.0 gives.1;
      shards = c.requires.empty;
      len = (let a = ap (λ xs. length xs) c.requires.empty in omega (arith, a, c.args.shards.ok.0));
      room = c.requires.room;
    }

pub seats-preserved : goal.seats-preserved
seats-preserved g c =
    let before = c.seats.invariant in
    let one = c.in-Some.seat in
    let yielded = c.seats.yielded in
    let more = into_iter_items c.next.new.self in
    let longer = length_push yielded one in
    record {
      whole = one_further c.args.seats.items yielded (into_iter_items c.seats.seat-iterator) more one before.whole c.in-Some.ensures.steps.0;
      rest = count_next c.seats.seat-iterator c.next.new.self one c.in-Some.ensures.steps before.rest;
      shards = c.push_reserved.ensures.items ∙ ap (λ xs. xs ++ one.shards ∷ []) before.shards ∙ sym (map-append shards_of_seat yielded (one ∷ []));
      len = omega (arith, c.push_reserved.ensures.len, before.len, longer);
      room = omega (arith, c.push_reserved.ensures.capacity, before.room);
    }

pub push_reserved-requires : goal.push_reserved-requires
push_reserved-requires g c =
    let before = c.seats.invariant in
    let fewer = fewer_met c.args.seats.items c.seats.yielded (into_iter_items c.seats.seat-iterator) (into_iter_items c.next.new.self) c.in-Some.seat before.whole c.in-Some.ensures.steps.0 in
    omega (arith, fewer, before.len, before.room)

pub returns : goal.returns
returns g c =
    let before = c.seats.invariant in
    before.shards ∙ ap (λ xs. map shards_of_seat xs)
    (sym (all_met c.args.seats.items c.seats.yielded (into_iter_items c.seats.seat-iterator) before.whole (nothing_left c.seats.seat-iterator before.rest c.in-None.ensures.steps.0)))
