use Rattle.std.proofs.Common.{[], ◌++◌, refl, ap, sym, subst, ◌∙◌, arith}
use Rattle.std.specs.Vec.Iter.{into_iter_items}
use Rattle.std.proofs.lemmas.List.{append-nil, length_push}
use Rattle.node_run.specs.Crews.{AddsFeeders}
use Rattle.node_run.proofs.Gathered.{feeder_more}
use Rattle.node_run.proofs.Moving.{fewer_met, one_further}
use Rattle.node_run.proofs.Parts.{all_met}
use Rattle.node_run.proofs.Yielding.{count_first, count_next, nothing_left}
use Rattle.node_run.proofs.life.crews.add_feeders.Goals as goal

pub loop-feed-init : goal.loop-feed-init
loop-feed-init g c =
    let gives = c.into_iter-feed-iterator.ensures.into_iter_gives in
    record {
      whole = sym gives.0;
      count = count_first c.into_iter-feed-iterator.result c.args.feeds gives.0 gives.1;
      added = record { added = []; new_is = sym (append-nil c.args.actors.items); are = tt };
      len = omega arith;
      room = refl;
    }

pub push_reserved-requires : goal.push_reserved-requires
push_reserved-requires g c =
    let before = c.loop-feed.invariant in
    let fewer = fewer_met c.args.feeds.items c.loop-feed.yielded (into_iter_items c.next.new.self) c.in-Some.feed
    (before.whole ∙ ap (λ xs. c.loop-feed.yielded ++ xs) c.in-Some.ensures.steps.0) in
    omega (arith, fewer, before.len, before.room, c.requires.room)

pub loop-feed-preserved : goal.loop-feed-preserved
loop-feed-preserved g c =
    let before = c.loop-feed.invariant in
    let feed = c.in-Some.feed in
    let yielded = c.loop-feed.yielded in
    let rest = into_iter_items c.next.new.self in
    record {
      whole = one_further c.args.feeds.items yielded (into_iter_items c.loop-feed.feed-iterator) rest feed before.whole c.in-Some.ensures.steps.0;
      count = count_next c.loop-feed.feed-iterator c.next.new.self feed c.in-Some.ensures.steps before.count;
      added = feeder_more yielded feed c.args.actors.items c.loop-feed.actors.items c.push_reserved.new.self.items c.new.result before.added c.push_reserved.ensures.items c.new.ensures;
      len = omega (arith, c.push_reserved.ensures.len, before.len, length_push yielded feed);
      room = c.push_reserved.ensures.capacity ∙ before.room;
    }

pub returns : goal.returns
returns g c =
    let before = c.loop-feed.invariant in
    let all = all_met c.args.feeds.items c.loop-feed.yielded (into_iter_items c.loop-feed.feed-iterator) before.whole
    (nothing_left c.loop-feed.feed-iterator before.count c.in-None.ensures.steps.0) in
    subst (λ fs. AddsFeeders fs c.args.actors.items c.loop-feed.actors.items) all before.added
