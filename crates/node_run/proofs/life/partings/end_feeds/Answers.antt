use Rattle.std.proofs.Common.{◌++◌, ap, subst, ◌∙◌, arith}
use Rattle.std.specs.List.{AllZip}
use Rattle.std.specs.Vec.Iter.{into_iter_items}
use Rattle.std.proofs.lemmas.List.{length_push}
use Rattle.std.proofs.lemmas.Slice.Zip.{AllZip-long}
use Rattle.node_run.specs.Crews.{HasLink, IsFed}
use Rattle.node_run.specs.Partings.{IsFedBy}
use Rattle.node_run.proofs.Ended.{fed_by, is_feed}
use Rattle.node_run.proofs.Moving.{fewer_met, one_further}
use Rattle.node_run.proofs.Parts.{all_met, one_more_both, zip_join}
use Rattle.node_run.proofs.Yielding.{count_next, nothing_left}
use Rattle.node_run.proofs.life.partings.end_feeds.Goals as goal

pub link_of-requires : goal.link_of-requires
link_of-requires g c =
    let whole = c.loop-left.invariant.whole ∙ ap (λ xs. c.loop-left.yielded ++ xs) c.in-Some.ensures.steps.0 in
    is_feed g.O.LinkOut.given g.O.LinkOut.faults c.args.feeds.now.value.items (into_iter_items c.args.lefts) c.loop-left.yielded (into_iter_items c.next.new.self) c.in-Some.left whole c.requires.fed

pub push_reserved-requires : goal.push_reserved-requires
push_reserved-requires g c =
    let before = c.loop-left.invariant in
    let fewer = fewer_met (into_iter_items c.args.lefts) c.loop-left.yielded (into_iter_items c.next.new.self) c.in-Some.left
    (before.whole ∙ ap (λ xs. c.loop-left.yielded ++ xs) c.in-Some.ensures.steps.0) in
    let many = AllZip-long (IsFed g.O.LinkOut.given g.O.LinkOut.faults) c.args.feeds.now.value.items (into_iter_items c.args.lefts) c.requires.fed in
    omega (arith, fewer, many, before.len, before.room)

pub loop-left-preserved : goal.loop-left-preserved
loop-left-preserved g c =
    let before = c.loop-left.invariant in
    let left = c.in-Some.left in
    let yielded = c.loop-left.yielded in
    let rest = into_iter_items c.next.new.self in
    record {
      whole = one_further (into_iter_items c.args.lefts) yielded (into_iter_items c.loop-left.left-iterator) rest left before.whole c.in-Some.ensures.steps.0;
      count = count_next c.loop-left.left-iterator c.next.new.self left c.in-Some.ensures.steps before.count;
      links = one_more_both HasLink yielded c.loop-left.links.items c.push_reserved.new.self.items left c.link_of.result before.links c.link_of.ensures c.push_reserved.ensures.items;
      len = omega (arith, c.push_reserved.ensures.len, before.len, length_push yielded left);
      room = omega (arith, c.push_reserved.ensures.capacity, before.room);
    }

pub returns : goal.returns
returns g c =
    let before = c.loop-left.invariant in
    let all = all_met (into_iter_items c.args.lefts) c.loop-left.yielded (into_iter_items c.loop-left.left-iterator) before.whole
    (nothing_left c.loop-left.left-iterator before.count c.in-None.ensures.steps.0) in
    zip_join (IsFed g.O.LinkOut.given g.O.LinkOut.faults) HasLink (IsFedBy g.O.LinkOut.given g.O.LinkOut.faults) (fed_by g.O.LinkOut.given g.O.LinkOut.faults)
    c.args.feeds.now.value.items (into_iter_items c.args.lefts) c.loop-left.links.items c.requires.fed (subst (λ xs. AllZip HasLink xs c.loop-left.links.items) all before.links)
