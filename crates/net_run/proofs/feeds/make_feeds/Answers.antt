use Rattle.std.proofs.Common.{◌≡◌, ◌++◌, List, ℕ, [], ◌∷◌, ap, refl, subst, sym, ◌∙◌}
use Rattle.std.specs.List.{AllZip}
use Rattle.std.specs.Vec.Iter.{into_iter_items}
use Rattle.net_run.specs.Feeds.{IsFeedFor}
use Rattle.net_run.proofs.Passing.{all_met, count_first, count_next, nothing_left, one_further, zip_more}
use Rattle.net_run.proofs.feeds.make_feeds.Goals as goal

pub links-init : goal.links-init
links-init g c =
    let gives = c.into_iter-id-iterator.ensures.into_iter_gives in
    record {
      whole = sym gives.0;
      rest = count_first c.into_iter-id-iterator.result c.args.client gives.0 gives.1;
      feeds = subst (λ feeds. AllZip (IsFeedFor c.args.posts.now) [] feeds) (sym c.new-feeds.ensures.items) tt;
    }

pub links-preserved : goal.links-preserved
links-preserved g c =
    let before = c.links.invariant in
    let line : List ℕ × g.row.O.Denot = (c.in-Some.id, c.in-Some.link) in
    let rest = into_iter_items c.next.new.self in
    record {
      whole = one_further c.args.client.items c.links.yielded (into_iter_items c.links.id-iterator) rest line before.whole c.in-Some.ensures.steps.0;
      rest = count_next c.links.id-iterator c.next.new.self line c.in-Some.ensures.steps before.rest;
      feeds = zip_more (IsFeedFor c.args.posts.now) c.links.yielded c.links.feeds.items c.push.new.self.items line _ before.feeds
          (record { link = refl; packets = c.in_ok-packets.ensures }) c.in_ok-push.ensures.items;
    }

pub returns : goal.returns
returns g c =
    let before = c.links.invariant in
    subst (λ lines. AllZip (IsFeedFor c.args.posts.now) lines c.links.feeds.items)
    (sym (all_met c.args.client.items c.links.yielded (into_iter_items c.links.id-iterator) before.whole (nothing_left c.links.id-iterator before.rest c.in-None.ensures.steps.0))) before.feeds
