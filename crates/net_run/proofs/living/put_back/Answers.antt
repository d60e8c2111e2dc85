use Rattle.std.proofs.Common.{[], ◌++◌, List, map, reverse, ap, subst, sym, ◌∙◌}
use Rattle.std.proofs.lemmas.List.{append-nil, reverse-reverse}
use Rattle.net_run.specs.Nodes.{AreSitesLater}
use Rattle.net_run.specs.Refilling.{AreRefilled}
use Rattle.net_run.proofs.Returned.{fits_reversed, sites_later}
use Rattle.net_run.proofs.living.put_back.Goals as goal

pub refill_sites-requires-clause-fit : goal.refill_sites-requires-clause-fit
refill_sites-requires-clause-fit g c =
    fits_reversed g.R.Rack.state g.R.Rack.tells g.S.Suite.meaning c.requires.opened.0 c.args.before.now.value.items c.args.waiting.items c.args.nodes.now.value.items c.args.shards.items
    c.requires.opened.1 c.requires.waiting c.requires.origins

pub returns-clause-sites : goal.returns-clause-sites
returns-clause-sites g c =
    let put = c.refill_sites.ensures.put in
    let are = c.reverse.ensures.items ∙ put.are ∙ ap (λ sites. put.refilled ++ reverse sites) c.requires.empty ∙ append-nil put.refilled in
    subst (λ sites. AreSitesLater g.R.Rack.state c.args.before.now.value.items sites) (sym are)
    (sites_later g.R.Rack.state g.R.Rack.tells g.S.Suite.meaning c.requires.opened.0 0 c.args.before.now.value.items put.refilled c.args.nodes.now.value.items c.args.shards.items
    c.requires.opened.1 c.requires.origins c.refill_sites.ensures.kept
    (subst (λ waiting. AreRefilled g.R.Rack.state waiting c.args.shards.items put.refilled) c.requires.waiting put.each))
