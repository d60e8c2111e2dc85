use Rattle.std.proofs.Common.{◌≡◌, ◌+◌, [], ◌∷◌, ◌++◌, List, ℕ, length, map, reverse, refl, sym, ap, subst, ◌∙◌, inl, arith}
use Rattle.std.proofs.lemmas.List.{append-nil, length_push, reverse-reverse}
use Rattle.net_run.specs.Nodes.{AreNodesOpened, IsNodeOpened}
use Rattle.net_run.specs.Sites.{HasSizes}
use Rattle.net_run.proofs.NodesOpen.{all_have_shards, nodes_more, sites_back, sites_same, stopped_in}
use Rattle.net_run.proofs.Stacks.{empty_list, is_middle, met_at, met_more, reverse_more}
use Rattle.net_run.proofs.nodes.open_nodes.Goals as goal

pub returns-in_default-clause-back : goal.returns-in_default-clause-back
returns-in_default-clause-back g c = sites_same g.R.Rack.state c.args.sites.now.items

pub nodes-init : goal.nodes-init
nodes-init g c =
    let reversed = c.reverse.ensures in
    let made = c.in-Ok.ensures in
    let many = c.args.sites.now.ok.0 in
    record {
      met = [];
      are = sym (reverse-reverse c.args.sites.now.items) ∙ ap (λ sites. reverse sites) (sym reversed.items);
      count = refl;
      opened = subst (λ nodes. AreNodesOpened g.R.Rack.state g.R.Rack.tells g.S.Suite.meaning c.args.config.now 0 [] nodes) (sym made.items) tt;
      size = made.len;
      room = omega (arith, made.capacity, c.count_nodes-count.ensures.count);
      len = omega (arith, reversed.len, many, c.requires.count, made.len);
      fit = omega (arith, reversed.capacity, many, c.requires.count, c.args.sites.now.ok.1);
      capacity = reversed.capacity;
    }

pub open_node-requires-clause-sizes : goal.open_node-requires-clause-sizes
open_node-requires-clause-sizes g c =
    let before = c.nodes.invariant in
    is_middle (HasSizes c.args.config.now.shards) c.args.sites.now.items before.met (reverse c.pop.new.self.items) c.in-Some.site
    (met_at c.args.sites.now.items before.met c.nodes.sites.items c.pop.new.self.items c.in-Some.site before.are c.in-Some.ensures.items) c.requires.sizes

pub push_nodes-requires-clause-shards : goal.push_nodes-requires-clause-shards
push_nodes-requires-clause-shards g c =
    let before = c.nodes.invariant in
    all_have_shards g.R.Rack.state g.R.Rack.tells g.S.Suite.meaning c.args.config.now 0 before.met c.nodes.nodes.items before.opened

pub returns-in-Err-clause-back : goal.returns-in-Err-clause-back
returns-in-Err-clause-back g c =
    let before = c.nodes.invariant in
    let put = c.push_nodes.ensures.put in
    sites_back g.R.Rack.state g.R.Rack.tells g.S.Suite.meaning c.args.config.now before.met put.closed (reverse c.pop.new.self.items) c.args.sites.now.items
    c.reverse-in-Err.new.self.items c.nodes.nodes.items c.in-Some.site c.in-Err.site before.opened put.each
    (met_at c.args.sites.now.items before.met c.nodes.sites.items c.pop.new.self.items c.in-Some.site before.are c.in-Some.ensures.items)
    (c.reverse-in-Err.ensures.items ∙ put.are
    ∙ ap (λ sites. put.closed ++ sites) (reverse_more c.push_reserved-in-Err.new.self.items c.pop.new.self.items c.in-Err.site c.push_reserved-in-Err.ensures.items))
    c.in-Err.ensures.back

pub returns-in-Err-clause-cause : goal.returns-in-Err-clause-cause
returns-in-Err-clause-cause g c =
    let before = c.nodes.invariant in
    let put = c.push_nodes.ensures.put in
    stopped_in g.R.Rack.state g.R.Rack.tells g.S.Suite.meaning c.args.config.now before.met put.closed (reverse c.pop.new.self.items) c.args.sites.now.items
    c.reverse-in-Err.new.self.items c.nodes.nodes.items c.in-Some.site c.in-Err.site c.in-Err.status c.nodes.number before.opened before.count put.each
    (met_at c.args.sites.now.items before.met c.nodes.sites.items c.pop.new.self.items c.in-Some.site before.are c.in-Some.ensures.items)
    (c.reverse-in-Err.ensures.items ∙ put.are
    ∙ ap (λ sites. put.closed ++ sites) (reverse_more c.push_reserved-in-Err.new.self.items c.pop.new.self.items c.in-Err.site c.push_reserved-in-Err.ensures.items))
    c.in-Err.ensures.cause

pub nodes-preserved : goal.nodes-preserved
nodes-preserved g c =
    let before = c.nodes.invariant in
    let popped = c.in-Some.ensures.cases in
    let pushed = c.push_reserved.ensures in
    let site = c.in-Some.site in
    record {
      met = before.met ++ site ∷ [];
      are = met_more c.args.sites.now.items before.met (reverse c.pop.new.self.items) site
          (met_at c.args.sites.now.items before.met c.nodes.sites.items c.pop.new.self.items site before.are c.in-Some.ensures.items);
      count = length_push before.met site ∙ ap (λ n. n + 1) before.count;
      opened = subst (λ nodes. AreNodesOpened g.R.Rack.state g.R.Rack.tells g.S.Suite.meaning c.args.config.now 0 (before.met ++ site ∷ []) nodes) (sym pushed.items)
          (nodes_more g.R.Rack.state g.R.Rack.tells g.S.Suite.meaning c.args.config.now 0 before.met c.nodes.nodes.items site c.in-Ok-open_node.node before.opened
          (subst (λ (i : ℕ). IsNodeOpened g.R.Rack.state g.R.Rack.tells g.S.Suite.meaning c.args.config.now i site c.in-Ok-open_node.node) (omega (arith, before.count)) c.in-Ok-open_node.ensures.opened));
      size = omega (arith, pushed.len, before.size);
      room = omega (arith, pushed.capacity, before.room);
      len = omega (arith, pushed.len, popped, before.len);
      fit = omega (arith, popped, before.fit);
      capacity = (let a = before.capacity in omega (arith, popped));
    }
