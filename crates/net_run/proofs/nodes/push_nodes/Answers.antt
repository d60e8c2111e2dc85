use Rattle.std.proofs.Common.{◌≡◌, ◌∷◌, [], ◌++◌, List, ap, refl, reverse, sym, ◌∙◌, arith}
use Rattle.std.proofs.lemmas.List.{append-nil}
use Rattle.net_run.specs.Nodes.{AreKept, HasShards}
use Rattle.turn_lock.proofs.Lists.{all_cons}
use Rattle.net_run.proofs.Stacks.{all_but_last, gone_more, is_last, reverse_more}
use Rattle.net_run.proofs.nodes.push_nodes.Goals as goal

pub loop-node-init : goal.loop-node-init
loop-node-init g c = record {
  gone = [];
  closed = [];
  nodes = sym (append-nil c.args.nodes.items);
  sites = refl;
  each = tt;
  kept = λ k d low. absurd (omega (arith, low));
  shards = c.requires.shards;
  fit = c.requires.room;
  capacity = refl;
}

pub close_node-requires : goal.close_node-requires
close_node-requires g c = is_last HasShards c.loop-node.nodes.items c.pop.new.self.items c.in-Some.node c.in-Some.ensures.items c.loop-node.invariant.shards

pub loop-node-preserved : goal.loop-node-preserved
loop-node-preserved g c =
    let before = c.loop-node.invariant in
    let popped = c.in-Some.ensures.cases in
    let pushed = c.push_reserved.ensures in
    record {
      gone = c.in-Some.node ∷ before.gone;
      closed = c.close_node.result ∷ before.closed;
      nodes = gone_more c.args.nodes.items c.loop-node.nodes.items c.pop.new.self.items before.gone c.in-Some.node before.nodes c.in-Some.ensures.items;
      sites = reverse_more c.push_reserved.new.self.items c.loop-node.sites.items c.close_node.result pushed.items ∙ ap (λ sites. c.close_node.result ∷ sites) before.sites;
      each = (c.close_node.ensures.site, before.each);
      kept = all_cons (AreKept g.R.Rack.tells g.S.Suite.meaning) c.in-Some.node before.gone c.close_node.ensures.kept before.kept;
      shards = all_but_last HasShards c.loop-node.nodes.items c.pop.new.self.items c.in-Some.node c.in-Some.ensures.items before.shards;
      fit = (let a = before.fit in let b = pushed.len in let d = pushed.capacity in omega (arith, popped));
      capacity = pushed.capacity ∙ before.capacity;
    }
