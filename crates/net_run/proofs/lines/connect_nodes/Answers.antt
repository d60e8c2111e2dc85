use Rattle.std.proofs.Common.{◌≡◌, ◌+◌, ◌*◌, [], List, ℕ, length, map, replicate, refl, subst, sym, ap, ◌∙◌, arith}
use Rattle.net_run.specs.Lines.{AreLinked}
use Rattle.net_run.specs.Plans.{links_into, links_onto}
use Rattle.net_run.proofs.Wiring.{all_grown, layer_many, layer_more, next_incoming}
use Rattle.net_run.proofs.lines.connect_nodes.Goals as goal

pub layers-init : goal.layers-init
layers-init g c =
    let spread = c.in_ok-incoming.ensures.spread in
    let none = c.new-nodes.ensures.items in
    record {
      incoming = λ low. spread.one_more ∙ ap (λ (ns : List ℕ). map (λ n. n + 1) ns) c.in_ok-first.ensures ∙ all_grown c.args.config.now.width 0;
      many = (let a = ap (λ nodes. length nodes) none in omega arith);
      each = subst (λ nodes. AreLinked c.args.config.now 0 nodes) (sym none) tt;
      count = c.in_ok-incoming.ensures.count;
    }

pub layers-preserved : goal.layers-preserved
layers-preserved g c =
    let before = c.layers.invariant in
    let config = c.args.config.now in
    let layer = c.layers.layer in
    let more = c.in_ok-incoming-2.ensures in
    record {
      incoming = λ low. more.next ∙ next_incoming config layer low;
      many = layer_many config layer c.layers.nodes.items c.connect_layer.new.nodes.items before.many more.nodes;
      each = layer_more config layer c.layers.nodes.items c.connect_layer.new.nodes.items before.each before.many more.nodes;
      count = (let a = before.count in let b = more.count in omega arith);
    }
