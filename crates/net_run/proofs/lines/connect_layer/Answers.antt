use Rattle.std.proofs.Common.{◌≡◌, ◌+◌, ◌++◌, ◌∷◌, [], List, ℕ, length, map, replicate, refl, subst, sym, ap, ◌∙◌, arith}
use Rattle.std.specs.Vec.Iter.{into_iter_items}
use Rattle.std.proofs.lemmas.List.{length_push}
use Rattle.net_run.specs.Lines.{AddsLinked, IsLinked, ids_in, ids_of, ids_onto, sizes}
use Rattle.net_run.specs.Plans.{links_into, links_onto}
use Rattle.net_run.proofs.Passing.{all_met, count_first, count_next, nothing_left, one_further}
use Rattle.net_run.proofs.Wiring.{all_grown, copies, each_of, many_of, none_added, one_added, onto_few}
use Rattle.net_run.proofs.lines.connect_layer.Goals as goal

pub nodes-init : goal.nodes-init
nodes-init g c =
    let gives = c.into_iter-ends-iterator.ensures.into_iter_gives in
    record {
      whole = sym gives.0;
      rest = count_first c.into_iter-ends-iterator.result c.args.incoming gives.0 gives.1;
      next = c.in_ok-next.ensures ∙ ap (λ (n : ℕ). replicate n 0) c.count_outgoing.ensures;
      added = none_added (links_into c.args.config.now c.args.layer) (ids_onto c.args.config.now c.args.layer) c.args.nodes.now.items;
      count = omega arith;
    }

pub connect_sender-requires-after_bounds : goal.connect_sender-requires-after_bounds
connect_sender-requires-after_bounds g c κs within =
    let many = many_of c.nodes.next.items (links_onto c.args.config.now c.args.layer) (length c.nodes.yielded) c.nodes.invariant.next in
    let few = onto_few c.args.config.now c.args.layer (let w = c.requires.in_range.width in omega arith) in
    omega (arith, many, few)

pub nodes-preserved : goal.nodes-preserved
nodes-preserved g c =
    let before = c.nodes.invariant in
    let ends = c.in-Some.ends in
    let yielded = c.nodes.yielded in
    let rest = into_iter_items c.next.new.self in
    let longer = length_push yielded ends in
    let config = c.args.config.now in
    let layer = c.args.layer in
    let next = links_onto config layer in
    let spread = c.in_ok-spread.ensures.spread in
    let many = many_of c.nodes.next.items next (length yielded) before.next in
    let sizes_long : length (sizes c.nodes.next.items) ≡ next = ap (λ (ns : List ℕ). length ns) before.next ∙ copies next (length yielded) in
    record {
      whole = one_further c.args.incoming.items yielded (into_iter_items c.nodes.ends-iterator) rest ends before.whole c.in-Some.ensures.steps.0;
      rest = count_next c.nodes.ends-iterator c.next.new.self ends c.in-Some.ensures.steps before.rest;
      next = spread.one_more ∙ ap (λ (ns : List ℕ). map (λ n. n + 1) ns) before.next ∙ all_grown next (length yielded) ∙ ap (λ (n : ℕ). replicate next n) (sym longer);
      added = subst (λ (n : ℕ). AddsLinked n (links_into config layer) (ids_onto config layer) c.args.nodes.now.items c.add.new.list.items) (sym longer)
          (one_added (length yielded) (links_into config layer) (ids_onto config layer) c.args.nodes.now.items c.nodes.nodes.items c.add.new.list.items _ before.added c.in_ok-add.ensures
          (record {
            incoming_are = each_of c.args.incoming.items yielded rest ends config.width (links_into config layer) c.requires.incoming
                (before.whole ∙ ap (λ xs. yielded ++ xs) c.in-Some.ensures.steps.0);
            ids_are = spread.ids ∙ ap (λ (n : ℕ). ids_in (layer + 1) n) sizes_long;
          }));
      count = (let a = before.count in let b = c.in_ok-spread.ensures.count in omega arith);
    }

pub returns-clause-next : goal.returns-clause-next
returns-clause-next g c =
    let before = c.nodes.invariant in
    let all = all_met c.args.incoming.items c.nodes.yielded (into_iter_items c.nodes.ends-iterator) before.whole (nothing_left c.nodes.ends-iterator before.rest c.in-None.ensures.steps.0) in
    before.next ∙ ap (λ (n : ℕ). replicate (links_onto c.args.config.now c.args.layer) n)
    (ap (λ xs. length xs) (sym all) ∙ many_of c.args.incoming.items c.args.config.now.width (links_into c.args.config.now c.args.layer) c.requires.incoming)

pub returns-clause-nodes : goal.returns-clause-nodes
returns-clause-nodes g c =
    let before = c.nodes.invariant in
    let all = all_met c.args.incoming.items c.nodes.yielded (into_iter_items c.nodes.ends-iterator) before.whole (nothing_left c.nodes.ends-iterator before.rest c.in-None.ensures.steps.0) in
    subst (λ (n : ℕ). AddsLinked n (links_into c.args.config.now c.args.layer) (ids_onto c.args.config.now c.args.layer) c.args.nodes.now.items c.nodes.nodes.items)
    (ap (λ xs. length xs) (sym all) ∙ many_of c.args.incoming.items c.args.config.now.width (links_into c.args.config.now c.args.layer) c.requires.incoming) before.added
