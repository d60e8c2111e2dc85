use Rattle.std.proofs.Common.{◌≡◌, ◌+◌, ◌++◌, ◌∷◌, [], ℕ, length, subst, sym, ap, ◌∙◌, arith}
use Rattle.std.specs.Vec.Iter.{into_iter_items}
use Rattle.std.proofs.lemmas.List.{length_push}
use Rattle.net_run.specs.Lines.{ids_in, ids_of}
use Rattle.mix_waves.specs.Network.{node_id}
use Rattle.net_run.proofs.Passing.{count_next, one_further}
use Rattle.net_run.proofs.Wiring.{grown_more, ids_more}
use Rattle.net_run.proofs.lines.connect_sender.Goals as goal

pub places-preserved : goal.places-preserved
places-preserved g c =
    let before = c.places.invariant in
    let ends = c.in-Some.ends in
    let yielded = c.places.yielded in
    let rest = into_iter_items c.next.new.self in
    let longer = length_push yielded ends in
    let place : c.len.result ≡ length yielded = c.len.ensures ∙ before.len in
    let more = ap (λ links. length links) c.in_ok-add-3.ensures ∙ length_push c.places.outgoing.items (c.node_id-id.result, c.in_ok-onto.onto) in
    record {
      whole = one_further c.args.incoming.items yielded (into_iter_items c.places.ends-iterator) rest ends before.whole c.in-Some.ensures.steps.0;
      rest = count_next c.places.ends-iterator c.next.new.self ends c.in-Some.ensures.steps before.rest;
      ids = subst (λ (n : ℕ). ids_of c.add-in-places-2.new.list.items ≡ ids_in c.args.layer n) (sym longer)
          (ids_more c.args.layer (length yielded) c.places.outgoing.items c.add-in-places-2.new.list.items c.node_id-id.result c.in_ok-onto.onto before.ids c.in_ok-add-3.ensures
          (c.node_id-id.ensures ∙ ap (λ (n : ℕ). node_id c.args.layer n) place));
      len = omega (arith, c.add-in-places-2.new.list.ok.0, more, c.places.outgoing.ok.0, before.len, longer);
      one_more = grown_more c.places.grown.items c.add-in-places.new.list.items yielded ends c.add.new.list c.in_ok-onto.into before.one_more c.in_ok-add-2.ensures c.in_ok-add.ensures;
      count = (let a = before.count in let b = c.line.ensures.count in omega arith);
    }
