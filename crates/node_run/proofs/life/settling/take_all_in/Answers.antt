use Rattle.std.proofs.Common.{◌≡◌, List, [], ◌∷◌, ◌++◌, length, refl, sym, ap, ◌∙◌, subst, append_assoc, Some}
use Rattle.std.specs.Prelude.{slice_get}
use Rattle.std.specs.Global.{Vec}
use Rattle.std.specs.Vec.Iter.{into_iter_items}
use Rattle.std.proofs.lemmas.List.{append-nil}
use Rattle.node_actors.specs.Queues.{Sending}
use Rattle.node_run.specs.Settlings.{KnowAll}
use Rattle.node_run.proofs.Columns.{get_seam}
use Rattle.node_run.proofs.Settled.{knows_more, knows_start, still_own}
use Rattle.node_run.proofs.Yielding.{count_first, count_next, nothing_left}
use Rattle.node_run.proofs.life.settling.take_all_in.Goals as goal

pub loop-of_one-init : goal.loop-of_one-init
loop-of_one-init c = record {
  whole = c.into_iter-of_one-iterator.ensures.into_iter_gives.0;
  count = count_first c.into_iter-of_one-iterator.result c.args.senders c.into_iter-of_one-iterator.ensures.into_iter_gives.0
      c.into_iter-of_one-iterator.ensures.into_iter_gives.1;
  know = knows_start c.args.receivers.now.items;
}

pub take_in-requires-clause-receivers : goal.take_in-requires-clause-receivers
take_in-requires-clause-receivers c =
    still_own c.args.queues.now c.loop-of_one.yielded c.args.receivers.now.items c.loop-of_one.receivers.items c.requires.receivers_are c.loop-of_one.invariant.know

pub take_in-requires-clause-senders : goal.take_in-requires-clause-senders
take_in-requires-clause-senders c =
    let before = c.loop-of_one.invariant in
    let list = c.in-Some.of_one in
    let k = length c.loop-of_one.yielded in
    let whole = ap (λ (xs : List (Vec Sending)). c.loop-of_one.yielded ++ xs) (sym c.in-Some.ensures.steps.0) ∙ before.whole in (
      k,
      c.requires.senders_are k list
          (ap (λ (xs : List (Vec Sending)). slice_get xs k) (sym whole) ∙ get_seam c.loop-of_one.yielded (into_iter_items c.next.new.self) list k refl),
    )

pub loop-of_one-preserved : goal.loop-of_one-preserved
loop-of_one-preserved c =
    let before = c.loop-of_one.invariant in
    let list = c.in-Some.of_one in
    let rest = into_iter_items c.next.new.self in
    let k = length c.loop-of_one.yielded in
    let whole = ap (λ (xs : List (Vec Sending)). c.loop-of_one.yielded ++ xs) (sym c.in-Some.ensures.steps.0) ∙ before.whole in
    let there : slice_get c.args.senders.items k ≡ Some list =
    ap (λ (xs : List (Vec Sending)). slice_get xs k) (sym whole) ∙ get_seam c.loop-of_one.yielded rest list k refl in
    record {
      whole = append_assoc c.loop-of_one.yielded (list ∷ []) rest ∙ whole;
      count = count_next c.loop-of_one.of_one-iterator c.next.new.self list c.in-Some.ensures.steps before.count;
      know = knows_more c.args.queues.now k c.loop-of_one.yielded list c.args.receivers.now.items c.loop-of_one.receivers.items c.take_in.new.receivers.items
          (c.requires.senders_are k list there) (before.know.many ∙ c.requires.receivers_are.many) before.know c.take_in.ensures;
    }

pub returns : goal.returns
returns c =
    let before = c.loop-of_one.invariant in
    let all : c.loop-of_one.yielded ≡ c.args.senders.items =
    sym (append-nil c.loop-of_one.yielded)
    ∙ (ap (λ (xs : List (Vec Sending)). c.loop-of_one.yielded ++ xs) (sym (nothing_left c.loop-of_one.of_one-iterator before.count c.in-None.ensures.steps.0)) ∙ before.whole) in
    subst (λ (xs : List (Vec Sending)). KnowAll xs c.args.receivers.now.items c.loop-of_one.receivers.items) all before.know
