use Rattle.std.proofs.Common.{◌≡◌, ◌+◌, ◌<◌, List, length, get_or, sym, ap, ◌∙◌, subst, arith, Some, slice_set}
use Rattle.std.specs.Prelude.{slice_get}
use Rattle.std.proofs.lemmas.List.{set-get_or}
use Rattle.std.proofs.lemmas.Option.{slice_get-get_or}
use Rattle.node_actors.specs.Queues.{Receiving}
use Rattle.node_run.specs.Settlings.{AreSettledBelow}
use Rattle.node_run.proofs.Settled.{settled_more}
use Rattle.node_run.proofs.life.settling.settle_each.Goals as goal

pub loop-at-preserved : goal.loop-at-preserved
loop-at-preserved c =
    let before = c.loop-at.invariant in
    let now = c.loop-at.receivers.items in
    let at = c.loop-at.at in
    let was = c.index_mut.result.now in
    let new = c.settle.new.receiver in
    let settled = c.settle.ensures in
    let low : at < length now = omega (arith, c.loop-at-test.true, c.requires.own.many, ap (λ (rs : List Receiving). length rs) before.same) in
    let there : new ≡ get_or now at was = settled.same ∙ c.index_mut.ensures.value in
    let same : slice_set now at new ≡ now = ap (λ (r : Receiving). slice_set now at r) there ∙ set-get_or now at was in
    let here : slice_get now at ≡ Some new = slice_get-get_or now at was low ∙ ap Some (sym there) in
    record {
      same = same ∙ before.same;
      settled = subst (λ (rs : List Receiving). AreSettledBelow (at + 1) rs) (sym same) (settled_more at now new here settled.all settled.from before.settled);
    }
