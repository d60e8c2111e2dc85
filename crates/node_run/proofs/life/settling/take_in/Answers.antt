use Rattle.std.proofs.Common.{◌≡◌, ◌<◌, List, [], ◌∷◌, length, sym, ap, ◌∙◌, subst, arith, Some, slice_set}
use Rattle.std.specs.Prelude.{slice_get}
use Rattle.std.proofs.lemmas.List.{append-nil}
use Rattle.std.proofs.lemmas.Option.{slice_get-get_or}
use Rattle.node_actors.specs.Queues.{Receiving, Sending, after_take_in}
use Rattle.node_run.proofs.Columns.{Spread, get_seam, last_moves, one_less, spread_start, spread_step, with_rest}
use Rattle.node_run.proofs.life.settling.take_in.Goals as goal

abbrev step : Receiving → Sending → Receiving → Type 0
step was sender is = is ≡ after_take_in was sender

pub loop-sender-init : goal.loop-sender-init
loop-sender-init c =
    ([], append-nil c.args.senders.items, spread_start step c.args.receivers.now.items c.args.senders.items (c.requires.senders.1.many ∙ sym c.requires.receivers.many))

pub take_in-requires-clause-receiver : goal.take_in-requires-clause-receiver
take_in-requires-clause-receiver c =
    let before = c.loop-sender.invariant in
    let was = c.index_mut.result.now in
    let n : c.len-at.result ≡ length c.pop.new.self.items = c.len-at.ensures ∙ c.pop.new.self.ok.0 in
    let many = one_less c.loop-sender.senders.items c.pop.new.self.items c.in-Some.sender c.in-Some.ensures.items in
    let whole = last_moves c.loop-sender.senders.items c.pop.new.self.items before.0 c.args.senders.items c.in-Some.sender c.in-Some.ensures.items before.1 in
    let all = with_rest c.pop.new.self.items before.0 c.args.senders.items c.in-Some.sender whole in
    let low : c.len-at.result < length c.loop-sender.receivers.items = omega (arith, n, all, before.2.many, c.requires.receivers.many, c.requires.senders.1.many) in
    let low_queue : c.len-at.result < length c.args.queues.now = omega (arith, n, all, c.requires.senders.1.many) in
    let here = slice_get-get_or c.loop-sender.receivers.items c.len-at.result was low ∙ ap Some (sym c.index_mut.ensures.value) in
    let queue = slice_get-get_or c.args.queues.now c.len-at.result c.index-queues-at.result low_queue ∙ ap Some (sym c.index-queues-at.is) in
    c.requires.receivers.own c.len-at.result c.index-queues-at.result was queue (before.2.before c.len-at.result was (omega (arith, n, many)) here)

pub take_in-requires-clause-sender : goal.take_in-requires-clause-sender
take_in-requires-clause-sender c =
    let before = c.loop-sender.invariant in
    let n : c.len-at.result ≡ length c.pop.new.self.items = c.len-at.ensures ∙ c.pop.new.self.ok.0 in
    let whole = last_moves c.loop-sender.senders.items c.pop.new.self.items before.0 c.args.senders.items c.in-Some.sender c.in-Some.ensures.items before.1 in
    let all = with_rest c.pop.new.self.items before.0 c.args.senders.items c.in-Some.sender whole in
    let low_queue : c.len-at.result < length c.args.queues.now = omega (arith, n, all, c.requires.senders.1.many) in
    let queue = slice_get-get_or c.args.queues.now c.len-at.result c.index-queues-at.result low_queue ∙ ap Some (sym c.index-queues-at.is) in
    c.requires.senders.1.own c.len-at.result c.index-queues-at.result c.in-Some.sender queue
    (ap (λ (xs : List Sending). slice_get xs c.len-at.result) (sym whole) ∙ get_seam c.pop.new.self.items before.0 c.in-Some.sender c.len-at.result n)

pub loop-sender-preserved : goal.loop-sender-preserved
loop-sender-preserved c =
    let before = c.loop-sender.invariant in
    let front = c.pop.new.self.items in
    let sender = c.in-Some.sender in
    let n : c.len-at.result ≡ length front = c.len-at.ensures ∙ c.pop.new.self.ok.0 in
    let many = one_less c.loop-sender.senders.items c.pop.new.self.items c.in-Some.sender c.in-Some.ensures.items in
    let whole = last_moves c.loop-sender.senders.items c.pop.new.self.items before.0 c.args.senders.items c.in-Some.sender c.in-Some.ensures.items before.1 in
    let all = with_rest c.pop.new.self.items before.0 c.args.senders.items c.in-Some.sender whole in
    let low : c.len-at.result < length c.loop-sender.receivers.items = omega (arith, n, all, before.2.many, c.requires.receivers.many, c.requires.senders.1.many) in
    let there = ap (λ (xs : List Sending). slice_get xs c.len-at.result) (sym whole) ∙ get_seam front before.0 sender c.len-at.result n in
    let spread = spread_step step c.args.receivers.now.items c.args.senders.items (length c.loop-sender.senders.items) c.len-at.result c.loop-sender.receivers.items
    c.index_mut.result.now c.take_in.new.receiver sender (omega (arith, n, many)) before.2 low c.index_mut.ensures.value there c.take_in.ensures in (
      sender ∷ before.0,
      whole,
      subst (λ k. Spread step c.args.receivers.now.items c.args.senders.items k (slice_set c.loop-sender.receivers.items c.len-at.result c.take_in.new.receiver)) n spread,
    )
