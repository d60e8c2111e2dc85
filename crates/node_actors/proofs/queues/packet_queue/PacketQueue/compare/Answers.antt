use Rattle.std.proofs.Common.{ℕ, ◌<◌, ap, sym, subst}
use Rattle.std.specs.Prelude.{All}
use Rattle.node_actors.specs.declared.queues.hands.Hand.{Hand}
use Rattle.node_actors.specs.Queues.{items_of, Begins, EndsLast}
use Rattle.node_actors.proofs.Posting.{told_home}
use Rattle.node_actors.proofs.Settling.{from_senders, fronts, ends}
use Rattle.node_actors.proofs.queues.packet_queue.PacketQueue.compare.Goals as goal

pub learn_as-requires-clause-rule : goal.learn_as-requires-clause-rule
learn_as-requires-clause-rule c = told_home _ _ _ _ _ c.receiver.invariant.home

pub returns-clause-front : goal.returns-clause-front
returns-clause-front c =
    let v = c.receiver.inside.seat.me.0.client in
    let told = c.learn_as.ensures.rule in
    let same = sym c.learn_as.ensures.queue.1 in
    let P : Hand → Type 0 = λ h. All (λ s. Begins (items_of s.from h.popped) s.items) h.pushed in
    subst P same (fronts v told.0 told.1)

pub returns-clause-ends : goal.returns-clause-ends
returns-clause-ends c =
    let v = c.receiver.inside.seat.me.0.client in
    let told = c.learn_as.ensures.rule in
    let same = sym c.learn_as.ensures.queue.1 in
    let P : Hand → Type 0 = λ h. All (λ s. EndsLast s.items) h.pushed in
    subst P same (ends v told.0 told.1)

pub returns-clause-from : goal.returns-clause-from
returns-clause-from c =
    let v = c.receiver.inside.seat.me.0.client in
    let told = c.learn_as.ensures.rule in
    let same = sym c.learn_as.ensures.queue.1 in
    let P : ℕ × Hand → Type 0 = λ z. All (λ x. x.from < z.0) z.1.popped in
    subst P (λ i. (ap (λ (h : Hand). h.senders) c.receiver.invariant.home i, same i)) (from_senders v told.0 told.1)
