use Rattle.std.proofs.Common.{◌≡◌, ℕ, ◌<◌, ap, sym, ◌∙◌, subst}
use Rattle.std.specs.Prelude.{All}
use Rattle.node_actors.specs.declared.queues.hands.Hand.{Hand}
use Rattle.node_actors.specs.Queues.{Receiving, items_of, marks}
use Rattle.node_actors.proofs.Posting.{told_home}
use Rattle.node_actors.proofs.Settling.{from_senders, settled}
use Rattle.node_actors.proofs.queues.packet_queue.PacketQueue.settle.Goals as goal

pub learn_as-requires-clause-rule : goal.learn_as-requires-clause-rule
learn_as-requires-clause-rule c = told_home _ _ _ _ _ c.receiver.invariant.home

pub returns-clause-all : goal.returns-clause-all
returns-clause-all c =
    let v = c.receiver.inside.seat.me.0.client in
    let told = c.learn_as.ensures.rule in
    let same = sym c.learn_as.ensures.queue.1 in
    let P : Hand → Type 0 = λ h. All (λ s. items_of s.from h.popped ≡ s.items) h.pushed in
    let senders = ap (λ (h : Hand). h.senders) c.receiver.invariant.home in
    let ended = ap (λ (r : Receiving). marks r.popped) c.receiver.view_is ∙ (c.requires.ended ∙ sym (ap (λ (r : Receiving). r.senders) c.receiver.view_is)) in
    subst P same (settled v told.0 told.1 (ended ∙ sym senders))

pub returns-clause-from : goal.returns-clause-from
returns-clause-from c =
    let v = c.receiver.inside.seat.me.0.client in
    let told = c.learn_as.ensures.rule in
    let same = sym c.learn_as.ensures.queue.1 in
    let P : ℕ × Hand → Type 0 = λ z. All (λ x. x.from < z.0) z.1.popped in
    subst P (λ i. (ap (λ (h : Hand). h.senders) c.receiver.invariant.home i, same i)) (from_senders v told.0 told.1)
