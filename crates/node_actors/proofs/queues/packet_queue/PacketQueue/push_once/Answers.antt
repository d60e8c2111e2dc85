use Rattle.std.proofs.Common.{ap, sym, ◌∙◌, subst}
use Rattle.node_actors.specs.declared.queues.hands.Hand.{Hand}
use Rattle.node_actors.specs.Queues.{Sending, marks, WasFull}
use Rattle.node_actors.specs.QueueRule.{first_items}
use Rattle.node_actors.proofs.Posting.{pushes_kept, rest_learned}
use Rattle.node_actors.proofs.Settling.{was_full}
use Rattle.node_actors.proofs.queues.packet_queue.PacketQueue.push_once.Goals as goal

pub push_as-requires-clause-rule : goal.push_as-requires-clause-rule
push_as-requires-clause-rule g c = (
  pushes_kept _ _ _ _ _ _ c.sender.invariant.one (c.requires.from ∙ sym (ap (λ (s : Sending). s.from) c.sender.view_is)) (ap (λ (s : Sending). marks s.pushed) c.sender.view_is ∙ c.requires.open),
  rest_learned _ _,
)

pub returns-in-Err-clause-full : goal.returns-in-Err-clause-full
returns-in-Err-clause-full g c =
    let seat = c.sender.inside.seat in
    let was : Sending = record { queue = seat.table_id; from = c.sender.inside.from; pushed = first_items seat.me.0.client.pushed } in
    subst WasFull c.sender.view_is (was_full was seat.me.0.client.pushed _ (ap (λ (h : Hand). h.pushed) c.sender.invariant.one) c.self.invariant c.in-Err.ensures.rule.2)
