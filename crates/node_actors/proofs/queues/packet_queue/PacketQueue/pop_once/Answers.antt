use Rattle.node_actors.proofs.Posting.{pops_kept}
use Rattle.node_actors.proofs.Settling.{received}
use Rattle.node_actors.proofs.queues.packet_queue.PacketQueue.pop_once.Goals as goal

pub pop_as-requires-clause-rule : goal.pop_as-requires-clause-rule
pop_as-requires-clause-rule g c = (pops_kept _ _ _ _ _ c.receiver.invariant.home, λ items views posted at. tt)

pub invariant_of-receiver-in-Some : goal.invariant_of-receiver-in-Some
invariant_of-receiver-in-Some g c = received _ _ _ _ _ c.in-Some.item c.receiver.invariant c.pop_as.ensures.queue.2 c.in-Some.ensures.rule c.with_mark-receiver-inside.ensures
