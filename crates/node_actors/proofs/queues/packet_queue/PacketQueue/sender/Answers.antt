use Rattle.node_actors.proofs.Posting.{forks_kept}
use Rattle.node_actors.proofs.queues.packet_queue.PacketQueue.sender.Goals as goal

pub another-seat-requires-clause-rule : goal.another-seat-requires-clause-rule
another-seat-requires-clause-rule c = forks_kept _ _ _ _ _ c.receiver.invariant.home
