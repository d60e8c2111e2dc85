use Rattle.node_actors.proofs.Posting.{merges_kept}
use Rattle.node_actors.proofs.queues.packet_queue.PacketQueue.take_in.Goals as goal

pub absorb-requires-clause-rule : goal.absorb-requires-clause-rule
absorb-requires-clause-rule c = merges_kept _ _ _ _ _ _ _ c.receiver.invariant.home
