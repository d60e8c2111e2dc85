use Rattle.node_actors.proofs.Posting.{begins}
use Rattle.node_actors.proofs.queues.packet_queue.PacketQueue.new.Goals as goal

pub ruled-requires-clause-rule : goal.ruled-requires-clause-rule
ruled-requires-clause-rule c = begins
