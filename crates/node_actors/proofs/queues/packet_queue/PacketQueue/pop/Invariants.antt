use Rattle.std.proofs.Common.{◌≡◌}
use Rattle.node_actors.proofs.queues.packet_queue.PacketQueue.pop.Given as goal

abbrev pub invariant-loop : goal.invariant-loop
invariant-loop g l = l.receiver ≡ l.initial.receiver
