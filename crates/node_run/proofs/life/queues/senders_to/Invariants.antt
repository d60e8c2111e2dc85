use Rattle.node_run.proofs.Queueing.{HaveMadeBelow}
use Rattle.node_run.proofs.life.queues.senders_to.Given as goal

abbrev pub invariant-loop-worker : goal.invariant-loop-worker
invariant-loop-worker l = HaveMadeBelow l.place l.queues l.receivers.items l.senders.items l.worker
