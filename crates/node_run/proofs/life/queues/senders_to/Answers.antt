use Rattle.std.proofs.Common.{rules, ◌≡◌, ◌+◌, List, Some, ap, sym, subst, ◌∙◌}
use Rattle.std.specs.Prelude.{slice_get, slice_set}
use Rattle.std.proofs.lemmas.Option.{slice_get-get_or}
use Rattle.node_actors.specs.Queues.{Sending}
use Rattle.node_run.proofs.Queueing.{HaveMadeBelow, next_made}
use Rattle.node_run.proofs.life.queues.senders_to.Goals as goal

pub loop-worker-preserved : goal.loop-worker-preserved
loop-worker-preserved c =
    let before = c.loop-worker.invariant in
    let worker = c.loop-worker.worker in
    let queue = c.index-queues-worker.result in
    let old = c.index_mut.result.now in
    let queue_at : slice_get c.args.queues.now worker ≡ Some queue = slice_get-get_or c.args.queues.now worker queue (search rules) ∙ ap Some (sym c.index-queues-worker.is) in
    let old_at : slice_get c.loop-worker.receivers.items worker ≡ Some old = slice_get-get_or c.loop-worker.receivers.items worker old (search rules) ∙ ap Some (search rules) in
    subst (λ (senders : List Sending). HaveMadeBelow c.args.place c.args.queues.now (slice_set c.loop-worker.receivers.items worker c.sender-sender.new.receiver) senders (worker + 1))
    (sym c.in_ok-push.ensures.items)
    (next_made c.args.place c.args.queues.now c.loop-worker.receivers.items c.loop-worker.senders.items worker queue old c.sender-sender.new.receiver c.sender-sender.result
    before queue_at old_at c.sender-sender.ensures.receiver c.sender-sender.ensures.sender)
