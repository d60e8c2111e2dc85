use Rattle.std.proofs.Common.{◌+◌, ◌∷◌, [], ◌++◌, List, length, ap, sym, subst, ◌∙◌}
use Rattle.std.proofs.lemmas.List.{length_push}
use Rattle.atomic_table.specs.Seated.{TableId}
use Rattle.node_actors.specs.Queues.{Receiving}
use Rattle.node_run.specs.Posts.{AreReceivers}
use Rattle.node_run.proofs.Queueing.{one_queue_more}
use Rattle.node_run.proofs.life.queues.open_queues.Goals as goal

pub opening-preserved : goal.opening-preserved
opening-preserved c =
    let before = c.opening.invariant in
    let queues = c.in_ok-push.ensures.items in
    let receivers = c.in_ok-push-2.ensures.items in
    record {
      many = ap (λ xs. length xs) queues ∙ (length_push c.opening.queues.items c.in_ok-queue.queue ∙ ap (λ n. n + 1) before.many);
      receivers = subst (λ (qs : List TableId). AreReceivers 0 qs c.push-in-opening.new.self.items) (sym queues)
          (subst (λ (rs : List Receiving). AreReceivers 0 (c.opening.queues.items ++ c.in_ok-queue.queue ∷ []) rs) (sym receivers)
          (one_queue_more 0 c.opening.queues.items c.opening.receivers.items c.in_ok-queue.queue c.in_ok-queue.receiver before.receivers c.in_ok-queue.ensures));
    }
