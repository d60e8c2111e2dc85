use Rattle.std.proofs.Common.{◌≡◌, subst, sym}
use Rattle.node_actors.specs.Queues.{marks}
use Rattle.node_actors.specs.Working.{KeepsWorking, WorkerState}
use Rattle.node_actors.proofs.Working.{worked_end}
use Rattle.node_actors.proofs.actors.working.Worker.run.Goals as goal

pub returns-clause-worked : goal.returns-clause-worked
returns-clause-worked g c =
    let served : WorkerState = record { dealer = c.self.inside.dealer; queue = c.self.inside.queue.now; receiver = c.self.inside.receiver } in
    let kept = subst (λ (w : WorkerState). KeepsWorking c.args.self w) (sym c.self.view_is) c.serve.ensures.kept in
    let ended = subst (λ (w : WorkerState). marks w.receiver.popped ≡ w.receiver.senders) (sym c.self.view_is) c.serve.ensures.ended in
    worked_end c.args.self served c.end.result.seat c.end.result.log.items kept ended c.self.invariant c.end.ensures.seat c.end.ensures.log c.end.ensures.dealt.claims_are
