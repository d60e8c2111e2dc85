use Rattle.std.proofs.Common.{refl, ap}
use Rattle.node_actors.specs.Queues.{Receiving}
use Rattle.node_actors.specs.Working.{WorkerState}
use Rattle.node_actors.proofs.Working.{worked_on}
use Rattle.node_actors.proofs.actors.working.Worker.work.Goals as goal

pub invariant_of-self : goal.invariant_of-self
invariant_of-self g c =
    let was : WorkerState = record { dealer = c.self.inside.dealer; queue = c.self.inside.queue.now; receiver = c.self.inside.receiver } in
    worked_on was c.pop_and_deal.new.dealer c.pop_and_deal.new.receiver c.self.invariant c.pop_and_deal.ensures.item

pub returns : goal.returns
returns g c = rw (← c.self.view_is) (record {
  same_seat = c.pop_and_deal.ensures.seat;
  queue = refl;
  senders = ap (λ (r : Receiving). r.senders) c.pop_and_deal.ensures.item.receiver;
})
