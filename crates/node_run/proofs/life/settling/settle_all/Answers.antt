use Rattle.std.proofs.Common.{◌≡◌, length, sym, subst, arith}
use Rattle.node_actors.specs.Queues.{Receiving, marks}
use Rattle.node_actors.proofs.Seating.{get_low, get_there}
use Rattle.node_run.specs.Settlings.{AreSettledBelow}
use Rattle.node_run.proofs.Settled.{popped_all, still_own}
use Rattle.node_run.proofs.life.settling.settle_all.Goals as goal

pub settle_each-requires-clause-own : goal.settle_each-requires-clause-own
settle_each-requires-clause-own c =
    still_own c.args.queues.now c.args.senders.items c.args.receivers.items c.take_all_in.new.receivers.items c.requires.receivers_are c.take_all_in.ensures

pub settle_each-requires-clause-ended : goal.settle_each-requires-clause-ended
settle_each-requires-clause-ended c w receiver is =
    let know = c.take_all_in.ensures in
    let was = get_there c.args.receivers.items w (omega (arith, get_low c.take_all_in.new.receivers.items w receiver is, know.many)) in
    let same = know.same w was.0 receiver was.1 is in
    subst (λ (r : Receiving). marks r.popped ≡ r.senders) (sym same) (c.requires.ended w was.0 was.1)

pub returns : goal.returns
returns c =
    popped_all c.args.queues.now c.args.receivers.items c.take_all_in.new.receivers.items c.args.senders.items c.requires c.take_all_in.ensures
    (subst (λ rs. AreSettledBelow (length c.args.queues.now) rs) c.settle_each.ensures.same c.settle_each.ensures.settled)
