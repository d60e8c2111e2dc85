use Rattle.std.proofs.Common.{◌+◌, arith, length, refl, ap}
use Rattle.node_actors.specs.Listening.{ListenerState}
use Rattle.node_actors.specs.Packets.{Packet}
use Rattle.node_actors.proofs.Listening.{keeps_end, keeps_failed, keeps_first, keeps_packet, listened_on, next_by}
use Rattle.node_actors.proofs.actors.listening.Listener.listen.Goals as goal

pub invariant_of-self : goal.invariant_of-self
invariant_of-self g c =
    let was : ListenerState g.row.C.Denot = record {
      post = record { clock = c.self.inside.clock.now; queues = c.self.inside.queues.now; size = length c.self.inside.buffer.items; place = c.self.inside.place; listeners = c.self.inside.listeners };
      dealer = c.self.inside.dealer;
      link = record { left = g.N.LinkIn.left c.self.inside.link; faults = g.N.LinkIn.faults c.self.inside.link };
      senders = c.self.inside.senders.items;
      next = c.self.inside.next;
      worker = c.self.inside.worker;
      course = c.self.inside.course.items;
    } in
    let size = c.take_next.ensures.size in
    let some = c.self.invariant.0 in (
      omega (arith, size, some),
      listened_on g.C.Clock.may_give was c.hand_over-taken.result c.in-Some.number c.checked_add-self-inside.result c.self.invariant.1 c.in-Some.is
          (next_by c.checked_add-self-inside.result (c.in-Some.number + c.self.inside.listeners) c.checked_add-self-inside.ensures)
          (record { clock = c.self.inside.clock.now; queues = c.self.inside.queues.now; size = length c.take_next.new.buffer.items; place = c.self.inside.place; listeners = c.self.inside.listeners })
          c.push.new.self.items c.hand_over-taken.new.dealer (record { left = g.N.LinkIn.left c.take_next.new.link; faults = g.N.LinkIn.faults c.take_next.new.link }) c.hand_over-taken.new.senders.items
          c.now.result c.take_next.new.buffer.items
          (λ i. record { clock = c.self.inside.clock.now; queues = c.self.inside.queues.now; size = c.take_next.ensures.size i; place = c.self.inside.place; listeners = c.self.inside.listeners })
          c.push.ensures c.hand_over-taken.ensures.taken c.hand_over-taken.ensures.worker size c.now.ensures.given c.hand_over-taken.ensures.open c.hand_over-taken.ensures.handed
          c.hand_over-taken.ensures.log,
    )

pub returns-in_default-clause-kept : goal.returns-in_default-clause-kept
returns-in_default-clause-kept g c = keeps_first _

pub returns-in-Packet-clause-kept : goal.returns-in-Packet-clause-kept
returns-in-Packet-clause-kept g c =
    rw (← c.self.view_is) (keeps_packet _ _
    (λ i. record { clock = c.self.inside.clock.now; queues = c.self.inside.queues.now; size = c.take_next.ensures.size i; place = c.self.inside.place; listeners = c.self.inside.listeners })
    c.take_next.ensures.count c.hand_over-taken.result c.take_next.new.buffer.items (ap (λ (p : Packet). p.bytes) c.hand_over-taken.ensures.taken) c.hand_over-taken.ensures.seat
    c.push.ensures c.in-Packet.ensures.taken)

pub returns-in-End-clause-kept : goal.returns-in-End-clause-kept
returns-in-End-clause-kept g c =
    rw (← c.self.view_is) (keeps_end _ _
    (λ i. record { clock = c.self.inside.clock.now; queues = c.self.inside.queues.now; size = c.take_next.ensures.size i; place = c.self.inside.place; listeners = c.self.inside.listeners })
    c.take_next.ensures.count c.in-End.cut refl refl c.in-End.ensures.taken)

pub returns-in-Failed-clause-kept : goal.returns-in-Failed-clause-kept
returns-in-Failed-clause-kept g c =
    rw (← c.self.view_is) (keeps_failed _ _
    (λ i. record { clock = c.self.inside.clock.now; queues = c.self.inside.queues.now; size = c.take_next.ensures.size i; place = c.self.inside.place; listeners = c.self.inside.listeners })
    c.take_next.ensures.count refl refl c.in-Failed.ensures.taken)
