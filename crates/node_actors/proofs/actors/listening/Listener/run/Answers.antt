use Rattle.std.proofs.Common.{length, sym, subst}
use Rattle.node_actors.specs.Listening.{EndsBy, KeepsListening, ListenerState}
use Rattle.node_actors.proofs.Listening.{listened_end}
use Rattle.node_actors.proofs.actors.listening.Listener.run.Goals as goal

pub returns-clause-course : goal.returns-clause-course
returns-clause-course g c =
    let served : ListenerState g.row.C.Denot = record {
      post = record { clock = c.self.inside.clock.now; queues = c.self.inside.queues.now; size = length c.self.inside.buffer.items; place = c.self.inside.place; listeners = c.self.inside.listeners };
      dealer = c.self.inside.dealer;
      link = record { left = g.N.LinkIn.left c.self.inside.link; faults = g.N.LinkIn.faults c.self.inside.link };
      senders = c.self.inside.senders.items;
      next = c.self.inside.next;
      worker = c.self.inside.worker;
      course = c.self.inside.course.items;
    } in
    let kept = subst (λ (s : ListenerState g.row.C.Denot). KeepsListening c.args.self s) (sym c.self.view_is) c.serve-ending.ensures.kept in
    let ends = subst (λ (s : ListenerState g.row.C.Denot). EndsBy c.args.self.post (length s.course) c.args.self.link s.link c.serve-ending.result) (sym c.self.view_is) c.serve-ending.ensures.ended in
    listened_end g.C.Clock.may_give c.args.self served c.end.result.log.items c.finish_all.new.senders.items c.serve-ending.result kept ends c.self.invariant.1 c.end.ensures.log c.finish_all.ensures
