use Rattle.std.proofs.Common.{List, [], ◌∷◌, ◌++◌, map, sym, ap, ◌∙◌, subst, arith}
use Rattle.std.specs.declared.thread.PromisedHandle.{PromisedHandle}
use Rattle.node_actors.specs.declared.spawner.running.Answer.{Answer}
use Rattle.node_actors.specs.declared.spawner.running.Asked.{Asked}
use Rattle.node_actors.specs.Gates.{AreFrom}
use Rattle.node_actors.proofs.Moving.{waits, came_back}
use Rattle.node_actors.proofs.spawner.running.take_back.Goals as goal

pub actor_of-requires-clause-gate : goal.actor_of-requires-clause-gate
actor_of-requires-clause-gate g c = λ _ _.
    let promise : PromisedHandle (Answer g.row.A.Denot g.row.A-Done.Denot) (Asked g.row.A.Denot) → Asked g.row.A.Denot = λ t. t.promise in
    waits promise c.args.stopped.order.of c.loop-thread.actors_back.items c.args.actors.now.value.items c.loop-thread.threads.items c.pop.new.self.items c.in-Some.thread c.in-Some.ensures.items c.loop-thread.invariant.are

pub loop-thread-preserved : goal.loop-thread-preserved
loop-thread-preserved g c =
    let promise : PromisedHandle (Answer g.row.A.Denot g.row.A-Done.Denot) (Asked g.row.A.Denot) → Asked g.row.A.Denot = λ t. t.promise in
    let before = c.loop-thread.invariant in
    let left = c.in-Some.ensures in
    let more = c.push_reserved.ensures in
    let back = c.loop-thread.actors_back.items in
    let P : List g.row.A.Denot → Type 0 = λ xs. AreFrom c.args.stopped.order.of xs c.args.actors.now.value.items (map promise c.pop.new.self.items) in
    record {
      are = subst P (sym (more.items ∙ ap (λ (x : g.row.A.Denot). back ++ x ∷ []) c.actor_of.ensures))
          (came_back promise c.args.stopped.order.of back c.args.actors.now.value.items c.loop-thread.threads.items c.pop.new.self.items c.in-Some.thread left.items before.are);
      fit = (let a = left.cases in let b = more.len in let d = more.capacity in let e = before.fit in omega arith);
    }
