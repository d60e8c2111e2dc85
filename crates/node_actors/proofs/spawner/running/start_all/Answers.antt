use Rattle.std.proofs.Common.{List, map, sym, subst, arith}
use Rattle.std.specs.declared.thread.PromisedHandle.{PromisedHandle}
use Rattle.node_actors.specs.declared.spawner.running.Answer.{Answer}
use Rattle.node_actors.specs.declared.spawner.running.Asked.{Asked}
use Rattle.node_actors.specs.Gates.{AreFrom}
use Rattle.node_actors.proofs.Moving.{started}
use Rattle.node_actors.proofs.spawner.running.start_all.Goals as goal

pub loop-actor-preserved : goal.loop-actor-preserved
loop-actor-preserved g c =
    let promise : PromisedHandle (Answer g.row.A.Denot g.row.A-Done.Denot) (Asked g.row.A.Denot) → Asked g.row.A.Denot = λ t. t.promise in
    let before = c.loop-actor.invariant in
    let left = c.in-Some.ensures in
    let more = c.push_reserved.ensures in
    let P : List (PromisedHandle (Answer g.row.A.Denot g.row.A-Done.Denot) (Asked g.row.A.Denot)) → Type 0 = λ ts. AreFrom c.args.gate.now.id c.pop.new.self.items c.args.actors.items (map promise ts) in
    record {
      are = subst P (sym more.items) (started promise c.args.gate.now.id c.pop.new.self.items c.loop-actor.actors.items c.args.actors.items c.loop-actor.threads.items c.in-Some.actor c.in-Ok.thread left.items before.are c.in-Ok.ensures.ok.0 c.in-Ok.ensures.ok.1);
      threads_fit = (let a = left.cases in let b = more.len in let d = more.capacity in let e = before.threads_fit in omega arith);
      actors_fit = (let a = left.cases in let b = more.len in let d = left.capacity in let e = before.actors_fit in omega arith);
    }
