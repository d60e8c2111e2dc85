use Rattle.std.proofs.Common.{List, [], ◌∷◌, ◌++◌, sym, subst, arith}
use Rattle.std.specs.List.{AllZip}
use Rattle.std.specs.declared.thread.PromisedHandle.{PromisedHandle}
use Rattle.node_actors.specs.declared.spawner.running.Answer.{Answer}
use Rattle.node_actors.specs.declared.spawner.running.Asked.{Asked}
use Rattle.node_actors.proofs.Moving.{waits, came_back, zip_snoc}
use Rattle.node_actors.proofs.spawner.running.join_all.Goals as goal

pub done_of-requires-clause-gate : goal.done_of-requires-clause-gate
done_of-requires-clause-gate g c = λ _ _.
    let promise : PromisedHandle (Answer g.row.A.Denot g.row.A-Done.Denot) (Asked g.row.A.Denot) → Asked g.row.A.Denot = λ t. t.promise in
    let before = c.loop-thread.invariant in
    waits promise c.args.go.now.of before.0 c.args.actors.now.value.items c.loop-thread.threads.items c.pop.new.self.items c.in-Some.thread c.in-Some.ensures.items before.1

pub loop-thread-preserved : goal.loop-thread-preserved
loop-thread-preserved g c =
    let promise : PromisedHandle (Answer g.row.A.Denot g.row.A-Done.Denot) (Asked g.row.A.Denot) → Asked g.row.A.Denot = λ t. t.promise in
    let before = c.loop-thread.invariant in
    let left = c.in-Some.ensures in
    let more = c.push_reserved.ensures in
    let actor = c.in-Some.thread.promise.actor.value in
    let P : List g.row.A-Done.Denot → Type 0 = λ ds. AllZip g.A.Actor.gives (before.0 ++ actor ∷ []) ds in (
      before.0 ++ actor ∷ [],
      came_back promise c.args.go.now.of before.0 c.args.actors.now.value.items c.loop-thread.threads.items c.pop.new.self.items c.in-Some.thread left.items before.1,
      subst P (sym more.items) (zip_snoc g.A.Actor.gives before.0 c.loop-thread.answers.items actor c.done_of.result before.2 c.done_of.ensures),
      (let a = left.cases in let b = more.len in let d = more.capacity in let e = before.3 in omega arith),
    )
