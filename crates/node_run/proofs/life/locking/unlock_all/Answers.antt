use Rattle.std.proofs.Common.{◌++◌, map, reverse, arith}
use Rattle.node_run.specs.Openings.{HasAllPasses, tale_behind, tale_of}
use Rattle.node_run.proofs.Moving.{all_but_last, comes_back}
use Rattle.node_run.proofs.life.locking.unlock_all.Goals as goal

pub loop-one-preserved : goal.loop-one-preserved
loop-one-preserved g c =
    let before = c.loop-one.invariant in
    let left = c.in-Some.ensures in
    let more = c.push_reserved.ensures in
    record {
      are = comes_back tale_of (λ one. tale_behind one.lock) (map (λ one. tale_behind one.lock) c.args.made.items ++ map tale_of (reverse c.args.rest.items)) c.loop-one.made.items c.pop.new.self.items c.in-Some.one c.loop-one.rest.items c.push_reserved.new.self.items c.unlock.result
          before.are left.items more.items c.unlock.ensures;
      made = all_but_last (λ one. HasAllPasses one) c.loop-one.made.items c.pop.new.self.items c.in-Some.one left.items before.made;
      fit = (let a = left.cases in let b = more.len in let d = more.capacity in let e = before.fit in omega arith);
    }
