use Rattle.std.proofs.Common.{rules, All, map, sym, subst, arith}
use Rattle.turn_lock.proofs.Lists.{all_map}
use Rattle.node_run.specs.Openings.{HasAllPasses, IsMade, IsUnused, tale_behind, tale_of}
use Rattle.node_run.proofs.Moving.{all_and_last, all_but_last, all_reversed, all_wait, goes_in, is_last}
use Rattle.node_run.proofs.life.locking.lock_all.Goals as goal

pub loop-shard-init : goal.loop-shard-init
loop-shard-init g c = record {
  are = all_wait tale_of (λ one. tale_behind one.lock) c.args.shards.items c.reverse.new.self.items c.args.made.items c.reverse.ensures.items c.requires.none;
  made = search rules;
  unused = subst (All (IsUnused c.args.callers)) (sym c.reverse.ensures.items) (all_reversed (IsUnused c.args.callers) c.args.shards.items c.requires.unused);
  made_fit = search rules;
  shards_fit = search rules;
}

pub lock-requires-clause-unused : goal.lock-requires-clause-unused
lock-requires-clause-unused g c =
    is_last (IsUnused c.args.callers) c.loop-shard.shards.items c.pop.new.self.items c.in-Some.shard c.in-Some.ensures.items c.loop-shard.invariant.unused

pub unlock_all-requires-clause-made : goal.unlock_all-requires-clause-made
unlock_all-requires-clause-made g c =
    all_map (IsMade c.args.callers) (λ one. HasAllPasses one) c.loop-shard.made.items (λ one is. is.passes) c.loop-shard.invariant.made

pub loop-shard-preserved : goal.loop-shard-preserved
loop-shard-preserved g c =
    let before = c.loop-shard.invariant in
    let left = c.in-Some.ensures in
    let more = c.push_reserved.ensures in
    record {
      are = goes_in tale_of (λ one. tale_behind one.lock) (map tale_of c.args.shards.items) c.loop-shard.made.items c.push_reserved.new.self.items c.in-Ok.one c.loop-shard.shards.items c.pop.new.self.items c.in-Some.shard
          before.are left.items more.items c.in-Ok.ensures.tale;
      made = all_and_last (IsMade c.args.callers) c.loop-shard.made.items c.push_reserved.new.self.items c.in-Ok.one more.items before.made c.in-Ok.ensures.made;
      unused = all_but_last (IsUnused c.args.callers) c.loop-shard.shards.items c.pop.new.self.items c.in-Some.shard left.items before.unused;
      made_fit = (let a = left.cases in let b = more.len in let d = more.capacity in let e = before.made_fit in omega arith);
      shards_fit = (let a = left.cases in let b = more.len in let d = left.capacity in let e = before.shards_fit in omega arith);
    }
