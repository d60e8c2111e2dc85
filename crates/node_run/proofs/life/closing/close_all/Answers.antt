use Rattle.std.proofs.Common.{List, [], ◌∷◌, ◌++◌, length, reverse, sym, ap, subst, arith}
use Rattle.std.specs.Global.{Vec}
use Rattle.std.proofs.lemmas.List.{append-nil}
use Rattle.mix_shard.specs.Shards.{ShardState}
use Rattle.mix_shard.specs.declared.entries.Told.{Told}
use Rattle.turn_lock.specs.Seen.{Caller, Lock}
use Rattle.node_run.specs.Closings.{AreAllPasses, AreShut}
use Rattle.node_run.proofs.Columns.{last_moves, one_less}
use Rattle.node_run.proofs.Shutting.{last_passes, passes_many, shut_more}
use Rattle.node_run.proofs.life.closing.close_all.Goals as goal

pub loop-lock-init : goal.loop-lock-init
loop-lock-init g c = (
  [],
  [],
  append-nil c.args.locks.items,
  append-nil c.args.lists.items,
  passes_many c.args.locks.items c.args.lists.items c.requires.passes,
  subst (λ (xs : List ShardState). AreShut g.R.Rack.tells g.S.Suite.meaning [] [] (reverse xs)) (sym c.requires.none) tt,
  omega (arith, c.requires.room, c.args.shards.ok.0, ap (λ (xs : List ShardState). length xs) c.requires.none),
)

pub close_one-requires : goal.close_one-requires
close_one-requires g c =
    let before = c.loop-lock.invariant in
    let locks = c.pop.new.self.items in
    let lists = c.pop-in-Some.new.self.items in
    let lock = c.in-Some.lock in
    let passes = c.in-Some-pop.passes in
    let whole = last_moves c.loop-lock.locks.items locks before.0 c.args.locks.items lock c.in-Some.ensures.items before.2 in
    let whole_lists = last_moves c.loop-lock.lists.items lists before.1 c.args.lists.items passes c.in-Some-pop.ensures.items before.3 in
    let many = one_less c.loop-lock.locks.items locks lock c.in-Some.ensures.items in
    let many_lists = one_less c.loop-lock.lists.items lists passes c.in-Some-pop.ensures.items in
    last_passes locks before.0 lists before.1 lock passes (omega (arith, many, many_lists, before.4))
    (subst (λ (xs : List (Lock Told)). AreAllPasses xs (lists ++ passes ∷ before.1)) (sym whole)
    (subst (λ (xs : List (Vec (Caller Told))). AreAllPasses c.args.locks.items xs) (sym whole_lists) c.requires.passes))

pub loop-lock-preserved : goal.loop-lock-preserved
loop-lock-preserved g c =
    let before = c.loop-lock.invariant in
    let locks = c.pop.new.self.items in
    let lists = c.pop-in-Some.new.self.items in
    let lock = c.in-Some.lock in
    let passes = c.in-Some-pop.passes in
    let many = one_less c.loop-lock.locks.items locks lock c.in-Some.ensures.items in
    let many_lists = one_less c.loop-lock.lists.items lists passes c.in-Some-pop.ensures.items in (
      lock ∷ before.0,
      passes ∷ before.1,
      last_moves c.loop-lock.locks.items locks before.0 c.args.locks.items lock c.in-Some.ensures.items before.2,
      last_moves c.loop-lock.lists.items lists before.1 c.args.lists.items passes c.in-Some-pop.ensures.items before.3,
      omega (arith, many, many_lists, before.4),
      subst (λ (xs : List ShardState). AreShut g.R.Rack.tells g.S.Suite.meaning (lock ∷ before.0) (passes ∷ before.1) (reverse xs)) (sym c.push_reserved.ensures.items)
          (shut_more g.R.Rack.tells g.S.Suite.meaning before.0 before.1 c.loop-lock.shards.items lock passes c.close_one.result c.close_one.ensures before.5),
      (let a = c.in-Some.ensures.cases in let b = c.push_reserved.ensures.len in let d = c.push_reserved.ensures.capacity in let e = before.6 in omega arith),
    )
