use Rattle.std.proofs.Common.{All, [], ◌∷◌, refl, sym, ◌∙◌, subst, arith}
use Rattle.std.proofs.lemmas.List.{append-nil}
use Rattle.mix_shard.specs.Shards.{IsKept}
use Rattle.turn_lock.proofs.Lists.{all_cons}
use Rattle.net_run.proofs.Stacks.{empty_list, goes_over, gone_more}
use Rattle.net_run.proofs.closing.push_shards.Goals as goal

pub loop-shard-init : goal.loop-shard-init
loop-shard-init g c = record {
  are = refl;
  gone = [];
  shards = sym (append-nil c.args.shards.items);
  kept = λ k d low. absurd (omega (arith, low));
  fit = c.requires.room;
  len = refl;
  capacity = refl;
}

pub loop-shard-preserved : goal.loop-shard-preserved
loop-shard-preserved g c =
    let before = c.loop-shard.invariant in
    let popped = c.in-Some.ensures.cases in
    record {
      are = goes_over (λ shard. shard.rack) g.R.Rack.state _ c.loop-shard.shards.items c.pop.new.self.items c.in-Some.shard c.loop-shard.racks.items c.push_reserved.new.self.items
          c.into_parts-rack.result.0 before.are c.in-Some.ensures.items c.push_reserved.ensures.items c.into_parts-rack.ensures.rack;
      gone = c.in-Some.shard ∷ before.gone;
      shards = gone_more c.args.shards.items c.loop-shard.shards.items c.pop.new.self.items before.gone c.in-Some.shard before.shards c.in-Some.ensures.items;
      kept = all_cons (IsKept g.R.Rack.tells g.S.Suite.meaning) c.in-Some.shard before.gone c.tale-tale.ensures.kept before.kept;
      fit = (let a = c.push_reserved.ensures.len in let b = c.push_reserved.ensures.capacity in let d = before.fit in omega (arith, popped));
      len = (let a = c.push_reserved.ensures.len in let d = before.len in omega (arith, popped));
      capacity = c.push_reserved.ensures.capacity ∙ before.capacity;
    }
