use Rattle.std.proofs.Common.{◌^◌, ◌<◌, List, refl, sym, subst, arith}
use Rattle.std.specs.List.{All}
use Rattle.std.proofs.lemmas.List.{with_items_is}
use Rattle.std.proofs.lemmas.List.Elements.{All-nil}
use Rattle.mix_shard.specs.Shards.{ShardState}
use Rattle.node_core.specs.Nodes.{AreShardsOf, AtEachShard, packets_setup}
use Rattle.node_core.specs.Steps.{CrashesShard}
use Rattle.node_core.specs.declared.arrivals.Arrival.{Arrival}
use Rattle.node_core.proofs.Crashing.{none_held, still_shards}
use Rattle.node_core.proofs.node.Node.crash.Goals as goal

pub invariant_of-self : goal.invariant_of-self
invariant_of-self g c =
    let whole = with_items_is c.self.inside.shards c.crash_all.new.shards (omega (arith, c.crash_all.ensures.crashed.count, c.as_mut_slice.ensures.len, c.crash_all.auto.shards)) in (
      subst (λ (shards : List ShardState). AreShardsOf g.R.Rack.tells g.S.Suite.meaning c.self.inside.setup shards) (sym whole)
          (still_shards g.R.Rack.tells g.S.Suite.meaning c.args.pick c.self.inside.setup c.self.inside.shards.items c.crash_all.new.shards
          c.self.invariant.0
          (subst (λ (shards : List ShardState). AtEachShard (CrashesShard g.R.Rack.tells c.args.pick) shards c.crash_all.new.shards) c.as_mut_slice.ensures.value c.crash_all.ensures.crashed)
          c.crash_all.ensures.kept),
      subst (λ (arrivals : List Arrival). All (λ arrival. arrival.at < 2 ^ 60) arrivals) (sym c.clear.ensures.items) (All-nil (λ arrival. arrival.at < 2 ^ 60)),
      c.self.invariant.2,
      c.self.invariant.3,
      none_held (packets_setup c.self.inside.setup),
      c.self.invariant.5,
      c.self.invariant.6,
    )

pub returns-clause-crashes : goal.returns-clause-crashes
returns-clause-crashes g c =
    let whole = with_items_is c.self.inside.shards c.crash_all.new.shards (omega (arith, c.crash_all.ensures.crashed.count, c.as_mut_slice.ensures.len, c.crash_all.auto.shards)) in
    rw (← c.self.view_is, whole, c.clear.ensures.items) (record {
      shards_are = subst (λ (shards : List ShardState). AtEachShard (CrashesShard g.R.Rack.tells c.args.pick) shards c.crash_all.new.shards) c.as_mut_slice.ensures.value c.crash_all.ensures.crashed;
      new_is = refl;
    })

pub returns-clause-kept : goal.returns-clause-kept
returns-clause-kept g c = (invariant_of-self g c).0
