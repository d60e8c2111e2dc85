use Rattle.std.proofs.Common.{ℕ, map, arith, subst, ◌∙◌}
use Rattle.node_core.specs.Kept.{IsMade}
use Rattle.node_core.proofs.Making.{goes_in, one_more_made}
use Rattle.node_core.proofs.node.making.make_shards.Goals as goal

pub loop-rack-preserved : goal.loop-rack-preserved
loop-rack-preserved g c =
    let before = c.loop-rack.invariant in
    let left = c.in-Some.ensures in
    let more = c.push_reserved.ensures in
    let place = c.len.ensures ∙ c.loop-rack.shards.ok.0 in
    record {
      are = goes_in g.R.Rack.state (map g.R.Rack.state c.args.racks.items) c.loop-rack.shards.items c.push_reserved.new.self.items c.in-Ok.shard c.loop-rack.racks.items c.pop.new.self.items c.in-Some.rack
          before.are left.items more.items c.in-Ok.ensures.rack;
      made = one_more_made g.R.Rack.tells g.S.Suite.meaning c.args.setup.now c.loop-rack.shards.items c.push_reserved.new.self.items c.in-Ok.shard more.items before.made
          (subst (λ (n : ℕ). IsMade g.R.Rack.tells g.S.Suite.meaning c.args.setup.now n c.in-Ok.shard) place c.in-Ok.ensures.made);
      count = (let a = left.cases in let b = more.len in let e = before.count in omega arith);
      shards_fit = (let a = left.cases in let b = more.len in let d = more.capacity in let e = before.shards_fit in omega arith);
      racks_fit = (let a = left.cases in let b = more.len in let d = left.capacity in let e = before.racks_fit in omega arith);
    }
