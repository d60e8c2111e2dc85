use Rattle.std.proofs.Common.{◌++◌, map, reverse, arith}
use Rattle.node_core.proofs.Making.{comes_back, racks_of}
use Rattle.node_core.proofs.node.making.take_back.Goals as goal

pub loop-shard-preserved : goal.loop-shard-preserved
loop-shard-preserved g c =
    let before = c.loop-shard.invariant in
    let left = c.in-Some.ensures in
    let more = c.push_reserved.ensures in
    record {
      are = comes_back g.R.Rack.state (racks_of c.args.shards.items ++ map g.R.Rack.state (reverse c.args.places.items)) c.loop-shard.shards.items c.pop.new.self.items c.in-Some.shard c.loop-shard.places.items c.push_reserved.new.self.items c.into_parts-rack.result.0
          before.are left.items more.items c.into_parts-rack.ensures.rack;
      fit = (let a = left.cases in let b = more.len in let d = more.capacity in let e = before.fit in omega arith);
    }
