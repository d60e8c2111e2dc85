use Rattle.node_run.proofs.Shutting.{all_of_lock, all_rest, each_number, shut}
use Rattle.node_run.proofs.life.closing.close_one.Goals as goal

pub close-shard-requires-clause-own : goal.close-shard-requires-clause-own
close-shard-requires-clause-own g c = all_of_lock c.args.lock c.args.passes.items c.requires

pub close-shard-requires-clause-rest : goal.close-shard-requires-clause-rest
close-shard-requires-clause-rest g c = all_rest c.args.lock c.args.passes.items c.requires

pub close-shard-requires-clause-every : goal.close-shard-requires-clause-every
close-shard-requires-clause-every g c = each_number c.args.lock c.args.passes.items c.requires

pub returns : goal.returns
returns g c =
    let closed = c.close-shard.ensures in
    shut c.args.lock c.args.passes.items c.requires g.R.Rack.tells g.S.Suite.meaning c.close-shard.result closed.origin closed.begins closed.seen closed.made closed.others
    c.tale-tale.ensures.kept
