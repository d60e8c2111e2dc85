use Rattle.std.proofs.Common.{List, arith, subst}
use Rattle.std.proofs.lemmas.List.{take_all}
use Rattle.mix_shard.specs.Shards.{ShardState}
use Rattle.node_core.specs.Inside.{HasFound}
use Rattle.node_core.specs.Nodes.{all_held}
use Rattle.node_core.proofs.node.sending.first_due.Goals as goal

pub returns : goal.returns
returns g c =
    let all = take_all c.loop-place.place c.args.shards.now (omega (arith, c.loop-place-test.false)) in
    subst (λ (seen : List ShardState). HasFound c.args.moment c.args.shards.now (all_held seen) c.loop-place.first) all c.loop-place.invariant
