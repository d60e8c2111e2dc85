use Rattle.node_actors.proofs.Drained.{spent_is_drained, stays_spent}
use Rattle.node_actors.proofs.actors.draining.stays_drained.Goals as goal
use Rattle.std.proofs.Common.{sym, subst}
use Rattle.turn_lock.proofs.Lists.{after_whole}
use Rattle.node_actors.specs.Calls.{AreByClaimers}

pub returns : goal.returns
returns g c =
    let shard = c.args.shard.now in
    let seen = c.args.pass.now.seen in
    let rest = c.requires.begins.0 in
    let claimers = subst AreByClaimers (after_whole seen rest shard.told c.requires.begins.1) c.requires.claimers in
    spent_is_drained g.R.Rack.tells g.S.Suite.meaning shard c.tale-tale.ensures.kept
    (stays_spent g.R.Rack.tells g.S.Suite.meaning shard c.tale-tale.ensures.kept seen rest (sym c.requires.begins.1) c.requires.spent claimers)
