use Rattle.std.proofs.Common.{ap}
use Rattle.mix_shard.specs.declared.entries.Told.{Told}
use Rattle.turn_lock.specs.Seen.{Caller}
use Rattle.node_actors.proofs.Accepted.{found_since, found_under}
use Rattle.node_actors.proofs.Turning.{grew, turned}
use Rattle.node_actors.proofs.actors.turns.take_out_local.Goals as goal

pub give-requires-clause-begins : goal.give-requires-clause-begins
give-requires-clause-begins g c =
    grew g.R.Rack.tells g.S.Suite.meaning c.args.lock.now c.args.caller _ c.args.pass.now _ _ c.find_local-found.ensures.adds _ (ap (λ (p : Caller Told). p.seen) c.take-shard.ensures.pass)

pub returns-clause-turn : goal.returns-clause-turn
returns-clause-turn g c =
    turned g.R.Rack.tells g.S.Suite.meaning c.args.lock.now c.args.caller _ c.args.pass.now _ _ c.find_local-found.ensures.adds _ _
    c.requires.idle c.take-shard.ensures.begins c.take-shard.ensures.others c.take-shard.ensures.pass c.give.ensures.pass

pub returns-clause-accepted : goal.returns-clause-accepted
returns-clause-accepted g c =
    found_since g.R.Rack.tells g.S.Suite.meaning c.args.lock.now c.args.pass.now c.take-shard.result c.tale-tale.ensures.kept c.requires.saw c.take-shard.ensures.begins c.requires.nothing_held
    c.args.caller _ c.give.new.pass _ c.find_local-found.ensures.adds (ap (λ (p : Caller Told). p.seen) c.give.ensures.pass) c.find_local-found.result c.find_local-found.ensures.was_held

pub returns-clause-setup : goal.returns-clause-setup
returns-clause-setup g c =
    found_under g.R.Rack.tells g.S.Suite.meaning c.args.lock.now c.args.pass.now c.take-shard.result c.tale-tale.ensures.kept c.requires.saw c.take-shard.ensures.begins c.requires.nothing_held
    c.take-shard.ensures.origin c.find_local-found.result c.find_local-found.ensures.was_held
