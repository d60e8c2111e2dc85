use Rattle.std.proofs.Common.{◌<◌, ap, subst, sym}
use Rattle.mix_shard.specs.declared.terms.Terms.{Terms}
use Rattle.mix_shard.specs.declared.entries.Told.{Told}
use Rattle.turn_lock.specs.Seen.{Caller}
use Rattle.node_actors.proofs.Drained.{is_active}
use Rattle.node_actors.proofs.Turning.{by_caller, claim_by, grew, still_open, terms_are, turned}
use Rattle.node_actors.proofs.actors.turns.claim.Goals as goal

pub admit-answer-requires-clause-active : goal.admit-answer-requires-clause-active
admit-answer-requires-clause-active g c =
    let shard = c.take-shard.result in
    is_active g.R.Rack.tells g.S.Suite.meaning shard c.tale-tale.ensures.kept c.args.caller
    (subst (λ (t : Terms). c.args.caller < t.callers) (sym (terms_are c.args.lock.now shard c.take-shard.ensures.origin)) c.requires.caller)
    (still_open c.args.pass.now.number c.args.caller c.args.pass.now.seen shard.told c.requires.idle.2 c.take-shard.ensures.begins c.take-shard.ensures.others c.requires.open)

pub give-requires-clause-begins : goal.give-requires-clause-begins
give-requires-clause-begins g c =
    grew g.R.Rack.tells g.S.Suite.meaning c.args.lock.now c.args.caller _ c.args.pass.now _ _ c.admit-answer.ensures.told _ (ap (λ (p : Caller Told). p.seen) c.take-shard.ensures.pass)

pub give-requires-clause-own_entries : goal.give-requires-clause-own_entries
give-requires-clause-own_entries g c =
    let adds = c.admit-answer.ensures.told in
    by_caller g.R.Rack.tells g.S.Suite.meaning c.args.lock.now c.args.caller _ c.args.pass.now _ _ adds _ c.take-shard.ensures.pass c.requires.idle.2
    (claim_by c.args.caller c.args.held _ adds.own adds.own_is)

pub returns : goal.returns
returns g c =
    turned g.R.Rack.tells g.S.Suite.meaning c.args.lock.now c.args.caller _ c.args.pass.now _ _ c.admit-answer.ensures.told _ _
    c.requires.idle c.take-shard.ensures.begins c.take-shard.ensures.others c.take-shard.ensures.pass c.give.ensures.pass
