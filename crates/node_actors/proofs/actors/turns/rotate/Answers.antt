use Rattle.std.proofs.Common.{◌≡◌, ◌∙◌, List, ap, sym, subst, ℕ}
use Rattle.mix_shard.specs.declared.entries.Told.{Told}
use Rattle.turn_lock.specs.Seen.{Caller}
use Rattle.node_actors.specs.Calls.{IsSpent, terms_in}
use Rattle.mix_shard.specs.declared.terms.Terms.{Terms}
use Rattle.node_actors.proofs.Drained.{drained_is_spent}
use Rattle.node_actors.proofs.Turning.{by_caller, grew, rotate_by, terms_are, turned}
use Rattle.node_actors.proofs.actors.turns.rotate.Goals as goal

pub give-requires-clause-begins : goal.give-requires-clause-begins
give-requires-clause-begins g c =
    grew g.R.Rack.tells g.S.Suite.meaning c.args.lock.now c.args.caller _ c.args.pass.now _ _ c.rotate_once-tried.ensures.adds _ (ap (λ (p : Caller Told). p.seen) c.take-shard.ensures.pass)

pub give-requires-clause-own_entries : goal.give-requires-clause-own_entries
give-requires-clause-own_entries g c =
    let adds = c.rotate_once-tried.ensures.adds in
    by_caller g.R.Rack.tells g.S.Suite.meaning c.args.lock.now c.args.caller _ c.args.pass.now _ _ adds _ c.take-shard.ensures.pass c.requires.idle.2
    (rotate_by c.args.caller c.args.moment adds.own_is.0 adds.own adds.own_is.1)

pub returns-clause-turn : goal.returns-clause-turn
returns-clause-turn g c =
    turned g.R.Rack.tells g.S.Suite.meaning c.args.lock.now c.args.caller _ c.args.pass.now _ _ c.rotate_once-tried.ensures.adds _ _
    c.requires.idle c.take-shard.ensures.begins c.take-shard.ensures.others c.take-shard.ensures.pass c.give.ensures.pass

pub returns-clause-drained : goal.returns-clause-drained
returns-clause-drained g c = λ drained.
    let before = c.take-shard.result in
    let shard = c.rotate_once-tried.new.shard in
    let spent = drained_is_spent g.R.Rack.tells g.S.Suite.meaning shard c.tale-tale.ensures.kept (c.is_drained-drained.ensures.0 drained) in
    let callers : shard.terms.callers ≡ (terms_in c.args.lock.now.origin).callers =
    ap (λ (t : Terms). t.callers) (c.rotate_once-tried.ensures.adds.began.terms ∙ terms_are c.args.lock.now before c.take-shard.ensures.origin) in
    let seen : shard.told ≡ c.give.new.pass.seen = sym (ap (λ (p : Caller Told). p.seen) c.give.ensures.pass) in
    subst (λ (z : ℕ × List Told). IsSpent z.0 z.1) (λ i. (callers i, seen i)) spent
