use Rattle.std.proofs.Common.{[], ◌∷◌, subst}
use Rattle.epoch_keys.specs.Epochs.{least_live}
use Rattle.replay_disk.specs.Moments.{AtEachMoment}
use Rattle.spent_store.specs.Changes.{claim_stages}
use Rattle.spent_store.specs.Stores.{OpensToOneOf}
use Rattle.mix_shard.specs.Shards.{on_the_way}
use Rattle.mix_shard.specs.declared.terms.Terms.{Terms}
use Rattle.mix_shard.proofs.Changes.{moments_opened}
use Rattle.mix_shard.proofs.Chains.{claim_refused_by, moments_both}
use Rattle.mix_shard.proofs.shard.Shard.admit.Goals as goal

pub returns-in_err-sound_for-clause-told : goal.returns-in_err-sound_for-clause-told
returns-in_err-sound_for-clause-told g c =
    claim_refused_by g.R.Rack.tells g.S.Suite.meaning c.args.caller c.args.held c.claim_of.result c.in_err-sound_for.field-0.0 c.from_residual.result c.args.self.now c.sound_for.new.self
    c.from_residual.ensures.1 c.claim_of.ensures.entry c.claim_of.ensures.packet c.requires.active c.claim_of.ensures.held c.requires.setup
    c.in_err-sound_for.ensures.refused c.in_err-sound_for.ensures.among

pub returns-in_err-sound_for-clause-each_moment : goal.returns-in_err-sound_for-clause-each_moment
returns-in_err-sound_for-clause-each_moment g c t known =
    let old = c.args.self.now in
    moments_opened old.terms (claim_stages c.args.held.epoch (c.args.held.tag ∷ []) (least_live old.terms.setup.times c.args.held.at)) old.state.journal old.rack c.sound_for.new.self.rack (c.in_err-sound_for.ensures.each_moment t known)

pub returns-clause-each_moment : goal.returns-clause-each_moment
returns-clause-each_moment g c t known =
    let old = c.args.self.now in
    let mid = c.sound_for.new.self in
    moments_both g.R.Rack.tells g.S.Suite.meaning c.args.caller old mid c.spend.new.self.rack (claim_stages c.args.held.epoch (c.args.held.tag ∷ []) (least_live old.terms.setup.times c.args.held.at)) t c.in_ok-sound_for.ensures.ok
    (c.in_ok-sound_for.ensures.each_moment t known)
    (subst (λ (x : Terms). AtEachMoment (OpensToOneOf x.shape x.limit (on_the_way x.shape (claim_stages c.args.held.epoch (c.args.held.tag ∷ []) (least_live x.setup.times c.args.held.at)) mid.state.journal)) mid.rack c.spend.new.self.rack)
    c.in_ok-sound_for.ensures.ok.adds.began.terms (c.spend.ensures.each_moment t))
