use Rattle.std.proofs.Common.{subst}
use Rattle.epoch_keys.specs.Epochs.{least_live}
use Rattle.replay_disk.specs.Moments.{AtEachMoment}
use Rattle.spent_store.specs.Changes.{retirement_stages}
use Rattle.spent_store.specs.Stores.{OpensToOneOf}
use Rattle.mix_shard.specs.Shards.{on_the_way}
use Rattle.mix_shard.specs.declared.terms.Terms.{Terms}
use Rattle.mix_shard.proofs.Changes.{moments_opened}
use Rattle.mix_shard.proofs.Chains.{rotation_refused_by, moments_both}
use Rattle.mix_shard.proofs.shard.Shard.rotate.Goals as goal

pub returns-in_err-sound_for-clause-told : goal.returns-in_err-sound_for-clause-told
returns-in_err-sound_for-clause-told g c =
    rotation_refused_by g.R.Rack.tells g.S.Suite.meaning c.args.caller c.args.moment c.rotation_of.result c.in_err-sound_for.field-0.0 c.from_residual.result c.args.self.now c.sound_for.new.self
    c.from_residual.ensures.1 c.rotation_of.ensures c.in_err-sound_for.ensures.refused c.in_err-sound_for.ensures.among

pub returns-in_err-sound_for-clause-each_moment : goal.returns-in_err-sound_for-clause-each_moment
returns-in_err-sound_for-clause-each_moment g c t known =
    let old = c.args.self.now in
    moments_opened old.terms (retirement_stages (least_live old.terms.setup.times c.args.moment)) old.state.journal old.rack c.sound_for.new.self.rack (c.in_err-sound_for.ensures.each_moment t known)

pub returns-clause-each_moment : goal.returns-clause-each_moment
returns-clause-each_moment g c t known =
    let old = c.args.self.now in
    let mid = c.sound_for.new.self in
    moments_both g.R.Rack.tells g.S.Suite.meaning c.args.caller old mid c.retire.new.self.rack (retirement_stages (least_live old.terms.setup.times c.args.moment)) t c.in_ok-sound_for.ensures.ok
    (c.in_ok-sound_for.ensures.each_moment t known)
    (subst (λ (x : Terms). AtEachMoment (OpensToOneOf x.shape x.limit (on_the_way x.shape (retirement_stages (least_live x.setup.times c.args.moment)) mid.state.journal)) mid.rack c.retire.new.self.rack)
    c.in_ok-sound_for.ensures.ok.adds.began.terms (c.retire.ensures.each_moment t))
