use Rattle.std.proofs.Common.{subst}
use Rattle.mix_shard.specs.Shards.{ShardState}
use Rattle.mix_shard.specs.Tale.{Tale, began}
use Rattle.mix_shard.proofs.Covering.{accepted_new, accepted_once, accepted_stays, covered_stays, only_claimed, opened_is_own}
use Rattle.mix_shard.proofs.shard.Shard.tale.Given.{Over}
use Rattle.mix_shard.proofs.shard.Shard.tale.Goals as goal

-- the shard's tale
told : (g : Over) (c : goal.After-as_slice g) → let now = c.args.self.now in
    Tale g.R.Rack.tells g.S.Suite.meaning now.terms (began now.terms now.first.areas) now.told now.state
told g c =
    subst (λ (s : ShardState). Tale g.R.Rack.tells g.S.Suite.meaning s.terms (began s.terms s.first.areas) s.told s.state)
    c.self.view_is c.self.invariant.0.kept.tale

pub returns-clause-accepted_stays : goal.returns-clause-accepted_stays
returns-clause-accepted_stays g c t = accepted_stays g.R.Rack.tells t g.S.Suite.meaning c.args.self.now.terms _ _ _ (told g c)

pub returns-clause-covered_stays : goal.returns-clause-covered_stays
returns-clause-covered_stays g c t = covered_stays g.R.Rack.tells t g.S.Suite.meaning c.args.self.now.terms _ _ _ (told g c)

pub returns-clause-accepted_once : goal.returns-clause-accepted_once
returns-clause-accepted_once g c t = accepted_once g.R.Rack.tells t g.S.Suite.meaning c.args.self.now.terms _ _ _ (told g c)

pub returns-clause-accepted_new : goal.returns-clause-accepted_new
returns-clause-accepted_new g c t = accepted_new g.R.Rack.tells t g.S.Suite.meaning c.args.self.now.terms _ _ _ (told g c)

pub returns-clause-only_claimed : goal.returns-clause-only_claimed
returns-clause-only_claimed g c t = only_claimed g.R.Rack.tells t g.S.Suite.meaning c.args.self.now.terms _ _ _ (told g c)

pub returns-clause-own : goal.returns-clause-own
returns-clause-own g c = opened_is_own g.R.Rack.tells g.S.Suite.meaning c.args.self.now.terms _ _ _ (told g c)

pub returns-clause-kept : goal.returns-clause-kept
returns-clause-kept g c =
    let kept = c.self.invariant.0.kept in
    rw (← c.self.view_is) (record { tale = kept.tale; reads = kept.reads; covers = kept.covers; failures = kept.failures; no_fewer = kept.no_fewer; since_made = kept.since_made })
