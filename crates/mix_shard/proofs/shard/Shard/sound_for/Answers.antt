use Rattle.std.proofs.Common.{◌≡◌, true, [], sym, ap, subst}
use Rattle.std.specs.Result.{result_err}
use Rattle.replay_disk.specs.Moments.{AtEachMoment}
use Rattle.spent_store.specs.Faults.{Refuses}
use Rattle.spent_store.specs.Journals.{unopened}
use Rattle.spent_store.specs.Stores.{OpensToOneOf, book_in}
use Rattle.mix_shard.specs.Faults.{hindrance}
use Rattle.mix_shard.specs.Kept.{ToldFor}
use Rattle.mix_shard.specs.Shards.{Adds, IsCharted, IsKept, IsReady, ShardState}
use Rattle.mix_shard.proofs.Keeping.{kept_any}
use Rattle.mix_shard.proofs.Openings.{objects_among}
use Rattle.mix_shard.proofs.Chains.{some_sound}
use Rattle.mix_shard.proofs.Spares.{adds_from, adds_nothing, moments_idle, told_from}
use Rattle.mix_shard.proofs.shard.Shard.sound_for.Goals as goal

pub returns-then-is_err-clause-each_moment : goal.returns-then-is_err-clause-each_moment
returns-then-is_err-clause-each_moment g c t known =
    let old = c.args.self.now in
    subst (λ (s : ShardState). AtEachMoment (OpensToOneOf old.terms.shape old.terms.limit (unopened old.terms.shape old.state.journal).books) old.rack s.rack)
    (sym c.reserve_entries.ensures.same)
    (moments_idle g.R.Rack.tells g.S.Suite.meaning c.args.self.now
    (subst (IsKept g.R.Rack.tells g.S.Suite.meaning) c.self.view_is (kept_any g.R.Rack.tells g.S.Suite.meaning _ _ c.self.invariant.0.kept)) t known)

pub returns-then-is_err-clause-kept : goal.returns-then-is_err-clause-kept
returns-then-is_err-clause-kept g c =
    subst (IsKept g.R.Rack.tells g.S.Suite.meaning) (sym c.reserve_entries.ensures.same)
    (kept_any g.R.Rack.tells g.S.Suite.meaning c.args.self.now c.reserve_entries.new.self.spare
    (subst (IsKept g.R.Rack.tells g.S.Suite.meaning) c.self.view_is (kept_any g.R.Rack.tells g.S.Suite.meaning _ _ c.self.invariant.0.kept)))

pub returns-then-is_sound-clause-ok : goal.returns-then-is_sound-clause-ok
returns-then-is_sound-clause-ok g c = record {
  adds = subst (λ (s : ShardState). Adds g.R.Rack.tells g.S.Suite.meaning c.args.caller (λ own. own ≡ []) c.args.self.now s) (sym c.reserve_entries.ensures.same)
      (adds_nothing c.args.self.now c.reserve_entries.new.self.spare g.R.Rack.tells g.S.Suite.meaning c.args.caller);
  sound = subst (λ (s : ShardState). s.state.journal.is_sound ≡ true) (sym c.reserve_entries.ensures.same)
      (subst (λ (s : ShardState). s.state.journal.is_sound ≡ true) c.self.view_is (some_sound c.self.inside.store _ c.if-is_sound.ensures));
}

pub returns-then-is_sound-clause-each_moment : goal.returns-then-is_sound-clause-each_moment
returns-then-is_sound-clause-each_moment g c t known =
    let old = c.args.self.now in
    subst (λ (s : ShardState). AtEachMoment (OpensToOneOf old.terms.shape old.terms.limit (unopened old.terms.shape old.state.journal).books) old.rack s.rack)
    (sym c.reserve_entries.ensures.same)
    (moments_idle g.R.Rack.tells g.S.Suite.meaning c.args.self.now
    (subst (IsKept g.R.Rack.tells g.S.Suite.meaning) c.self.view_is (kept_any g.R.Rack.tells g.S.Suite.meaning _ _ c.self.invariant.0.kept)) t known)

pub returns-then-is_sound-clause-kept : goal.returns-then-is_sound-clause-kept
returns-then-is_sound-clause-kept g c =
    subst (IsKept g.R.Rack.tells g.S.Suite.meaning) (sym c.reserve_entries.ensures.same)
    (kept_any g.R.Rack.tells g.S.Suite.meaning c.args.self.now c.reserve_entries.new.self.spare
    (subst (IsKept g.R.Rack.tells g.S.Suite.meaning) c.self.view_is (kept_any g.R.Rack.tells g.S.Suite.meaning _ _ c.self.invariant.0.kept)))

pub returns-in-Ok-clause-each_moment : goal.returns-in-Ok-clause-each_moment
returns-in-Ok-clause-each_moment g c =
    subst (λ (s : ShardState). (t : g.R.Rack.tells) → IsCharted s → AtEachMoment (OpensToOneOf s.terms.shape s.terms.limit (unopened s.terms.shape s.state.journal).books) s.rack c.reopen_for.new.self.rack)
    c.reserve_entries.ensures.same c.in-Ok.ensures.each_moment

pub returns-in-Ok-clause-ok : goal.returns-in-Ok-clause-ok
returns-in-Ok-clause-ok g c =
    let ready = subst (λ (s : ShardState). IsReady g.R.Rack.tells g.S.Suite.meaning c.args.caller c.in-Ok.field-0 s c.reopen_for.new.self) c.reserve_entries.ensures.same c.in-Ok.ensures.ok in
    record {
      adds = adds_from c.args.self.now c.reserve_entries.new.self.spare g.R.Rack.tells g.S.Suite.meaning c.args.caller (λ own. own ≡ []) c.reopen_for.new.self ready.adds;
      sound = ap (λ j. j.is_sound) ready.sound;
    }

pub returns-in-Err-clause-refused : goal.returns-in-Err-clause-refused
returns-in-Err-clause-refused g c =
    told_from c.args.self.now c.reserve_entries.new.self.spare (hindrance c.in-Err.fault) c.args.asked c.reopen_for.new.self
    (subst (λ (s : ShardState). ToldFor (hindrance c.in-Err.fault) c.args.asked s c.reopen_for.new.self) c.reserve_entries.ensures.same c.in-Err.ensures.refused)

pub returns-in-Err-clause-among : goal.returns-in-Err-clause-among
returns-in-Err-clause-among g c t =
    let old = c.args.self.now in
    let kept = subst (IsKept g.R.Rack.tells g.S.Suite.meaning) c.self.view_is (kept_any g.R.Rack.tells g.S.Suite.meaning _ _ c.self.invariant.0.kept) in
    objects_among old.state.journal.books (book_in old.rack.areas old.terms.shape old.terms.limit) c.in-Err.fault (kept.reads t)
    (subst (λ (s : ShardState). Refuses c.in-Err.fault (result_err (book_in s.rack.areas s.terms.shape s.terms.limit))) c.reserve_entries.ensures.same (c.in-Err.ensures.objection t))

pub returns-in-Err-clause-each_moment : goal.returns-in-Err-clause-each_moment
returns-in-Err-clause-each_moment g c =
    subst (λ (s : ShardState). (t : g.R.Rack.tells) → IsCharted s → AtEachMoment (OpensToOneOf s.terms.shape s.terms.limit (unopened s.terms.shape s.state.journal).books) s.rack c.reopen_for.new.self.rack)
    c.reserve_entries.ensures.same c.in-Err.ensures.each_moment
