use Rattle.std.proofs.Common.{◌+◌, [], refl, sym, subst, inl}
use Rattle.std.proofs.lemmas.List.{append-nil}
use Rattle.mix_shard.proofs.Changes.{journal_sound}
use Rattle.std.proofs.Common.{◌*◌}
use Rattle.std.specs.Result.{IfErr, IsErrOf, result_err}
use Rattle.gate_log.specs.Log.{most_reads}
use Rattle.replay_disk.specs.Disk.{Owes}
use Rattle.replay_disk.specs.Moments.{AtEachMoment}
use Rattle.spent_store.specs.Faults.{Refuses}
use Rattle.spent_store.specs.Journals.{unopened}
use Rattle.spent_store.specs.Stores.{OpensToOneOf, book_in}
use Rattle.spent_store.specs.declared.faults.OpenStore.TheVariants.{Failed}
use Rattle.mix_shard.specs.Faults.{ObjectsAmong}
use Rattle.mix_shard.specs.Shards.{IsCharted, IsKept, IsReady, RefusesOpening, ShardState}
use Rattle.mix_shard.proofs.Keeping.{kept_any}
use Rattle.mix_shard.proofs.Openings.{objects_among}
use Rattle.mix_shard.proofs.Spares.{if_err, if_ok, moments_idle, ready_from, refuses_from}
use Rattle.mix_shard.proofs.shard.Shard.ready.Goals as goal

pub book-requires : goal.book-requires
book-requires g c = (c.self.invariant.0.store_is c.in-Some.store c.in-Some.is).sound

pub returns-in-Some-clause-ok : goal.returns-in-Some-clause-ok
returns-in-Some-clause-ok g c = rw (← c.self.view_is) (record {
  adds = record {
    began = record { terms = refl; first = refl; faults = refl };
    opening = [];
    by_caller = inl refl;
    own = [];
    own_is = refl;
    told = sym (append-nil c.self.inside.told.items);
    steps = refl;
  };
  stored = c.in-Some.store.book;
  sound = journal_sound c.self.inside.store _ c.in-Some.store c.in-Some.is;
  summed = c.book.ensures;
})

pub returns-in-Some-clause-each_moment : goal.returns-in-Some-clause-each_moment
returns-in-Some-clause-each_moment g c =
    rw (← c.self.view_is) (λ t known. moments_idle g.R.Rack.tells g.S.Suite.meaning _ c.self.invariant.0.kept t known)

pub returns-in-Some-clause-kept : goal.returns-in-Some-clause-kept
returns-in-Some-clause-kept g c = subst (IsKept g.R.Rack.tells g.S.Suite.meaning) c.self.view_is (kept_any g.R.Rack.tells g.S.Suite.meaning _ _ c.self.invariant.0.kept)

pub returns-in_err-reserve_entries-clause-each_moment : goal.returns-in_err-reserve_entries-clause-each_moment
returns-in_err-reserve_entries-clause-each_moment g c t known =
    subst (λ (s : ShardState). AtEachMoment (OpensToOneOf c.args.self.now.terms.shape c.args.self.now.terms.limit (unopened c.args.self.now.terms.shape c.args.self.now.state.journal).books) c.args.self.now.rack s.rack)
    (sym c.in_err-reserve_entries.ensures.same)
    (moments_idle g.R.Rack.tells g.S.Suite.meaning c.args.self.now
    (subst (IsKept g.R.Rack.tells g.S.Suite.meaning) c.self.view_is (kept_any g.R.Rack.tells g.S.Suite.meaning _ _ c.self.invariant.0.kept)) t known)

pub returns-in_err-reserve_entries-clause-kept : goal.returns-in_err-reserve_entries-clause-kept
returns-in_err-reserve_entries-clause-kept g c =
    subst (IsKept g.R.Rack.tells g.S.Suite.meaning) (sym c.in_err-reserve_entries.ensures.same)
    (kept_any g.R.Rack.tells g.S.Suite.meaning c.args.self.now c.reserve_entries.new.self.spare
    (subst (IsKept g.R.Rack.tells g.S.Suite.meaning) c.self.view_is (kept_any g.R.Rack.tells g.S.Suite.meaning _ _ c.self.invariant.0.kept)))

pub returns-clause-refused : goal.returns-clause-refused
returns-clause-refused g c =
    if_err (λ fault. RefusesOpening fault c.reserve_entries.new.self c.reopen.new.self) (λ fault. RefusesOpening fault c.args.self.now c.reopen.new.self) c.reopen.result
    (λ fault refused. refuses_from c.args.self.now c.reserve_entries.new.self.spare fault c.reopen.new.self
    (subst (λ (s : ShardState). RefusesOpening fault s c.reopen.new.self) c.in_ok-reserve_entries.ensures.same refused))
    c.reopen.ensures.refused

pub returns-clause-ok : goal.returns-clause-ok
returns-clause-ok g c =
    if_ok (λ book. IsReady g.R.Rack.tells g.S.Suite.meaning c.args.caller book c.reserve_entries.new.self c.reopen.new.self)
    (λ book. IsReady g.R.Rack.tells g.S.Suite.meaning c.args.caller book c.args.self.now c.reopen.new.self) c.reopen.result
    (λ book ready. ready_from c.args.self.now c.reserve_entries.new.self.spare g.R.Rack.tells g.S.Suite.meaning c.args.caller book c.reopen.new.self
    (subst (λ (s : ShardState). IsReady g.R.Rack.tells g.S.Suite.meaning c.args.caller book s c.reopen.new.self) c.in_ok-reserve_entries.ensures.same ready))
    c.reopen.ensures.ok

pub returns-clause-objection : goal.returns-clause-objection
returns-clause-objection g c =
    subst (λ (s : ShardState). g.R.Rack.tells → IfErr c.reopen.result (λ fault. Refuses fault (result_err (book_in s.rack.areas s.terms.shape s.terms.limit))))
    c.in_ok-reserve_entries.ensures.same c.reopen.ensures.objection

pub returns-clause-among : goal.returns-clause-among
returns-clause-among g c t =
    let kept = subst (IsKept g.R.Rack.tells g.S.Suite.meaning) c.self.view_is (kept_any g.R.Rack.tells g.S.Suite.meaning _ _ c.self.invariant.0.kept) in
    let old = c.args.self.now in
    if_err (λ fault. Refuses fault (result_err (book_in old.rack.areas old.terms.shape old.terms.limit))) (ObjectsAmong old.state.journal.books) c.reopen.result
    (λ fault refuses. objects_among old.state.journal.books (book_in old.rack.areas old.terms.shape old.terms.limit) fault (kept.reads t) refuses)
    (subst (λ (s : ShardState). IfErr c.reopen.result (λ fault. Refuses fault (result_err (book_in s.rack.areas s.terms.shape s.terms.limit))))
    c.in_ok-reserve_entries.ensures.same (c.reopen.ensures.objection t))

pub returns-clause-each_moment : goal.returns-clause-each_moment
returns-clause-each_moment g c =
    subst (λ (s : ShardState). (t : g.R.Rack.tells) → IsCharted s → AtEachMoment (OpensToOneOf s.terms.shape s.terms.limit (unopened s.terms.shape s.state.journal).books) s.rack c.reopen.new.self.rack)
    c.in_ok-reserve_entries.ensures.same c.reopen.ensures.each_moment

pub returns-clause-owes : goal.returns-clause-owes
returns-clause-owes g c =
    subst (λ (s : ShardState). Owes (3 * most_reads s.terms.limit + 14) (IsErrOf c.reopen.result Failed) s.rack c.reopen.new.self.rack)
    c.in_ok-reserve_entries.ensures.same c.reopen.ensures.owes

pub returns-clause-kept : goal.returns-clause-kept
returns-clause-kept g c = c.reopen.ensures.kept
