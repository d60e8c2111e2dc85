use Rattle.std.proofs.Common.{None, [], ◌∷◌, ◌≡◌, ℕ, false, map, length, replicate, sym, ap, subst, ◌∙◌, inl, arith}
use Rattle.replay_disk.specs.Disk.{Areas, AreAtRest}
use Rattle.spent_store.specs.Journals.{Journal, unsound_with}
use Rattle.spent_store.specs.Stores.{book_in}
use Rattle.mix_shard.specs.Kept.{books_of, journal_now}
use Rattle.mix_shard.specs.Laws.{KeepsCovered}
use Rattle.mix_shard.proofs.Covering.{left_covers}
use Rattle.mix_shard.proofs.Keeping.{crashed_book, crashed_rests, keeps_begun}
use Rattle.mix_shard.proofs.Rooms.{all_owed}
use Rattle.mix_shard.proofs.shard.Shard.crash.Goals as goal

pub invariant_of-self : goal.invariant_of-self
invariant_of-self g c =
    let len : c.self.inside.done.len ≡ c.self.inside.terms.callers = omega (arith, c.self.inside.done.ok, c.self.invariant.0.callers) in
    let nobody : c.fill.new.self.items ≡ replicate c.self.inside.terms.callers false =
    c.fill.ensures.items (λ y same. same) ∙ ap (λ (n : ℕ). replicate n false) len in
    let owed = all_owed c.fill.new.self.items c.self.inside.terms.callers nobody in
    let none : length c.clear.new.self.items ≡ 0 = ap (λ q. length q.items) c.clear.ensures in (
      keeps_begun g.R.Rack.tells g.S.Suite.meaning c.self.inside.terms (g.R.Rack.state c.crash.new.self) _ _ c.new.result.items c.new-2.result.items c.clear.new.self.items c.fill.new.self.items 0
          c.self.invariant.0.asked (ap g.R.Rack.state c.of.ensures)
          (omega (arith, c.self.invariant.0.kept.since_made, c.self.invariant.0.kept.no_fewer, c.crash.ensures.faults))
          c.new.ensures c.new-2.ensures (ap (λ q. q.items) c.clear.ensures) nobody,
      c.clear-2.ensures.items ∙ ap (map _) (sym c.new.ensures),
      omega (arith, owed, none, c.clear-2.ensures.len, c.clear-2.ensures.capacity, c.self.invariant.3),
      omega (arith, c.clear-2.ensures.capacity, c.self.invariant.3),
    )

pub returns-clause-rack : goal.returns-clause-rack
returns-clause-rack g c = rw (← c.self.view_is) (record {
  image = c.crash.ensures.image;
  moment = c.crash.ensures.moment;
  faults = c.crash.ensures.faults;
  calls = c.crash.ensures.calls;
  left = c.crash.ensures.left;
  arms = c.crash.ensures.arms;
  crashes = c.crash.ensures.crashes;
})

pub returns-clause-book : goal.returns-clause-book
returns-clause-book g c = rw (← c.self.view_is) (λ t known.
    crashed_book c.self.inside.terms _ (g.R.Rack.state c.self.inside.rack).areas (g.R.Rack.state c.crash.new.self).areas
    (c.crash.ensures.image t) (c.self.invariant.0.kept.covers t known))

pub returns-clause-charted : goal.returns-clause-charted
returns-clause-charted g c t =
    inl (subst (λ (a : Areas). AreAtRest a) (sym (ap (λ r. (g.R.Rack.state r).areas) c.of.ensures))
    (crashed_rests (g.R.Rack.state c.self.inside.rack).areas (g.R.Rack.state c.crash.new.self).areas (c.crash.ensures.image t)))

pub returns-clause-kept : goal.returns-clause-kept
returns-clause-kept g c =
    let kept = (invariant_of-self g c).0.kept in
    record { tale = kept.tale; reads = kept.reads; covers = kept.covers; failures = kept.failures; no_fewer = kept.no_fewer; since_made = kept.since_made }

pub returns-clause-covered_stays : goal.returns-clause-covered_stays
returns-clause-covered_stays g c = rw (← c.self.view_is) (λ t known.
    let terms = c.self.inside.terms in
    let before = journal_now c.self.inside.store (books_of terms (g.R.Rack.state c.self.inside.first.value).areas c.self.inside.causes.items) in
    let left = book_in (g.R.Rack.state c.crash.new.self).areas terms.shape terms.limit in
    let same : journal_now None (books_of terms (g.R.Rack.state c.of.result.value).areas c.new-2.result.items) ≡ unsound_with (left ∷ [])
    = (λ i. unsound_with (books_of terms (g.R.Rack.state (c.of.ensures i)).areas (c.new-2.ensures i))) in
    subst (λ (j : Journal). KeepsCovered before j) (sym same)
    (left_covers before left
    (crashed_book terms before.books (g.R.Rack.state c.self.inside.rack).areas (g.R.Rack.state c.crash.new.self).areas (c.crash.ensures.image t) (c.self.invariant.0.kept.covers t known))))
