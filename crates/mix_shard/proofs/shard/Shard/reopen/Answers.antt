use Rattle.std.proofs.Common.{◌≤◌, [], ◌∷◌, refl, sym, ap, subst, ◌∙◌, inr, Some, arith}
use Rattle.spent_store.specs.Stores.{StoreState}
use Rattle.mix_shard.specs.Kept.{opening, state_of}
use Rattle.mix_shard.specs.Shards.{ShardState}
use Rattle.mix_shard.proofs.Openings.{journal_unopened, keeps_reopened, keeps_unopened, keeps_wanting, moments_opening, refuses_hindered, refuses_wanting, says_reopened, unsound_none}
use Rattle.mix_shard.proofs.Rooms.{entries_told}
use Rattle.mix_shard.proofs.Tales.{one_step}
use Rattle.mix_shard.proofs.shard.Shard.reopen.Goals as goal

pub invariant_of-self : goal.invariant_of-self
invariant_of-self g c =
    let unsound = rw (← c.self.view_is) at c.requires.unsound in
    let room = subst (λ (s : ShardState). 1 ≤ s.spare) (sym c.self.view_is) c.requires.room in
    let none = unsound_none c.self.inside.store _ unsound in
    let one = opening c.args.caller c.tell_opening-book.result in
    let state = state_of c.self.inside.terms (g.R.Rack.state c.self.inside.first.value).areas (Some c.in-Ok.store) c.self.inside.causes.items c.self.inside.held.items c.self.inside.done.items in
    let store_is = c.in-Ok.ensures.store in
    let rise = c.in-Ok.ensures.owes.no_fault (λ failed. absurd (cc)) in (
      keeps_reopened g.R.Rack.tells g.S.Suite.meaning _ (g.R.Rack.state c.open.new.rack) c.self.inside.store c.self.invariant.0 unsound none
          one c.tell_opening-book.new.tale.items state c.in-Ok.store _ c.tell_opening-book.ensures.tale
          (says_reopened g.R.Rack.tells g.S.Suite.meaning _ (g.R.Rack.state c.open.new.rack) c.self.inside.store c.self.invariant.0 unsound none
          c.tell_opening-book.result c.in-Ok.store c.tell_opening-book.ensures.book c.in-Ok.ensures.book)
          refl c.self.invariant.0.callers refl
          (ap (λ (s : StoreState). s.shape) store_is) (ap (λ (s : StoreState). s.limit) store_is) (ap (λ (s : StoreState). s.is_sound) store_is)
          c.in-Ok.ensures.stands (omega (arith, rise)),
      entries_told c.self.inside.entries.items c.tell_opening-book.new.entries.items c.self.inside.told.items c.tell_opening-book.new.tale.items one c.tell_opening-book.ensures.entries c.tell_opening-book.ensures.tale c.self.invariant.1,
      omega (arith, room, c.tell_opening-book.ensures.one_more, c.tell_opening-book.ensures.room),
      omega (arith, c.self.invariant.3, c.tell_opening-book.ensures.room),
    )

pub invariant_of-self-in-Some : goal.invariant_of-self-in-Some
invariant_of-self-in-Some g c =
    let unsound = rw (← c.self.view_is) at c.requires.unsound in
    let none = unsound_none c.self.inside.store _ unsound in
    let journal_is = journal_unopened c.self.inside.terms (g.R.Rack.state c.self.inside.first.value).areas c.self.inside.store c.self.inside.causes.items c.push.new.self.items unsound c.push.ensures in
    let state = state_of c.self.inside.terms (g.R.Rack.state c.self.inside.first.value).areas c.self.inside.store c.push.new.self.items c.self.inside.held.items c.self.inside.done.items in (
      keeps_unopened g.R.Rack.tells g.S.Suite.meaning _ (g.R.Rack.state c.open.new.rack) c.self.inside.store c.self.invariant.0 unsound none
          c.in-Err.fault _ state _
          (ap (λ j. record state { journal = j }) journal_is)
          c.in-Err.ensures.owes c.in-Err.ensures.reads (λ t. (c.in-Err.ensures.each_moment t).now),
      c.self.invariant.1,
      c.self.invariant.2,
      c.self.invariant.3,
    )

pub invariant_of-self-in-None : goal.invariant_of-self-in-None
invariant_of-self-in-None g c =
    let unsound = rw (← c.self.view_is) at c.requires.unsound in
    let none = unsound_none c.self.inside.store _ unsound in (
      keeps_wanting g.R.Rack.tells g.S.Suite.meaning _ (g.R.Rack.state c.open.new.rack) c.self.inside.store c.self.invariant.0 unsound none
          c.in-Err.fault _ (sym c.answer_of.ensures ∙ c.in-None.is) c.in-Err.ensures.owes c.in-Err.ensures.unwritten c.in-Err.ensures.journal,
      c.self.invariant.1,
      c.self.invariant.2,
      c.self.invariant.3,
    )

pub returns-in-None-clause-each_moment : goal.returns-in-None-clause-each_moment
returns-in-None-clause-each_moment g c =
    let unsound = rw (← c.self.view_is) at c.requires.unsound in
    rw (← c.self.view_is) (λ t known.
    moments_opening g.R.Rack.tells g.S.Suite.meaning _ (g.R.Rack.state c.open.new.rack) c.self.inside.store c.self.invariant.0 unsound
    (unsound_none c.self.inside.store _ unsound) (g.R.Rack.state c.open.new.rack) t known (c.in-Err.ensures.each_moment t))

pub returns-in-Ok-clause-ok : goal.returns-in-Ok-clause-ok
returns-in-Ok-clause-ok g c =
    let unsound = rw (← c.self.view_is) at c.requires.unsound in
    let one = opening c.args.caller c.tell_opening-book.result in
    rw (← c.self.view_is) (record {
      adds = record {
        began = record { terms = refl; first = refl; faults = refl };
        opening = one ∷ [];
        by_caller = inr (one, c.tell_opening-book.result.floor, c.tell_opening-book.result.spent, refl, refl);
        own = [];
        own_is = refl;
        told = c.tell_opening-book.ensures.tale;
        steps = one_step g.R.Rack.tells g.S.Suite.meaning c.self.inside.terms _ _ one
            (says_reopened g.R.Rack.tells g.S.Suite.meaning _ (g.R.Rack.state c.open.new.rack) c.self.inside.store c.self.invariant.0 unsound
            (unsound_none c.self.inside.store _ unsound)
            c.tell_opening-book.result c.in-Ok.store c.tell_opening-book.ensures.book c.in-Ok.ensures.book);
      };
      stored = c.in-Ok.store.book;
      sound = refl;
      summed = c.tell_opening-book.ensures.book;
    })

pub returns-in-Ok-clause-each_moment : goal.returns-in-Ok-clause-each_moment
returns-in-Ok-clause-each_moment g c =
    let unsound = rw (← c.self.view_is) at c.requires.unsound in
    rw (← c.self.view_is) (λ t known.
    moments_opening g.R.Rack.tells g.S.Suite.meaning _ (g.R.Rack.state c.open.new.rack) c.self.inside.store c.self.invariant.0 unsound
    (unsound_none c.self.inside.store _ unsound) (g.R.Rack.state c.open.new.rack) t known (c.in-Ok.ensures.each_moment t))

pub returns-in-Some-clause-each_moment : goal.returns-in-Some-clause-each_moment
returns-in-Some-clause-each_moment g c =
    let unsound = rw (← c.self.view_is) at c.requires.unsound in
    rw (← c.self.view_is) (λ t known.
    moments_opening g.R.Rack.tells g.S.Suite.meaning _ (g.R.Rack.state c.open.new.rack) c.self.inside.store c.self.invariant.0 unsound
    (unsound_none c.self.inside.store _ unsound) (g.R.Rack.state c.open.new.rack) t known (c.in-Err.ensures.each_moment t))

pub returns-in-Some-clause-refused : goal.returns-in-Some-clause-refused
returns-in-Some-clause-refused g c =
    let unsound = rw (← c.self.view_is) at c.requires.unsound in
    let hinder = sym c.answer_of.ensures ∙ c.in-Some.is in
    let journal_is = journal_unopened c.self.inside.terms (g.R.Rack.state c.self.inside.first.value).areas c.self.inside.store c.self.inside.causes.items c.push.new.self.items unsound c.push.ensures in
    let state = state_of c.self.inside.terms (g.R.Rack.state c.self.inside.first.value).areas c.self.inside.store c.push.new.self.items c.self.inside.held.items c.self.inside.done.items in
    rw (← c.self.view_is) (refuses_hindered c.in-Err.fault c.in-Some.field-0 _ _ hinder (record {
      began = record { terms = refl; first = refl; faults = refl };
      told = refl;
      unsound = unsound;
      state = ap (λ j. record state { journal = j }) journal_is;
    }))

pub returns-in-None-clause-refused : goal.returns-in-None-clause-refused
returns-in-None-clause-refused g c =
    rw (← c.self.view_is) (refuses_wanting c.in-Err.fault _ _ (sym c.answer_of.ensures ∙ c.in-None.is) (record {
      began = record { terms = refl; first = refl; faults = refl };
      told = refl;
      state = refl;
    }))

pub returns-in-Ok-clause-kept : goal.returns-in-Ok-clause-kept
returns-in-Ok-clause-kept g c =
    let kept = (invariant_of-self g c).0.kept in
    record { tale = kept.tale; reads = kept.reads; covers = kept.covers; failures = kept.failures; no_fewer = kept.no_fewer; since_made = kept.since_made }

pub returns-in-Some-clause-kept : goal.returns-in-Some-clause-kept
returns-in-Some-clause-kept g c =
    let kept = (invariant_of-self-in-Some g c).0.kept in
    record { tale = kept.tale; reads = kept.reads; covers = kept.covers; failures = kept.failures; no_fewer = kept.no_fewer; since_made = kept.since_made }

pub returns-in-None-clause-kept : goal.returns-in-None-clause-kept
returns-in-None-clause-kept g c =
    let kept = (invariant_of-self-in-None g c).0.kept in
    record { tale = kept.tale; reads = kept.reads; covers = kept.covers; failures = kept.failures; no_fewer = kept.no_fewer; since_made = kept.since_made }
