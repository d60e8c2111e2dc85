use Rattle.std.proofs.Common.{◌≡◌, ◌≤◌, ℕ, false, [], ◌∷◌, refl, sym, ap, subst, ◌∙◌, Some, None, Ok, Err, arith}
use Rattle.replay_disk.specs.Disk.{Areas, RackState}
use Rattle.spent_store.specs.Changes.{retirement_stages}
use Rattle.std.specs.List.{Contains}
use Rattle.mix_base.specs.Faults.{Rose}
use Rattle.mix_base.specs.declared.shards.Shape.{Shape}
use Rattle.spent_store.specs.Journals.{Retires, cut_off, sound_with, unsound_with}
use Rattle.spent_store.specs.declared.faults.RetireFault.{RetireFault}
use Rattle.mix_shard.specs.declared.causes.Cause.TheVariants.{CutRetirement}
use Rattle.spent_store.specs.Stores.{OpensToOneOf, Stands, StoreState, as_read, book_in, journal_of}
use Rattle.mix_shard.specs.Kept.{state_of}
use Rattle.mix_shard.specs.Shards.{ShardState, on_the_way}
use Rattle.epoch_keys.specs.Epochs.{least_live}
use Rattle.replay_disk.specs.Moments.{AtEachMoment}
use Rattle.spent_store.specs.declared.faults.RetireFault.TheVariants as retire
use Rattle.mix_shard.specs.Entries.{was_disk}
use Rattle.mix_shard.proofs.Changes.{after_cut, after_sound, journal_sound, keeps_changed, keeps_cut, moments_changed, moments_waiting, rotates_of, wanting_rotation}
use Rattle.std.proofs.lemmas.List.{append-nil}
use Rattle.mix_shard.proofs.Openings.{books_more}
use Rattle.mix_shard.proofs.Rooms.{entries_told}
use Rattle.mix_shard.proofs.Tales.{one_step}
use Rattle.mix_shard.proofs.Keeping.{keeps_rack}
use Rattle.mix_shard.proofs.shard.Shard.retire.Goals as goal

pub invariant_of-self : goal.invariant_of-self
invariant_of-self g c = (
  keeps_rack g.R.Rack.tells g.S.Suite.meaning _ (g.R.Rack.state c.room.new.self) c.self.inside.store
      (ap (λ (r : RackState). r.areas) c.room.ensures.same) (omega (arith, ap (λ (r : RackState). r.faults) c.room.ensures.same)) c.self.invariant.0,
  c.self.invariant.1,
  c.self.invariant.2,
  c.self.invariant.3,
)

pub retire-requires-clause-sound : goal.retire-requires-clause-sound
retire-requires-clause-sound g c = (c.self.invariant.0.store_is c.in-Some.store c.in-Some.is).sound

pub retire-requires-clause-stands : goal.retire-requires-clause-stands
retire-requires-clause-stands g c t =
    let areas : (g.R.Rack.state c.room.new.self).areas ≡ (g.R.Rack.state c.self.inside.rack).areas = ap (λ (r : RackState). r.areas) c.room.ensures.same in
    subst (λ (a : Areas). Stands c.in-Some.store a) (sym areas) ((c.self.invariant.0.store_is c.in-Some.store c.in-Some.is).stands t)

pub returns-in_err-room-clause-told : goal.returns-in_err-room-clause-told
returns-in_err-room-clause-told g c =
    rw (← c.self.view_is) (record {
      began = record { terms = refl; first = refl; faults = refl };
      own = [];
      own_is = wanting_rotation c.args.caller c.args.moment c.from_residual.result c.from_residual.ensures.1;
      told = sym (append-nil c.self.inside.told.items);
      steps = refl;
    })

pub returns-in_err-room-clause-each_moment : goal.returns-in_err-room-clause-each_moment
returns-in_err-room-clause-each_moment g c =
    let sound = rw (← c.self.view_is) at c.requires.sound in
    rw (← c.self.view_is) (λ t.
    moments_waiting g.R.Rack.tells g.S.Suite.meaning _ c.self.inside.store _ (retirement_stages (least_live c.self.inside.terms.setup.times c.args.moment)) (g.R.Rack.state c.room.new.self)
    c.self.invariant.0 refl sound (ap (λ (r : RackState). r.past) c.room.ensures.same) (ap (λ (r : RackState). r.areas) c.room.ensures.same) t)

pub returns-in_err-room-clause-kept : goal.returns-in_err-room-clause-kept
returns-in_err-room-clause-kept g c =
    let kept = (invariant_of-self g c).0.kept in record { tale = kept.tale; reads = kept.reads; covers = kept.covers; failures = kept.failures; no_fewer = kept.no_fewer; since_made = kept.since_made }

pub invariant_of-self-in-Ok-1 : goal.invariant_of-self-in-Ok-1
invariant_of-self-in-Ok-1 g c =
    let of = c.self.invariant.0.store_is c.in-Some.store c.in-Some.is in
    let old = state_of c.self.inside.terms (g.R.Rack.state c.self.inside.first.value).areas c.self.inside.store c.self.inside.causes.items c.self.inside.held.items c.self.inside.done.items in
    let was : old.journal ≡ sound_with c.in-Some.store.book = journal_sound c.self.inside.store _ c.in-Some.store c.in-Some.is in
    let changed = c.retire.new.self in
    let state = state_of c.self.inside.terms (g.R.Rack.state c.self.inside.first.value).areas (Some changed) c.self.inside.causes.items c.self.inside.held.items c.self.inside.done.items in
    let sound = c.in-Ok.ensures.sound (λ failed. absurd (cc)) in
    let rise : (g.R.Rack.state c.retire.new.rack).faults ≡ (g.R.Rack.state c.self.inside.rack).faults
    = c.in-Ok.ensures.owes.no_fault (λ failed. absurd (cc)) ∙ ap (λ (r : RackState). r.faults) c.room.ensures.same in
    let room = subst (λ (s : ShardState). 1 ≤ s.spare) (sym c.self.view_is) c.requires.room in (
      keeps_changed g.R.Rack.tells g.S.Suite.meaning _ (g.R.Rack.state c.retire.new.rack) c.self.inside.store c.self.invariant.0
          c.rotation_of.result c.tell.new.tale.items state changed _ c.tell.ensures.tale
          (rotates_of g.R.Rack.tells g.S.Suite.meaning c.self.inside.terms c.args.caller c.args.moment c.rotation_of.result old state c.in-Some.store c.least_live-floor.result
          (Ok tt) _ c.rotation_of.ensures was of.limit c.least_live-floor.ensures.value
          (after_sound changed (retirement_stages c.least_live-floor.result c.in-Some.store.book) sound) c.in-Ok.ensures.journal refl refl)
          refl c.self.invariant.0.callers (ap was_disk c.rotation_of.ensures)
          (ap (λ (s : StoreState). s.shape) c.in-Ok.ensures.store ∙ of.shape) (ap (λ (s : StoreState). s.limit) c.in-Ok.ensures.store ∙ of.limit) sound
          (λ t. c.in-Ok.ensures.stands t (λ failed. absurd (cc))) (omega (arith, rise)),
      entries_told c.self.inside.entries.items c.tell.new.entries.items c.self.inside.told.items c.tell.new.tale.items c.rotation_of.result c.tell.ensures.entries c.tell.ensures.tale c.self.invariant.1,
      omega (arith, room, c.tell.ensures.one_more, c.tell.ensures.room),
      omega (arith, c.self.invariant.3, c.tell.ensures.room),
    )

pub returns-in-Ok-clause-told : goal.returns-in-Ok-clause-told
returns-in-Ok-clause-told g c =
    let of = c.self.invariant.0.store_is c.in-Some.store c.in-Some.is in
    let old = state_of c.self.inside.terms (g.R.Rack.state c.self.inside.first.value).areas c.self.inside.store c.self.inside.causes.items c.self.inside.held.items c.self.inside.done.items in
    let was : old.journal ≡ sound_with c.in-Some.store.book = journal_sound c.self.inside.store _ c.in-Some.store c.in-Some.is in
    let changed = c.retire.new.self in
    let state = state_of c.self.inside.terms (g.R.Rack.state c.self.inside.first.value).areas (Some changed) c.self.inside.causes.items c.self.inside.held.items c.self.inside.done.items in
    let sound = c.in-Ok.ensures.sound (λ failed. absurd (cc)) in
    rw (← c.self.view_is) (record {
      began = record { terms = refl; first = refl; faults = refl };
      own = c.rotation_of.result ∷ [];
      own_is = (c.rotation_of.result, refl, c.rotation_of.ensures);
      told = c.tell.ensures.tale;
      steps = one_step g.R.Rack.tells g.S.Suite.meaning c.self.inside.terms old state c.rotation_of.result
          (rotates_of g.R.Rack.tells g.S.Suite.meaning c.self.inside.terms c.args.caller c.args.moment c.rotation_of.result old state c.in-Some.store c.least_live-floor.result
          (Ok tt) _ c.rotation_of.ensures was of.limit c.least_live-floor.ensures.value
          (after_sound changed (retirement_stages c.least_live-floor.result c.in-Some.store.book) sound) c.in-Ok.ensures.journal refl refl);
    })

pub returns-in-Ok-clause-each_moment : goal.returns-in-Ok-clause-each_moment
returns-in-Ok-clause-each_moment g c =
    let of = c.self.invariant.0.store_is c.in-Some.store c.in-Some.is in
    let old = state_of c.self.inside.terms (g.R.Rack.state c.self.inside.first.value).areas c.self.inside.store c.self.inside.causes.items c.self.inside.held.items c.self.inside.done.items in
    let was : old.journal ≡ sound_with c.in-Some.store.book = journal_sound c.self.inside.store _ c.in-Some.store c.in-Some.is in
    rw (← c.self.view_is) (λ t.
    subst (λ (f : ℕ). AtEachMoment (OpensToOneOf c.self.inside.terms.shape c.self.inside.terms.limit (on_the_way c.self.inside.terms.shape (retirement_stages f) old.journal))
    (g.R.Rack.state c.self.inside.rack) (g.R.Rack.state c.retire.new.rack)) c.least_live-floor.ensures.value
    (moments_changed c.self.inside.terms (retirement_stages c.least_live-floor.result) old.journal c.in-Some.store (g.R.Rack.state c.self.inside.rack) (g.R.Rack.state c.room.new.self) (g.R.Rack.state c.retire.new.rack)
    was of.shape of.limit (ap (λ (r : RackState). r.past) c.room.ensures.same) (c.in-Ok.ensures.each_moment t)))

pub returns-in-Ok-clause-kept : goal.returns-in-Ok-clause-kept
returns-in-Ok-clause-kept g c =
    let kept = (invariant_of-self-in-Ok-1 g c).0.kept in record { tale = kept.tale; reads = kept.reads; covers = kept.covers; failures = kept.failures; no_fewer = kept.no_fewer; since_made = kept.since_made }

pub invariant_of-self-in-Err : goal.invariant_of-self-in-Err
invariant_of-self-in-Err g c =
    let of = c.self.invariant.0.store_is c.in-Some.store c.in-Some.is in
    let old = state_of c.self.inside.terms (g.R.Rack.state c.self.inside.first.value).areas c.self.inside.store c.self.inside.causes.items c.self.inside.held.items c.self.inside.done.items in
    let was : old.journal ≡ sound_with c.in-Some.store.book = journal_sound c.self.inside.store _ c.in-Some.store c.in-Some.is in
    let changed = c.retire.new.self in
    let state = state_of c.self.inside.terms (g.R.Rack.state c.self.inside.first.value).areas (Some changed) c.self.inside.causes.items c.self.inside.held.items c.self.inside.done.items in
    let sound = c.in-Err.ensures.sound (λ failed. absurd (cc)) in
    let rise : (g.R.Rack.state c.retire.new.rack).faults ≡ (g.R.Rack.state c.self.inside.rack).faults
    = c.in-Err.ensures.owes.no_fault (λ failed. absurd (cc)) ∙ ap (λ (r : RackState). r.faults) c.room.ensures.same in
    let room = subst (λ (s : ShardState). 1 ≤ s.spare) (sym c.self.view_is) c.requires.room in (
      keeps_changed g.R.Rack.tells g.S.Suite.meaning _ (g.R.Rack.state c.retire.new.rack) c.self.inside.store c.self.invariant.0
          c.rotation_of-in-RootFull.result c.tell-in-RootFull.new.tale.items state changed _ c.tell-in-RootFull.ensures.tale
          (rotates_of g.R.Rack.tells g.S.Suite.meaning c.self.inside.terms c.args.caller c.args.moment c.rotation_of-in-RootFull.result old state c.in-Some.store c.least_live-floor.result
          (Err retire.RootFull) _ c.rotation_of-in-RootFull.ensures was of.limit c.least_live-floor.ensures.value
          (after_sound changed (retirement_stages c.least_live-floor.result c.in-Some.store.book) sound) (subst (λ (f : RetireFault). Retires c.in-Some.store.limit c.least_live-floor.result c.in-Some.store.book (Err f) (journal_of c.retire.new.self (retirement_stages c.least_live-floor.result c.in-Some.store.book))) c.in-RootFull.is c.in-Err.ensures.journal) refl refl)
          refl c.self.invariant.0.callers (ap was_disk c.rotation_of-in-RootFull.ensures)
          (ap (λ (s : StoreState). s.shape) c.in-Err.ensures.store ∙ of.shape) (ap (λ (s : StoreState). s.limit) c.in-Err.ensures.store ∙ of.limit) sound
          (λ t. c.in-Err.ensures.stands t (λ failed. absurd (cc))) (omega (arith, rise)),
      entries_told c.self.inside.entries.items c.tell-in-RootFull.new.entries.items c.self.inside.told.items c.tell-in-RootFull.new.tale.items c.rotation_of-in-RootFull.result c.tell-in-RootFull.ensures.entries c.tell-in-RootFull.ensures.tale c.self.invariant.1,
      omega (arith, room, c.tell-in-RootFull.ensures.one_more, c.tell-in-RootFull.ensures.room),
      omega (arith, c.self.invariant.3, c.tell-in-RootFull.ensures.room),
    )

pub returns-in-RootFull-clause-told : goal.returns-in-RootFull-clause-told
returns-in-RootFull-clause-told g c =
    let of = c.self.invariant.0.store_is c.in-Some.store c.in-Some.is in
    let old = state_of c.self.inside.terms (g.R.Rack.state c.self.inside.first.value).areas c.self.inside.store c.self.inside.causes.items c.self.inside.held.items c.self.inside.done.items in
    let was : old.journal ≡ sound_with c.in-Some.store.book = journal_sound c.self.inside.store _ c.in-Some.store c.in-Some.is in
    let changed = c.retire.new.self in
    let state = state_of c.self.inside.terms (g.R.Rack.state c.self.inside.first.value).areas (Some changed) c.self.inside.causes.items c.self.inside.held.items c.self.inside.done.items in
    let sound = c.in-Err.ensures.sound (λ failed. absurd (cc)) in
    rw (← c.self.view_is) (record {
      began = record { terms = refl; first = refl; faults = refl };
      own = c.rotation_of-in-RootFull.result ∷ [];
      own_is = (c.rotation_of-in-RootFull.result, refl, c.rotation_of-in-RootFull.ensures);
      told = c.tell-in-RootFull.ensures.tale;
      steps = one_step g.R.Rack.tells g.S.Suite.meaning c.self.inside.terms old state c.rotation_of-in-RootFull.result
          (rotates_of g.R.Rack.tells g.S.Suite.meaning c.self.inside.terms c.args.caller c.args.moment c.rotation_of-in-RootFull.result old state c.in-Some.store c.least_live-floor.result
          (Err retire.RootFull) _ c.rotation_of-in-RootFull.ensures was of.limit c.least_live-floor.ensures.value
          (after_sound changed (retirement_stages c.least_live-floor.result c.in-Some.store.book) sound) (subst (λ (f : RetireFault). Retires c.in-Some.store.limit c.least_live-floor.result c.in-Some.store.book (Err f) (journal_of c.retire.new.self (retirement_stages c.least_live-floor.result c.in-Some.store.book))) c.in-RootFull.is c.in-Err.ensures.journal) refl refl);
    })

pub returns-in-RootFull-clause-each_moment : goal.returns-in-RootFull-clause-each_moment
returns-in-RootFull-clause-each_moment g c =
    let of = c.self.invariant.0.store_is c.in-Some.store c.in-Some.is in
    let old = state_of c.self.inside.terms (g.R.Rack.state c.self.inside.first.value).areas c.self.inside.store c.self.inside.causes.items c.self.inside.held.items c.self.inside.done.items in
    let was : old.journal ≡ sound_with c.in-Some.store.book = journal_sound c.self.inside.store _ c.in-Some.store c.in-Some.is in
    rw (← c.self.view_is) (λ t.
    subst (λ (f : ℕ). AtEachMoment (OpensToOneOf c.self.inside.terms.shape c.self.inside.terms.limit (on_the_way c.self.inside.terms.shape (retirement_stages f) old.journal))
    (g.R.Rack.state c.self.inside.rack) (g.R.Rack.state c.retire.new.rack)) c.least_live-floor.ensures.value
    (moments_changed c.self.inside.terms (retirement_stages c.least_live-floor.result) old.journal c.in-Some.store (g.R.Rack.state c.self.inside.rack) (g.R.Rack.state c.room.new.self) (g.R.Rack.state c.retire.new.rack)
    was of.shape of.limit (ap (λ (r : RackState). r.past) c.room.ensures.same) (c.in-Err.ensures.each_moment t)))

pub returns-in-RootFull-clause-kept : goal.returns-in-RootFull-clause-kept
returns-in-RootFull-clause-kept g c =
    let kept = (invariant_of-self-in-Err g c).0.kept in record { tale = kept.tale; reads = kept.reads; covers = kept.covers; failures = kept.failures; no_fewer = kept.no_fewer; since_made = kept.since_made }

pub invariant_of-self-in-Failed : goal.invariant_of-self-in-Failed
invariant_of-self-in-Failed g c =
    let of = c.self.invariant.0.store_is c.in-Some.store c.in-Some.is in
    let old = state_of c.self.inside.terms (g.R.Rack.state c.self.inside.first.value).areas c.self.inside.store c.self.inside.causes.items c.self.inside.held.items c.self.inside.done.items in
    let was : old.journal ≡ sound_with c.in-Some.store.book = journal_sound c.self.inside.store _ c.in-Some.store c.in-Some.is in
    let state = state_of c.self.inside.terms (g.R.Rack.state c.self.inside.first.value).areas None c.cut_off.new.causes.items c.self.inside.held.items c.self.inside.done.items in
    let failed = ap Err c.in-Failed.is in
    let stages = retirement_stages c.least_live-floor.result c.in-Some.store.book in
    let cut : state.journal ≡ cut_off stages =
    ap unsound_with (books_more c.self.inside.terms (g.R.Rack.state c.self.inside.first.value).areas c.self.inside.causes.items c.cut_off.new.causes.items (CutRetirement c.of-before.result c.least_live-floor.result) c.cut_off.ensures)
    ∙ ap (λ (s : StoreState). cut_off (retirement_stages c.least_live-floor.result s.book)) c.of-before.ensures in
    let unsound : c.retire.new.self.is_sound ≡ false = c.in-Err.ensures.unsound failed in
    let stands = after_cut c.retire.new.self stages unsound ∙ sym cut in
    let room = subst (λ (s : ShardState). 1 ≤ s.spare) (sym c.self.view_is) c.requires.room in
    let rose = subst (λ (n : ℕ). Rose n (g.R.Rack.state c.retire.new.rack).faults) (ap (λ (r : RackState). r.faults) c.room.ensures.same) (c.in-Err.ensures.owes.rose failed) in (
      keeps_cut g.R.Rack.tells g.S.Suite.meaning _ (g.R.Rack.state c.retire.new.rack) c.self.inside.store c.self.invariant.0
          c.rotation_of-in-Failed.result c.tell-in-Failed.new.tale.items state stages _ c.tell-in-Failed.ensures.tale
          (rotates_of g.R.Rack.tells g.S.Suite.meaning c.self.inside.terms c.args.caller c.args.moment c.rotation_of-in-Failed.result old state c.in-Some.store c.least_live-floor.result
          (Err retire.Failed) _ c.rotation_of-in-Failed.ensures was of.limit c.least_live-floor.ensures.value stands
          (subst (λ (f : RetireFault). Retires c.in-Some.store.limit c.least_live-floor.result c.in-Some.store.book (Err f) (journal_of c.retire.new.self stages)) c.in-Failed.is c.in-Err.ensures.journal) refl refl)
          cut c.self.invariant.0.callers (ap was_disk c.rotation_of-in-Failed.ensures) rose
          (λ t. subst (λ (s : Shape). Contains (as_read stages) (book_in (g.R.Rack.state c.retire.new.rack).areas s c.self.inside.terms.limit)) of.shape
          (subst (λ (l : ℕ). Contains (as_read stages) (book_in (g.R.Rack.state c.retire.new.rack).areas c.in-Some.store.shape l)) of.limit (c.in-Err.ensures.reads t failed)))
          (λ t. subst (λ (s : Shape). OpensToOneOf s c.self.inside.terms.limit (as_read stages) (g.R.Rack.state c.retire.new.rack).areas) of.shape
          (subst (λ (l : ℕ). OpensToOneOf c.in-Some.store.shape l (as_read stages) (g.R.Rack.state c.retire.new.rack).areas) of.limit (c.in-Err.ensures.each_moment t).now)),
      entries_told c.self.inside.entries.items c.tell-in-Failed.new.entries.items c.self.inside.told.items c.tell-in-Failed.new.tale.items c.rotation_of-in-Failed.result c.tell-in-Failed.ensures.entries c.tell-in-Failed.ensures.tale c.self.invariant.1,
      omega (arith, room, c.tell-in-Failed.ensures.one_more, c.tell-in-Failed.ensures.room),
      omega (arith, c.self.invariant.3, c.tell-in-Failed.ensures.room),
    )

pub returns-in-Failed-clause-told : goal.returns-in-Failed-clause-told
returns-in-Failed-clause-told g c =
    let of = c.self.invariant.0.store_is c.in-Some.store c.in-Some.is in
    let old = state_of c.self.inside.terms (g.R.Rack.state c.self.inside.first.value).areas c.self.inside.store c.self.inside.causes.items c.self.inside.held.items c.self.inside.done.items in
    let was : old.journal ≡ sound_with c.in-Some.store.book = journal_sound c.self.inside.store _ c.in-Some.store c.in-Some.is in
    let state = state_of c.self.inside.terms (g.R.Rack.state c.self.inside.first.value).areas None c.cut_off.new.causes.items c.self.inside.held.items c.self.inside.done.items in
    let failed = ap Err c.in-Failed.is in
    let stages = retirement_stages c.least_live-floor.result c.in-Some.store.book in
    let cut : state.journal ≡ cut_off stages =
    ap unsound_with (books_more c.self.inside.terms (g.R.Rack.state c.self.inside.first.value).areas c.self.inside.causes.items c.cut_off.new.causes.items (CutRetirement c.of-before.result c.least_live-floor.result) c.cut_off.ensures)
    ∙ ap (λ (s : StoreState). cut_off (retirement_stages c.least_live-floor.result s.book)) c.of-before.ensures in
    let unsound : c.retire.new.self.is_sound ≡ false = c.in-Err.ensures.unsound failed in
    let stands = after_cut c.retire.new.self stages unsound ∙ sym cut in
    rw (← c.self.view_is) (record {
      began = record { terms = refl; first = refl; faults = refl };
      own = c.rotation_of-in-Failed.result ∷ [];
      own_is = (c.rotation_of-in-Failed.result, refl, c.rotation_of-in-Failed.ensures);
      told = c.tell-in-Failed.ensures.tale;
      steps = one_step g.R.Rack.tells g.S.Suite.meaning c.self.inside.terms old state c.rotation_of-in-Failed.result
          (rotates_of g.R.Rack.tells g.S.Suite.meaning c.self.inside.terms c.args.caller c.args.moment c.rotation_of-in-Failed.result old state c.in-Some.store c.least_live-floor.result
          (Err retire.Failed) _ c.rotation_of-in-Failed.ensures was of.limit c.least_live-floor.ensures.value stands
          (subst (λ (f : RetireFault). Retires c.in-Some.store.limit c.least_live-floor.result c.in-Some.store.book (Err f) (journal_of c.retire.new.self stages)) c.in-Failed.is c.in-Err.ensures.journal) refl refl);
    })

pub returns-in-Failed-clause-each_moment : goal.returns-in-Failed-clause-each_moment
returns-in-Failed-clause-each_moment g c =
    let of = c.self.invariant.0.store_is c.in-Some.store c.in-Some.is in
    let old = state_of c.self.inside.terms (g.R.Rack.state c.self.inside.first.value).areas c.self.inside.store c.self.inside.causes.items c.self.inside.held.items c.self.inside.done.items in
    let was : old.journal ≡ sound_with c.in-Some.store.book = journal_sound c.self.inside.store _ c.in-Some.store c.in-Some.is in
    rw (← c.self.view_is) (λ t.
    subst (λ (f : ℕ). AtEachMoment (OpensToOneOf c.self.inside.terms.shape c.self.inside.terms.limit (on_the_way c.self.inside.terms.shape (retirement_stages f) old.journal))
    (g.R.Rack.state c.self.inside.rack) (g.R.Rack.state c.retire.new.rack)) c.least_live-floor.ensures.value
    (moments_changed c.self.inside.terms (retirement_stages c.least_live-floor.result) old.journal c.in-Some.store (g.R.Rack.state c.self.inside.rack) (g.R.Rack.state c.room.new.self) (g.R.Rack.state c.retire.new.rack)
    was of.shape of.limit (ap (λ (r : RackState). r.past) c.room.ensures.same) (c.in-Err.ensures.each_moment t)))

pub returns-in-Failed-clause-kept : goal.returns-in-Failed-clause-kept
returns-in-Failed-clause-kept g c =
    let kept = (invariant_of-self-in-Failed g c).0.kept in record { tale = kept.tale; reads = kept.reads; covers = kept.covers; failures = kept.failures; no_fewer = kept.no_fewer; since_made = kept.since_made }
