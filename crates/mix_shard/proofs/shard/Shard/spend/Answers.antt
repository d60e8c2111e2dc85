use Rattle.std.proofs.Common.{◌≡◌, ◌≤◌, ◌+◌, ℕ, false, List, [], ◌∷◌, ◌++◌, map, length, refl, sym, ap, subst, ◌∙◌, Some, None, Ok, Err, arith}
use Rattle.std.proofs.lemmas.List.{append-nil, length-append}
use Rattle.std.proofs.lemmas.List.Sorted.{length_permutation}
use Rattle.std.specs.List.{Contains}
use Rattle.std.specs.List.Sorted.{IsPermutation}
use Rattle.mix_base.specs.Faults.{Rose}
use Rattle.mix_base.specs.declared.shards.Shape.{Shape}
use Rattle.due_queue.specs.Queues as queues
use Rattle.due_queue.specs.declared.destinations.Dest.{Dest}
use Rattle.epoch_keys.specs.Epochs.{least_live}
use Rattle.replay_disk.specs.Disk.{Areas, RackState}
use Rattle.spent_store.specs.Changes.{claim_stages}
use Rattle.spent_store.specs.Journals.{Claims, cut_off, sound_with, unsound_with}
use Rattle.spent_store.specs.Stores.{OpensToOneOf, Stands, StoreState, as_read, book_in, journal_of}
use Rattle.spent_store.specs.declared.faults.ClaimFault.{ClaimFault}
use Rattle.spent_store.specs.declared.faults.ClaimFault.TheVariants as claim
use Rattle.mix_shard.specs.Entries.{was_disk}
use Rattle.mix_shard.specs.Items.{Item}
use Rattle.std.proofs.Common.{not}
use Rattle.std.specs.Vec.{vec_len, vec_capacity}
use Rattle.std.specs.List.{count_by}
use Rattle.mix_shard.specs.Kept.{Keeps, shard_of, state_of}
use Rattle.mix_shard.specs.Shards.{ShardState}
use Rattle.mix_shard.specs.Tale.{IsActive}
use Rattle.mix_shard.specs.declared.causes.Cause.TheVariants.{CutClaim}
use Rattle.mix_shard.specs.declared.entries.Entry.TheVariants as entries
use Rattle.mix_shard.specs.declared.entries.Answer.{Answer}
use Rattle.mix_shard.specs.declared.setup.Setup.{Setup}
use Rattle.mix_shard.proofs.Changes.{after_cut, after_sound, claims_of, journal_sound, keeps_changed, keeps_cut, keeps_waiting, moments_changed, moments_waiting, stages_as, wanting_claim}
use Rattle.mix_shard.proofs.Claims.{answers_alike, no_disk, no_opening, owes_claim, waiting_alike}
use Rattle.mix_shard.proofs.Keeping.{keeps_rack}
use Rattle.mix_shard.proofs.Openings.{books_more}
use Rattle.mix_shard.proofs.Rooms.{entries_told}
use Rattle.mix_shard.proofs.Tales.{one_step}
use Rattle.mix_shard.proofs.shard.Shard.spend.Goals as goal

pub claim-requires-clause-sound : goal.claim-requires-clause-sound
claim-requires-clause-sound g c =
    ap (λ (s : StoreState). s.is_sound) c.in_ok-reserve-2.ensures.same ∙ (c.self.invariant.0.store_is c.in-Some.store c.in-Some.is).sound

pub claim-requires-clause-stands : goal.claim-requires-clause-stands
claim-requires-clause-stands g c t =
    subst (λ (s : StoreState). Stands s (g.R.Rack.state c.room.new.self).areas) (sym c.in_ok-reserve-2.ensures.same)
    (subst (λ (a : Areas). Stands c.in-Some.store a) (sym (ap (λ (r : RackState). r.areas) c.room.ensures.same)) ((c.self.invariant.0.store_is c.in-Some.store c.in-Some.is).stands t))

pub put-requires : goal.put-requires
put-requires g c = subst (λ (d : Dest). 1 ≤ queues.spare c.reserve.new.self d) c.dest.ensures c.in_ok-reserve.ensures.ok

pub returns-in_err-reserve-clause-told : goal.returns-in_err-reserve-clause-told
returns-in_err-reserve-clause-told g c =
    rw (← c.self.view_is) (record {
      began = record { terms = refl; first = refl; faults = refl };
      own = [];
      own_is = wanting_claim c.args.caller c.args.held c.from_residual.result c.from_residual.ensures.1;
      told = sym (append-nil c.self.inside.told.items);
      steps = ap (λ (items : List Item). state_of c.self.inside.terms (g.R.Rack.state c.self.inside.first.value).areas c.self.inside.store c.self.inside.causes.items items c.self.inside.done.items) c.reserve.ensures.items;
    })

pub returns-in_err-reserve-clause-each_moment : goal.returns-in_err-reserve-clause-each_moment
returns-in_err-reserve-clause-each_moment g c =
    let sound = rw (← c.self.view_is) at c.requires.sound in
    rw (← c.self.view_is) (λ t.
    moments_waiting g.R.Rack.tells g.S.Suite.meaning _ c.self.inside.store _ (claim_stages c.args.held.epoch (c.args.held.tag ∷ []) (least_live c.self.inside.terms.setup.times c.args.held.at)) (g.R.Rack.state c.self.inside.rack)
    c.self.invariant.0 refl sound refl refl t)

pub invariant_of-self-in_err-room : goal.invariant_of-self-in_err-room
invariant_of-self-in_err-room g c =
    subst (λ (items : List Item). Keeps g.R.Rack.tells g.S.Suite.meaning (shard_of c.self.inside.terms (g.R.Rack.state c.room.new.self) (g.R.Rack.state c.self.inside.first.value) (g.R.Rack.state c.self.inside.made.value).faults c.self.inside.told.items c.self.inside.store c.self.inside.causes.items items c.self.inside.done.items 0) c.self.inside.store
    × (c.self.inside.entries.items ≡ map (λ told. told.entry) c.self.inside.told.items)
    × (vec_len c.self.inside.entries + (length items + count_by not c.self.inside.done.items) ≤ vec_capacity c.self.inside.entries)
    × (c.self.inside.terms.callers ≤ vec_capacity c.self.inside.entries)) (sym c.in_ok-reserve.ensures.items) (
      keeps_rack g.R.Rack.tells g.S.Suite.meaning _ (g.R.Rack.state c.room.new.self) c.self.inside.store
          (ap (λ (r : RackState). r.areas) c.room.ensures.same) (omega (arith, ap (λ (r : RackState). r.faults) c.room.ensures.same)) c.self.invariant.0,
      c.self.invariant.1,
      c.self.invariant.2,
      c.self.invariant.3,
    )

pub returns-in_err-room-clause-told : goal.returns-in_err-room-clause-told
returns-in_err-room-clause-told g c =
    rw (← c.self.view_is) (record {
      began = record { terms = refl; first = refl; faults = refl };
      own = [];
      own_is = wanting_claim c.args.caller c.args.held c.from_residual-in_err-room.result c.from_residual-in_err-room.ensures.1;
      told = sym (append-nil c.self.inside.told.items);
      steps = ap (λ (items : List Item). state_of c.self.inside.terms (g.R.Rack.state c.self.inside.first.value).areas c.self.inside.store c.self.inside.causes.items items c.self.inside.done.items) c.reserve.ensures.items;
    })

pub returns-in_err-room-clause-each_moment : goal.returns-in_err-room-clause-each_moment
returns-in_err-room-clause-each_moment g c =
    let sound = rw (← c.self.view_is) at c.requires.sound in
    rw (← c.self.view_is) (λ t.
    moments_waiting g.R.Rack.tells g.S.Suite.meaning _ c.self.inside.store _ (claim_stages c.args.held.epoch (c.args.held.tag ∷ []) (least_live c.self.inside.terms.setup.times c.args.held.at)) (g.R.Rack.state c.room.new.self)
    c.self.invariant.0 refl sound (ap (λ (r : RackState). r.past) c.room.ensures.same) (ap (λ (r : RackState). r.areas) c.room.ensures.same) t)

pub returns-in_err-room-clause-kept : goal.returns-in_err-room-clause-kept
returns-in_err-room-clause-kept g c =
    let kept = (invariant_of-self-in_err-room g c).0.kept in record { tale = kept.tale; reads = kept.reads; covers = kept.covers; failures = kept.failures; no_fewer = kept.no_fewer; since_made = kept.since_made }

pub invariant_of-self-in_err-reserve-2 : goal.invariant_of-self-in_err-reserve-2
invariant_of-self-in_err-reserve-2 g c =
    let of = c.self.invariant.0.store_is c.in-Some.store c.in-Some.is in
    let same = c.in_err-reserve-2.ensures.same in
    let items = c.reserve.ensures.items in
    let state = state_of c.self.inside.terms (g.R.Rack.state c.self.inside.first.value).areas (Some c.reserve-2.new.self) c.self.inside.causes.items c.reserve.new.self.items c.self.inside.done.items in
    let alike = waiting_alike c.self.inside.terms (g.R.Rack.state c.self.inside.first.value).areas c.self.inside.store c.self.inside.causes.items c.self.inside.held.items c.reserve.new.self.items c.self.inside.done.items
    c.in-Some.store c.reserve-2.new.self c.in-Some.is (ap (λ (s : StoreState). s.book) same) items in (
      keeps_waiting g.R.Rack.tells g.S.Suite.meaning _ (g.R.Rack.state c.room.new.self) c.self.inside.store c.self.invariant.0 state c.reserve-2.new.self _ alike refl
          (ap (λ (s : StoreState). s.shape) same ∙ of.shape) (ap (λ (s : StoreState). s.limit) same ∙ of.limit) (ap (λ (s : StoreState). s.is_sound) same ∙ of.sound)
          (λ t. subst (λ (s : StoreState). Stands s (g.R.Rack.state c.room.new.self).areas) (sym same)
          (subst (λ (a : Areas). Stands c.in-Some.store a) (sym (ap (λ (r : RackState). r.areas) c.room.ensures.same)) (of.stands t)))
          (omega (arith, ap (λ (r : RackState). r.faults) c.room.ensures.same)),
      c.self.invariant.1,
      omega (arith, c.self.invariant.2, ap length items),
      c.self.invariant.3,
    )

pub returns-in_err-reserve-2-clause-told : goal.returns-in_err-reserve-2-clause-told
returns-in_err-reserve-2-clause-told g c =
    let alike = waiting_alike c.self.inside.terms (g.R.Rack.state c.self.inside.first.value).areas c.self.inside.store c.self.inside.causes.items c.self.inside.held.items c.reserve.new.self.items c.self.inside.done.items
    c.in-Some.store c.reserve-2.new.self c.in-Some.is (ap (λ (s : StoreState). s.book) c.in_err-reserve-2.ensures.same) c.reserve.ensures.items in
    rw (← c.self.view_is) (record {
      began = record { terms = refl; first = refl; faults = refl };
      own = [];
      own_is = wanting_claim c.args.caller c.args.held c.from_residual-in_err-reserve-2.result c.from_residual-in_err-reserve-2.ensures.1;
      told = sym (append-nil c.self.inside.told.items);
      steps = alike;
    })

pub returns-in_err-reserve-2-clause-each_moment : goal.returns-in_err-reserve-2-clause-each_moment
returns-in_err-reserve-2-clause-each_moment g c =
    let sound = rw (← c.self.view_is) at c.requires.sound in
    rw (← c.self.view_is) (λ t.
    moments_waiting g.R.Rack.tells g.S.Suite.meaning _ c.self.inside.store _ (claim_stages c.args.held.epoch (c.args.held.tag ∷ []) (least_live c.self.inside.terms.setup.times c.args.held.at)) (g.R.Rack.state c.room.new.self)
    c.self.invariant.0 refl sound (ap (λ (r : RackState). r.past) c.room.ensures.same) (ap (λ (r : RackState). r.areas) c.room.ensures.same) t)

pub returns-in_err-reserve-2-clause-kept : goal.returns-in_err-reserve-2-clause-kept
returns-in_err-reserve-2-clause-kept g c =
    let kept = (invariant_of-self-in_err-reserve-2 g c).0.kept in record { tale = kept.tale; reads = kept.reads; covers = kept.covers; failures = kept.failures; no_fewer = kept.no_fewer; since_made = kept.since_made }

pub invariant_of-self-in-Ok : goal.invariant_of-self-in-Ok
invariant_of-self-in-Ok g c =
    let of = c.self.invariant.0.store_is c.in-Some.store c.in-Some.is in
    let same = c.in_ok-reserve-2.ensures.same in
    let store = c.reserve-2.new.self in
    let shape = ap (λ (s : StoreState). s.shape) same ∙ of.shape in
    let limit = ap (λ (s : StoreState). s.limit) same ∙ of.limit in
    let old = state_of c.self.inside.terms (g.R.Rack.state c.self.inside.first.value).areas c.self.inside.store c.self.inside.causes.items c.self.inside.held.items c.self.inside.done.items in
    let was : old.journal ≡ sound_with store.book =
    journal_sound c.self.inside.store _ c.in-Some.store c.in-Some.is ∙ ap (λ (s : StoreState). sound_with s.book) (sym same) in
    let active : IsActive c.args.caller old = rw (← c.self.view_is) at c.requires.active in
    let setup = rw (← c.self.view_is) at c.requires.setup in
    let room = subst (λ (s : ShardState). 2 ≤ s.spare) (sym c.self.view_is) c.requires.room in
    let state = state_of c.self.inside.terms (g.R.Rack.state c.self.inside.first.value).areas (Some c.claim.new.self) c.self.inside.causes.items c.put.new.self.items c.self.inside.done.items in
    let sound = c.in-Ok.ensures.sound (λ failed. absurd (cc)) in
    let more = subst (λ (items : List Item). IsPermutation (items ++ c.args.held ∷ []) c.put.new.self.items) c.reserve.ensures.items c.put.ensures.items in
    let rise : (g.R.Rack.state c.claim.new.rack).faults ≡ (g.R.Rack.state c.self.inside.rack).faults = c.in-Ok.ensures.owes.no_fault (λ failed. absurd (cc)) ∙ ap (λ (r : RackState). r.faults) c.room.ensures.same in (
      keeps_changed g.R.Rack.tells g.S.Suite.meaning _ (g.R.Rack.state c.claim.new.rack) c.self.inside.store c.self.invariant.0
          c.claim_of.result c.tell.new.tale.items state c.claim.new.self _ c.tell.ensures.tale
          (claims_of g.R.Rack.tells g.S.Suite.meaning c.self.inside.terms c.args.caller c.args.held c.claim_of.result old state store c.epoch-epoch.result c.tag.result.now c.least-least.result
          (Ok tt) _ c.claim_of.ensures.entry c.claim_of.ensures.packet active c.claim_of.ensures.held setup was limit c.epoch-epoch.ensures c.tag.ensures c.least-least.ensures.value
          (after_sound c.claim.new.self (claim_stages c.epoch-epoch.result (c.tag.result.now ∷ []) c.least-least.result c.reserve-2.new.self.book) sound) c.in-Ok.ensures.journal more refl)
          refl c.self.invariant.0.callers (ap was_disk c.claim_of.ensures.entry)
          (ap (λ (s : StoreState). s.shape) c.in-Ok.ensures.store ∙ shape) (ap (λ (s : StoreState). s.limit) c.in-Ok.ensures.store ∙ limit) sound
          (λ t. c.in-Ok.ensures.stands t (λ failed. absurd (cc))) (omega (arith, rise)),
      entries_told c.self.inside.entries.items c.tell.new.entries.items c.self.inside.told.items c.tell.new.tale.items c.claim_of.result c.tell.ensures.entries c.tell.ensures.tale c.self.invariant.1,
      omega (arith, room, length_permutation _ _ more, length-append c.self.inside.held.items (c.args.held ∷ []), c.tell.ensures.one_more, c.tell.ensures.room),
      omega (arith, c.self.invariant.3, c.tell.ensures.room),
    )

pub returns-in-Ok-clause-told : goal.returns-in-Ok-clause-told
returns-in-Ok-clause-told g c =
    let of = c.self.invariant.0.store_is c.in-Some.store c.in-Some.is in
    let same = c.in_ok-reserve-2.ensures.same in
    let store = c.reserve-2.new.self in
    let shape = ap (λ (s : StoreState). s.shape) same ∙ of.shape in
    let limit = ap (λ (s : StoreState). s.limit) same ∙ of.limit in
    let old = state_of c.self.inside.terms (g.R.Rack.state c.self.inside.first.value).areas c.self.inside.store c.self.inside.causes.items c.self.inside.held.items c.self.inside.done.items in
    let was : old.journal ≡ sound_with store.book =
    journal_sound c.self.inside.store _ c.in-Some.store c.in-Some.is ∙ ap (λ (s : StoreState). sound_with s.book) (sym same) in
    let active : IsActive c.args.caller old = rw (← c.self.view_is) at c.requires.active in
    let setup = rw (← c.self.view_is) at c.requires.setup in
    let room = subst (λ (s : ShardState). 2 ≤ s.spare) (sym c.self.view_is) c.requires.room in
    let state = state_of c.self.inside.terms (g.R.Rack.state c.self.inside.first.value).areas (Some c.claim.new.self) c.self.inside.causes.items c.put.new.self.items c.self.inside.done.items in
    let sound = c.in-Ok.ensures.sound (λ failed. absurd (cc)) in
    let more = subst (λ (items : List Item). IsPermutation (items ++ c.args.held ∷ []) c.put.new.self.items) c.reserve.ensures.items c.put.ensures.items in
    rw (← c.self.view_is) (record {
      began = record { terms = refl; first = refl; faults = refl };
      own = c.claim_of.result ∷ [];
      own_is = (c.claim_of.result, refl, c.claim_of.ensures.entry, c.claim_of.ensures.packet);
      told = c.tell.ensures.tale;
      steps = one_step g.R.Rack.tells g.S.Suite.meaning c.self.inside.terms old state c.claim_of.result
          (claims_of g.R.Rack.tells g.S.Suite.meaning c.self.inside.terms c.args.caller c.args.held c.claim_of.result old state store c.epoch-epoch.result c.tag.result.now c.least-least.result
          (Ok tt) _ c.claim_of.ensures.entry c.claim_of.ensures.packet active c.claim_of.ensures.held setup was limit c.epoch-epoch.ensures c.tag.ensures c.least-least.ensures.value
          (after_sound c.claim.new.self (claim_stages c.epoch-epoch.result (c.tag.result.now ∷ []) c.least-least.result c.reserve-2.new.self.book) sound) c.in-Ok.ensures.journal more refl);
    })

pub returns-in-Ok-clause-each_moment : goal.returns-in-Ok-clause-each_moment
returns-in-Ok-clause-each_moment g c =
    let of = c.self.invariant.0.store_is c.in-Some.store c.in-Some.is in
    let same = c.in_ok-reserve-2.ensures.same in
    let store = c.reserve-2.new.self in
    let shape = ap (λ (s : StoreState). s.shape) same ∙ of.shape in
    let limit = ap (λ (s : StoreState). s.limit) same ∙ of.limit in
    let old = state_of c.self.inside.terms (g.R.Rack.state c.self.inside.first.value).areas c.self.inside.store c.self.inside.causes.items c.self.inside.held.items c.self.inside.done.items in
    let was : old.journal ≡ sound_with store.book =
    journal_sound c.self.inside.store _ c.in-Some.store c.in-Some.is ∙ ap (λ (s : StoreState). sound_with s.book) (sym same) in
    let active : IsActive c.args.caller old = rw (← c.self.view_is) at c.requires.active in
    let setup = rw (← c.self.view_is) at c.requires.setup in
    let room = subst (λ (s : ShardState). 2 ≤ s.spare) (sym c.self.view_is) c.requires.room in
    rw (← c.self.view_is) (λ t.
    stages_as (g.R.Rack.state c.self.inside.rack) (g.R.Rack.state c.claim.new.rack) c.self.inside.terms old.journal _ _ _ _ _ _ c.epoch-epoch.ensures c.tag.ensures (c.least-least.ensures.value ∙ ap (λ (s : Setup). least_live s.times c.args.held.at) setup)
    (moments_changed c.self.inside.terms (claim_stages c.epoch-epoch.result (c.tag.result.now ∷ []) c.least-least.result) old.journal store (g.R.Rack.state c.self.inside.rack) (g.R.Rack.state c.room.new.self) (g.R.Rack.state c.claim.new.rack)
    was shape limit (ap (λ (r : RackState). r.past) c.room.ensures.same) (c.in-Ok.ensures.each_moment t)))

pub returns-in-Ok-clause-kept : goal.returns-in-Ok-clause-kept
returns-in-Ok-clause-kept g c =
    let kept = (invariant_of-self-in-Ok g c).0.kept in record { tale = kept.tale; reads = kept.reads; covers = kept.covers; failures = kept.failures; no_fewer = kept.no_fewer; since_made = kept.since_made }

pub invariant_of-self-in-Failed : goal.invariant_of-self-in-Failed
invariant_of-self-in-Failed g c =
    let of = c.self.invariant.0.store_is c.in-Some.store c.in-Some.is in
    let same = c.in_ok-reserve-2.ensures.same in
    let store = c.reserve-2.new.self in
    let shape = ap (λ (s : StoreState). s.shape) same ∙ of.shape in
    let limit = ap (λ (s : StoreState). s.limit) same ∙ of.limit in
    let old = state_of c.self.inside.terms (g.R.Rack.state c.self.inside.first.value).areas c.self.inside.store c.self.inside.causes.items c.self.inside.held.items c.self.inside.done.items in
    let was : old.journal ≡ sound_with store.book =
    journal_sound c.self.inside.store _ c.in-Some.store c.in-Some.is ∙ ap (λ (s : StoreState). sound_with s.book) (sym same) in
    let active : IsActive c.args.caller old = rw (← c.self.view_is) at c.requires.active in
    let setup = rw (← c.self.view_is) at c.requires.setup in
    let room = subst (λ (s : ShardState). 2 ≤ s.spare) (sym c.self.view_is) c.requires.room in
    let state = state_of c.self.inside.terms (g.R.Rack.state c.self.inside.first.value).areas None c.cut_off.new.causes.items c.reserve.new.self.items c.self.inside.done.items in
    let failed = ap Err c.in-Failed.is in
    let stages = (claim_stages c.epoch-epoch.result (c.tag.result.now ∷ []) c.least-least.result c.reserve-2.new.self.book) in
    let cut : state.journal ≡ cut_off stages =
    ap unsound_with (books_more c.self.inside.terms (g.R.Rack.state c.self.inside.first.value).areas c.self.inside.causes.items c.cut_off.new.causes.items (CutClaim c.of-before.result c.epoch-epoch.result c.tag.result.now c.least-least.result) c.cut_off.ensures)
    ∙ ap (λ (s : StoreState). cut_off (claim_stages c.epoch-epoch.result (c.tag.result.now ∷ []) c.least-least.result s.book)) c.of-before.ensures in
    let unsound : c.claim.new.self.is_sound ≡ false = c.in-Err.ensures.unsound failed in
    let stands = after_cut c.claim.new.self stages unsound ∙ sym cut in
    let rule = subst (λ (f : ClaimFault). Claims store.limit c.epoch-epoch.result c.tag.result.now c.least-least.result store.book (Err f) (journal_of c.claim.new.self stages)) c.in-Failed.is c.in-Err.ensures.journal in
    let rose = subst (λ (n : ℕ). Rose n (g.R.Rack.state c.claim.new.rack).faults) (ap (λ (r : RackState). r.faults) c.room.ensures.same) (c.in-Err.ensures.owes.rose failed) in (
      keeps_cut g.R.Rack.tells g.S.Suite.meaning _ (g.R.Rack.state c.claim.new.rack) c.self.inside.store c.self.invariant.0
          c.claim_of-in-Failed.result c.tell-in-Failed.new.tale.items state stages _ c.tell-in-Failed.ensures.tale
          (claims_of g.R.Rack.tells g.S.Suite.meaning c.self.inside.terms c.args.caller c.args.held c.claim_of-in-Failed.result old state store c.epoch-epoch.result c.tag.result.now c.least-least.result
          (Err claim.Failed) _ c.claim_of-in-Failed.ensures.entry c.claim_of-in-Failed.ensures.packet active c.claim_of-in-Failed.ensures.held setup was limit c.epoch-epoch.ensures c.tag.ensures c.least-least.ensures.value
          stands rule c.reserve.ensures.items refl)
          cut c.self.invariant.0.callers (ap was_disk c.claim_of-in-Failed.ensures.entry) rose
          (λ t. subst (λ (s : Shape). Contains (as_read stages) (book_in (g.R.Rack.state c.claim.new.rack).areas s c.self.inside.terms.limit)) shape
          (subst (λ (l : ℕ). Contains (as_read stages) (book_in (g.R.Rack.state c.claim.new.rack).areas store.shape l)) limit (c.in-Err.ensures.reads t failed)))
          (λ t. subst (λ (s : Shape). OpensToOneOf s c.self.inside.terms.limit (as_read stages) (g.R.Rack.state c.claim.new.rack).areas) shape
          (subst (λ (l : ℕ). OpensToOneOf store.shape l (as_read stages) (g.R.Rack.state c.claim.new.rack).areas) limit (c.in-Err.ensures.each_moment t).now)),
      entries_told c.self.inside.entries.items c.tell-in-Failed.new.entries.items c.self.inside.told.items c.tell-in-Failed.new.tale.items c.claim_of-in-Failed.result c.tell-in-Failed.ensures.entries c.tell-in-Failed.ensures.tale c.self.invariant.1,
      omega (arith, room, ap length c.reserve.ensures.items, c.tell-in-Failed.ensures.one_more, c.tell-in-Failed.ensures.room),
      omega (arith, c.self.invariant.3, c.tell-in-Failed.ensures.room),
    )

pub returns-in-Failed-clause-told : goal.returns-in-Failed-clause-told
returns-in-Failed-clause-told g c =
    let of = c.self.invariant.0.store_is c.in-Some.store c.in-Some.is in
    let same = c.in_ok-reserve-2.ensures.same in
    let store = c.reserve-2.new.self in
    let shape = ap (λ (s : StoreState). s.shape) same ∙ of.shape in
    let limit = ap (λ (s : StoreState). s.limit) same ∙ of.limit in
    let old = state_of c.self.inside.terms (g.R.Rack.state c.self.inside.first.value).areas c.self.inside.store c.self.inside.causes.items c.self.inside.held.items c.self.inside.done.items in
    let was : old.journal ≡ sound_with store.book =
    journal_sound c.self.inside.store _ c.in-Some.store c.in-Some.is ∙ ap (λ (s : StoreState). sound_with s.book) (sym same) in
    let active : IsActive c.args.caller old = rw (← c.self.view_is) at c.requires.active in
    let setup = rw (← c.self.view_is) at c.requires.setup in
    let room = subst (λ (s : ShardState). 2 ≤ s.spare) (sym c.self.view_is) c.requires.room in
    let state = state_of c.self.inside.terms (g.R.Rack.state c.self.inside.first.value).areas None c.cut_off.new.causes.items c.reserve.new.self.items c.self.inside.done.items in
    let failed = ap Err c.in-Failed.is in
    let stages = (claim_stages c.epoch-epoch.result (c.tag.result.now ∷ []) c.least-least.result c.reserve-2.new.self.book) in
    let cut : state.journal ≡ cut_off stages =
    ap unsound_with (books_more c.self.inside.terms (g.R.Rack.state c.self.inside.first.value).areas c.self.inside.causes.items c.cut_off.new.causes.items (CutClaim c.of-before.result c.epoch-epoch.result c.tag.result.now c.least-least.result) c.cut_off.ensures)
    ∙ ap (λ (s : StoreState). cut_off (claim_stages c.epoch-epoch.result (c.tag.result.now ∷ []) c.least-least.result s.book)) c.of-before.ensures in
    let unsound : c.claim.new.self.is_sound ≡ false = c.in-Err.ensures.unsound failed in
    let stands = after_cut c.claim.new.self stages unsound ∙ sym cut in
    let rule = subst (λ (f : ClaimFault). Claims store.limit c.epoch-epoch.result c.tag.result.now c.least-least.result store.book (Err f) (journal_of c.claim.new.self stages)) c.in-Failed.is c.in-Err.ensures.journal in
    rw (← c.self.view_is) (record {
      began = record { terms = refl; first = refl; faults = refl };
      own = c.claim_of-in-Failed.result ∷ [];
      own_is = (c.claim_of-in-Failed.result, refl, c.claim_of-in-Failed.ensures.entry, c.claim_of-in-Failed.ensures.packet);
      told = c.tell-in-Failed.ensures.tale;
      steps = one_step g.R.Rack.tells g.S.Suite.meaning c.self.inside.terms old state c.claim_of-in-Failed.result
          (claims_of g.R.Rack.tells g.S.Suite.meaning c.self.inside.terms c.args.caller c.args.held c.claim_of-in-Failed.result old state store c.epoch-epoch.result c.tag.result.now c.least-least.result
          (Err claim.Failed) _ c.claim_of-in-Failed.ensures.entry c.claim_of-in-Failed.ensures.packet active c.claim_of-in-Failed.ensures.held setup was limit c.epoch-epoch.ensures c.tag.ensures c.least-least.ensures.value
          stands rule c.reserve.ensures.items refl);
    })

pub returns-in-Failed-clause-each_moment : goal.returns-in-Failed-clause-each_moment
returns-in-Failed-clause-each_moment g c =
    let of = c.self.invariant.0.store_is c.in-Some.store c.in-Some.is in
    let same = c.in_ok-reserve-2.ensures.same in
    let store = c.reserve-2.new.self in
    let shape = ap (λ (s : StoreState). s.shape) same ∙ of.shape in
    let limit = ap (λ (s : StoreState). s.limit) same ∙ of.limit in
    let old = state_of c.self.inside.terms (g.R.Rack.state c.self.inside.first.value).areas c.self.inside.store c.self.inside.causes.items c.self.inside.held.items c.self.inside.done.items in
    let was : old.journal ≡ sound_with store.book =
    journal_sound c.self.inside.store _ c.in-Some.store c.in-Some.is ∙ ap (λ (s : StoreState). sound_with s.book) (sym same) in
    let active : IsActive c.args.caller old = rw (← c.self.view_is) at c.requires.active in
    let setup = rw (← c.self.view_is) at c.requires.setup in
    let room = subst (λ (s : ShardState). 2 ≤ s.spare) (sym c.self.view_is) c.requires.room in
    rw (← c.self.view_is) (λ t.
    stages_as (g.R.Rack.state c.self.inside.rack) (g.R.Rack.state c.claim.new.rack) c.self.inside.terms old.journal _ _ _ _ _ _ c.epoch-epoch.ensures c.tag.ensures (c.least-least.ensures.value ∙ ap (λ (s : Setup). least_live s.times c.args.held.at) setup)
    (moments_changed c.self.inside.terms (claim_stages c.epoch-epoch.result (c.tag.result.now ∷ []) c.least-least.result) old.journal store (g.R.Rack.state c.self.inside.rack) (g.R.Rack.state c.room.new.self) (g.R.Rack.state c.claim.new.rack)
    was shape limit (ap (λ (r : RackState). r.past) c.room.ensures.same) (c.in-Err.ensures.each_moment t)))

pub returns-in-Failed-clause-kept : goal.returns-in-Failed-clause-kept
returns-in-Failed-clause-kept g c =
    let kept = (invariant_of-self-in-Failed g c).0.kept in record { tale = kept.tale; reads = kept.reads; covers = kept.covers; failures = kept.failures; no_fewer = kept.no_fewer; since_made = kept.since_made }

pub invariant_of-self-in_default-fault : goal.invariant_of-self-in_default-fault
invariant_of-self-in_default-fault g c =
    let of = c.self.invariant.0.store_is c.in-Some.store c.in-Some.is in
    let same = c.in_ok-reserve-2.ensures.same in
    let store = c.reserve-2.new.self in
    let shape = ap (λ (s : StoreState). s.shape) same ∙ of.shape in
    let limit = ap (λ (s : StoreState). s.limit) same ∙ of.limit in
    let old = state_of c.self.inside.terms (g.R.Rack.state c.self.inside.first.value).areas c.self.inside.store c.self.inside.causes.items c.self.inside.held.items c.self.inside.done.items in
    let was : old.journal ≡ sound_with store.book =
    journal_sound c.self.inside.store _ c.in-Some.store c.in-Some.is ∙ ap (λ (s : StoreState). sound_with s.book) (sym same) in
    let active : IsActive c.args.caller old = rw (← c.self.view_is) at c.requires.active in
    let setup = rw (← c.self.view_is) at c.requires.setup in
    let room = subst (λ (s : ShardState). 2 ≤ s.spare) (sym c.self.view_is) c.requires.room in
    let state = state_of c.self.inside.terms (g.R.Rack.state c.self.inside.first.value).areas (Some c.claim.new.self) c.self.inside.causes.items c.reserve.new.self.items c.self.inside.done.items in
    let sound = c.in-Err.ensures.sound (λ failed. c.in_default-fault.not-Failed (cc)) in
    let entry_is = c.claim_of-in_default-fault.ensures.entry ∙ ap (λ (a : Answer). entries.Claim c.args.caller c.args.held.number c.args.held.epoch c.args.held.tag c.args.held.at a) c.answer_to.ensures in
    let rise : (g.R.Rack.state c.claim.new.rack).faults ≡ (g.R.Rack.state c.self.inside.rack).faults = c.in-Err.ensures.owes.no_fault (λ failed. c.in_default-fault.not-Failed (cc)) ∙ ap (λ (r : RackState). r.faults) c.room.ensures.same in (
      keeps_changed g.R.Rack.tells g.S.Suite.meaning _ (g.R.Rack.state c.claim.new.rack) c.self.inside.store c.self.invariant.0
          c.claim_of-in_default-fault.result c.tell-in_default-fault.new.tale.items state c.claim.new.self _ c.tell-in_default-fault.ensures.tale
          (claims_of g.R.Rack.tells g.S.Suite.meaning c.self.inside.terms c.args.caller c.args.held c.claim_of-in_default-fault.result old state store c.epoch-epoch.result c.tag.result.now c.least-least.result
          (Err c.in-Err.fault) _ entry_is c.claim_of-in_default-fault.ensures.packet active c.claim_of-in_default-fault.ensures.held setup was limit c.epoch-epoch.ensures c.tag.ensures c.least-least.ensures.value
          (after_sound c.claim.new.self (claim_stages c.epoch-epoch.result (c.tag.result.now ∷ []) c.least-least.result c.reserve-2.new.self.book) sound) c.in-Err.ensures.journal c.reserve.ensures.items refl)
          refl c.self.invariant.0.callers (ap was_disk entry_is ∙ no_disk c.in-Err.fault c.in_default-fault.not-Failed)
          (ap (λ (s : StoreState). s.shape) c.in-Err.ensures.store ∙ shape) (ap (λ (s : StoreState). s.limit) c.in-Err.ensures.store ∙ limit) sound
          (λ t. c.in-Err.ensures.stands t (λ failed. c.in_default-fault.not-Failed (cc))) (omega (arith, rise)),
      entries_told c.self.inside.entries.items c.tell-in_default-fault.new.entries.items c.self.inside.told.items c.tell-in_default-fault.new.tale.items c.claim_of-in_default-fault.result c.tell-in_default-fault.ensures.entries c.tell-in_default-fault.ensures.tale c.self.invariant.1,
      omega (arith, room, ap length c.reserve.ensures.items, c.tell-in_default-fault.ensures.one_more, c.tell-in_default-fault.ensures.room),
      omega (arith, c.self.invariant.3, c.tell-in_default-fault.ensures.room),
    )

pub returns : goal.returns
returns g c =
    let of = c.self.invariant.0.store_is c.in-Some.store c.in-Some.is in
    let same = c.in_ok-reserve-2.ensures.same in
    let store = c.reserve-2.new.self in
    let shape = ap (λ (s : StoreState). s.shape) same ∙ of.shape in
    let limit = ap (λ (s : StoreState). s.limit) same ∙ of.limit in
    let old = state_of c.self.inside.terms (g.R.Rack.state c.self.inside.first.value).areas c.self.inside.store c.self.inside.causes.items c.self.inside.held.items c.self.inside.done.items in
    let was : old.journal ≡ sound_with store.book =
    journal_sound c.self.inside.store _ c.in-Some.store c.in-Some.is ∙ ap (λ (s : StoreState). sound_with s.book) (sym same) in
    let active : IsActive c.args.caller old = rw (← c.self.view_is) at c.requires.active in
    let setup = rw (← c.self.view_is) at c.requires.setup in
    let room = subst (λ (s : ShardState). 2 ≤ s.spare) (sym c.self.view_is) c.requires.room in
    let state = state_of c.self.inside.terms (g.R.Rack.state c.self.inside.first.value).areas (Some c.claim.new.self) c.self.inside.causes.items c.reserve.new.self.items c.self.inside.done.items in
    let sound = c.in-Err.ensures.sound (λ failed. c.in_default-fault.not-Failed (cc)) in
    let entry_is = c.claim_of-in_default-fault.ensures.entry ∙ ap (λ (a : Answer). entries.Claim c.args.caller c.args.held.number c.args.held.epoch c.args.held.tag c.args.held.at a) c.answer_to.ensures in
    let rise : (g.R.Rack.state c.claim.new.rack).faults ≡ (g.R.Rack.state c.self.inside.rack).faults = c.in-Err.ensures.owes.no_fault (λ failed. c.in_default-fault.not-Failed (cc)) ∙ ap (λ (r : RackState). r.faults) c.room.ensures.same in
    let keeps = (keeps_changed g.R.Rack.tells g.S.Suite.meaning _ (g.R.Rack.state c.claim.new.rack) c.self.inside.store c.self.invariant.0
    c.claim_of-in_default-fault.result c.tell-in_default-fault.new.tale.items state c.claim.new.self 0 c.tell-in_default-fault.ensures.tale
    (claims_of g.R.Rack.tells g.S.Suite.meaning c.self.inside.terms c.args.caller c.args.held c.claim_of-in_default-fault.result old state store c.epoch-epoch.result c.tag.result.now c.least-least.result
    (Err c.in-Err.fault) _ entry_is c.claim_of-in_default-fault.ensures.packet active c.claim_of-in_default-fault.ensures.held setup was limit c.epoch-epoch.ensures c.tag.ensures c.least-least.ensures.value
    (after_sound c.claim.new.self (claim_stages c.epoch-epoch.result (c.tag.result.now ∷ []) c.least-least.result c.reserve-2.new.self.book) sound) c.in-Err.ensures.journal c.reserve.ensures.items refl)
    refl c.self.invariant.0.callers (ap was_disk entry_is ∙ no_disk c.in-Err.fault c.in_default-fault.not-Failed)
    (ap (λ (s : StoreState). s.shape) c.in-Err.ensures.store ∙ shape) (ap (λ (s : StoreState). s.limit) c.in-Err.ensures.store ∙ limit) sound
    (λ t. c.in-Err.ensures.stands t (λ failed. c.in_default-fault.not-Failed (cc))) (omega (arith, rise))) in
    let kept = keeps.kept in
    record {
      told = rw (← c.self.view_is) (record {
        began = record { terms = refl; first = refl; faults = refl };
        own = c.claim_of-in_default-fault.result ∷ [];
        own_is = answers_alike c.args.caller c.args.held c.in-Err.fault c.from.result c.claim_of-in_default-fault.result c.from.ensures entry_is c.claim_of-in_default-fault.ensures.packet;
        told = c.tell-in_default-fault.ensures.tale;
        steps = one_step g.R.Rack.tells g.S.Suite.meaning c.self.inside.terms old state c.claim_of-in_default-fault.result
            (claims_of g.R.Rack.tells g.S.Suite.meaning c.self.inside.terms c.args.caller c.args.held c.claim_of-in_default-fault.result old state store c.epoch-epoch.result c.tag.result.now c.least-least.result
            (Err c.in-Err.fault) _ entry_is c.claim_of-in_default-fault.ensures.packet active c.claim_of-in_default-fault.ensures.held setup was limit c.epoch-epoch.ensures c.tag.ensures c.least-least.ensures.value
            (after_sound c.claim.new.self (claim_stages c.epoch-epoch.result (c.tag.result.now ∷ []) c.least-least.result c.reserve-2.new.self.book) sound) c.in-Err.ensures.journal c.reserve.ensures.items refl);
      });
      objects = no_opening c.in-Err.fault c.from.result c.from.ensures;
      each_moment = rw (← c.self.view_is) (λ t.
          stages_as (g.R.Rack.state c.self.inside.rack) (g.R.Rack.state c.claim.new.rack) c.self.inside.terms old.journal _ _ _ _ _ _ c.epoch-epoch.ensures c.tag.ensures (c.least-least.ensures.value ∙ ap (λ (s : Setup). least_live s.times c.args.held.at) setup)
          (moments_changed c.self.inside.terms (claim_stages c.epoch-epoch.result (c.tag.result.now ∷ []) c.least-least.result) old.journal store (g.R.Rack.state c.self.inside.rack) (g.R.Rack.state c.room.new.self) (g.R.Rack.state c.claim.new.rack)
          was shape limit (ap (λ (r : RackState). r.past) c.room.ensures.same) (c.in-Err.ensures.each_moment t)));
      owes = rw (← c.self.view_is) (owes_claim c.in-Err.fault c.from.result (g.R.Rack.state c.self.inside.rack) (g.R.Rack.state c.room.new.self) (g.R.Rack.state c.claim.new.rack) c.from.ensures c.in_default-fault.not-Failed c.room.ensures.same c.in-Err.ensures.owes);
      kept = record { tale = kept.tale; reads = kept.reads; covers = kept.covers; failures = kept.failures; no_fewer = kept.no_fewer; since_made = kept.since_made };
      callers = rw (← c.self.view_is) refl;
    }
