-- Claims and retirements of a sound journal: what is told of them is true, and the type's facts hold afterwards.
use Rattle.std.proofs.Common.{◌≡◌, ℕ, ◌≤◌, true, false, List, [], ◌∷◌, ◌++◌, length, Contains, Option, Some, None, Result, Ok, Err, refl, sym, ap, subst, ◌∙◌, inl, inr, arith}
use Rattle.std.specs.List.{flat_map}
use Rattle.std.specs.Option.{ForSome}
use Rattle.std.specs.Result.{IsErrAnd}
use Rattle.std.proofs.lemmas.List.{append-nil}
use Rattle.std.proofs.lemmas.List.Elements.{Contains-append_left, Contains-append_right}
use Rattle.mix_base.specs.Faults.{Rose}
use Rattle.mix_base.specs.Suites.{SuiteMeaning}
use Rattle.mix_base.specs.declared.shards.Shape.{Shape}
use Rattle.mix_base.proofs.Members.{Contains-head, Contains-cons_cases, none_in_empty}
use Rattle.replay_disk.specs.Disk.{Areas, RackState}
use Rattle.replay_disk.specs.Moments.{AtEachMoment}
use Rattle.replay_disk.proofs.Laws.{weaker}
use Rattle.spent_store.specs.Books.{StoredBook}
use Rattle.spent_store.specs.Journals.{Journal, cut_off, sound_with, unopened}
use Rattle.spent_store.specs.Stores.{OpensToOneOf, StandFor, Stands, StoreState, as_read, book_in, journal_of, opened}
use Rattle.spent_store.specs.declared.faults.Objection.{Objection}
use Rattle.spent_store.proofs.StepLaws.{unopened-old}
use Rattle.epoch_keys.specs.Epochs.{least_live}
use Rattle.replay_disk.proofs.Laws.{same_moment, started}
use Rattle.spent_store.specs.Changes.{claim_stages}
use Rattle.spent_store.specs.Journals.{Claims, Retires}
use Rattle.spent_store.specs.declared.faults.ClaimFault.{ClaimFault}
use Rattle.spent_store.specs.declared.faults.RetireFault.{RetireFault}
use Rattle.spent_store.proofs.Stages.{standing}
use Rattle.mix_shard.specs.Entries.{claim_answer, packet_of, retire_answer, was_disk}
use Rattle.mix_shard.specs.Items.{IsHeld, Item}
use Rattle.mix_shard.specs.Kept.{IsStoreOf, Keeps, journal_now}
use Rattle.mix_shard.specs.Faults.{admit_answer, rotate_answer}
use Rattle.mix_shard.specs.declared.faults.Denied.{Denied}
use Rattle.mix_shard.specs.declared.faults.Denied.TheVariants as denied
use Rattle.mix_shard.specs.declared.faults.RotateFault.{RotateFault}
use Rattle.mix_shard.specs.declared.faults.RotateFault.TheVariants as rotate
use Rattle.mix_shard.specs.Shards.{IsCharted, IsClaimEntry, IsRotateEntry, ShardState, on_the_way, stages_of}
use Rattle.mix_shard.specs.Tale.{HeldAfter, IsActive, Says, State, Step}
use Rattle.mix_shard.specs.declared.entries.Entry.{Entry}
use Rattle.mix_shard.specs.declared.entries.Entry.TheVariants as entries
use Rattle.mix_shard.specs.declared.setup.Setup.{Setup}
use Rattle.mix_shard.specs.declared.entries.Told.{Told}
use Rattle.mix_shard.specs.declared.terms.Terms.{Terms}
use Rattle.mix_shard.proofs.Keeping.{Gives, failures_none, failures_one, gives_standing, keeps_told, none_failed, one_failed}
use Rattle.mix_shard.proofs.Tales.{one_step}

-- ---- the books on the way

pub Contains-flat_map : {X Y : Type 0} (f : X → List Y) (xs : List X) (x : X) (y : Y) → Contains xs x → Contains (f x) y → Contains (flat_map f xs) y
Contains-flat_map f [] x y there here = absurd (none_in_empty x there)
Contains-flat_map f (z ∷ xs) x y there here =
    elim (Contains-cons_cases z xs x there) [
      | inl same ↦ Contains-append_left (f z) (flat_map f xs) y (subst (λ (w : _). Contains (f w) y) (sym same) here)
      | inr later ↦ Contains-append_right (f z) (flat_map f xs) y (Contains-flat_map f xs x y later here)
    ]

-- a stage of the change of a book of the journal
pub on_the_way-stage : (shape : Shape) (stages : StoredBook → List StoredBook) (journal : Journal) (book : StoredBook) (read : Result StoredBook Objection)
    → Contains (unopened shape journal).books (Ok book) → Contains (as_read (stages book)) read → Contains (on_the_way shape stages journal) read
on_the_way-stage shape stages journal book read there stage =
    Contains-append_right (unopened shape journal).books (flat_map (stages_of stages) (unopened shape journal).books) read
    (Contains-flat_map (stages_of stages) (unopened shape journal).books (Ok book) read there stage)

-- a book that was there, its root made or not
pub on_the_way-opened : (shape : Shape) (stages : StoredBook → List StoredBook) (journal : Journal) (read : Result StoredBook Objection)
    → Contains (unopened shape journal).books read → Contains (on_the_way shape stages journal) read
on_the_way-opened shape stages journal read there =
    Contains-append_left (unopened shape journal).books (flat_map (stages_of stages) (unopened shape journal).books) read there

-- at each moment of a change of a sound journal's book
pub moments_changing : (terms : Terms) (stages : StoredBook → List StoredBook) (journal : Journal) (book : StoredBook) (old new : RackState)
    → Contains (unopened terms.shape journal).books (Ok book)
    → AtEachMoment (OpensToOneOf terms.shape terms.limit (as_read (stages book))) old new
    → AtEachMoment (OpensToOneOf terms.shape terms.limit (on_the_way terms.shape stages journal)) old new
moments_changing terms stages journal book old new there moments =
    weaker (OpensToOneOf terms.shape terms.limit (as_read (stages book))) (OpensToOneOf terms.shape terms.limit (on_the_way terms.shape stages journal)) old new
    (λ areas covers left. on_the_way-stage terms.shape stages journal book (opened terms.shape terms.limit areas left) there (covers left)) moments

pub moments_opened : (terms : Terms) (stages : StoredBook → List StoredBook) (journal : Journal) (old new : RackState)
    → AtEachMoment (OpensToOneOf terms.shape terms.limit (unopened terms.shape journal).books) old new
    → AtEachMoment (OpensToOneOf terms.shape terms.limit (on_the_way terms.shape stages journal)) old new
moments_opened terms stages journal old new moments =
    weaker (OpensToOneOf terms.shape terms.limit (unopened terms.shape journal).books) (OpensToOneOf terms.shape terms.limit (on_the_way terms.shape stages journal)) old new
    (λ areas covers left. on_the_way-opened terms.shape stages journal (opened terms.shape terms.limit areas left) (covers left)) moments

-- the book of a sound journal
pub sound_there : (shape : Shape) (book : StoredBook) → Contains (unopened shape (sound_with book)).books (Ok book)
sound_there shape book = unopened-old shape (sound_with book) (Ok book) (Contains-head (Ok book) [])

-- ---- the journal after a change

pub after_sound : (store : StoreState) (stages : List StoredBook) → store.is_sound ≡ true → journal_of store stages ≡ sound_with store.book
after_sound store stages sound = rw sound refl

pub after_cut : (store : StoreState) (stages : List StoredBook) → store.is_sound ≡ false → journal_of store stages ≡ cut_off stages
after_cut store stages unsound = rw unsound refl

-- ---- the type's facts after a change

module _ (tells : Type 0) (suite : SuiteMeaning) (shard : ShardState) (rack : RackState) (store : Option StoreState) (keeps : Keeps tells suite shard store) where
  is_store : (changed : StoreState) → changed.shape ≡ shard.terms.shape → changed.limit ≡ shard.terms.limit → changed.is_sound ≡ true → (tells → Stands changed rack.areas)
      → ForSome (Some changed) (IsStoreOf tells (record shard { rack = rack }))
  is_store changed shape limit sound stands other is =
      let same : changed ≡ other = cc in
      subst (λ (s : StoreState). IsStoreOf tells (record shard { rack = rack }) s) same (record { shape = shape; limit = limit; sound = sound; stands = stands })

  gives_of : (charted : Type 0) (changed : StoreState) (journal : Journal) → journal ≡ sound_with changed.book → changed.shape ≡ shard.terms.shape → changed.limit ≡ shard.terms.limit
      → (tells → Stands changed rack.areas) → Gives tells charted shard.terms journal rack.areas
  gives_of charted changed journal journal_is shape limit stands =
      subst (λ (j : Journal). Gives tells charted shard.terms j rack.areas) (sym journal_is)
      (gives_standing tells charted shard.terms changed.book rack.areas (λ t.
      subst (λ (s : Shape). StandFor s shard.terms.limit changed.book rack.areas) shape
      (subst (λ (l : ℕ). StandFor changed.shape l changed.book rack.areas) limit (stands t))))

  -- the store stands, and an entry was told that is no failure
  pub keeps_changed : (one : Told) (told : List Told) (state : State) (changed : StoreState) (spare : ℕ)
      → told ≡ shard.told ++ one ∷ [] → Step tells suite shard.terms one shard.state state
      → state.journal ≡ sound_with changed.book → length state.done ≡ shard.terms.callers → was_disk one.entry ≡ false
      → changed.shape ≡ shard.terms.shape → changed.limit ≡ shard.terms.limit → changed.is_sound ≡ true → (tells → Stands changed rack.areas)
      → shard.rack.faults ≤ rack.faults
      → Keeps tells suite (record shard { rack = rack; told = told; state = state; spare = spare }) (Some changed)
  keeps_changed one told state changed spare told_is step journal callers no_disk shape limit sound stands rise =
      keeps_told tells suite shard rack (one ∷ []) told state store (Some changed) spare keeps told_is
      (one_step tells suite shard.terms shard.state state one step)
      (gives_of _ changed state.journal journal shape limit stands)
      (failures_none shard.first.faults shard.rack.faults rack.faults shard.told (one ∷ []) (none_failed one no_disk) rise keeps.kept.failures)
      rise (is_store changed shape limit sound stands) callers

  -- the store stands, and nothing was told
  pub keeps_waiting : (state : State) (changed : StoreState) (spare : ℕ)
      → state ≡ shard.state → state.journal ≡ sound_with changed.book
      → changed.shape ≡ shard.terms.shape → changed.limit ≡ shard.terms.limit → changed.is_sound ≡ true → (tells → Stands changed rack.areas)
      → shard.rack.faults ≤ rack.faults
      → Keeps tells suite (record shard { rack = rack; state = state; spare = spare }) (Some changed)
  keeps_waiting state changed spare same journal shape limit sound stands rise =
      keeps_told tells suite shard rack [] shard.told state store (Some changed) spare keeps (sym (append-nil shard.told)) same
      (gives_of _ changed state.journal journal shape limit stands)
      (failures_none shard.first.faults shard.rack.faults rack.faults shard.told [] refl rise keeps.kept.failures)
      rise (is_store changed shape limit sound stands)
      (ap (λ (s : State). length s.done) same ∙ keeps.callers)

  -- the rack failed on the way, and any of the stages may stand
  pub keeps_cut : (one : Told) (told : List Told) (state : State) (stages : List StoredBook) (spare : ℕ)
      → told ≡ shard.told ++ one ∷ [] → Step tells suite shard.terms one shard.state state
      → state.journal ≡ cut_off stages → length state.done ≡ shard.terms.callers → was_disk one.entry ≡ true
      → Rose shard.rack.faults rack.faults
      → (tells → Contains (as_read stages) (book_in rack.areas shard.terms.shape shard.terms.limit))
      → (tells → OpensToOneOf shard.terms.shape shard.terms.limit (as_read stages) rack.areas)
      → Keeps tells suite (record shard { rack = rack; told = told; state = state; spare = spare }) None
  keeps_cut one told state stages spare told_is step journal callers disk rose reads covers =
      keeps_told tells suite shard rack (one ∷ []) told state store None spare keeps told_is
      (one_step tells suite shard.terms shard.state state one step)
      (subst (λ (j : Journal). Gives tells (IsCharted (record shard { told = shard.told ++ one ∷ [] })) shard.terms j rack.areas) (sym journal)
      (record { reads = reads; covers = λ t known. covers t }))
      (failures_one shard.first.faults shard.rack.faults rack.faults shard.told (one ∷ []) (one_failed one disk) rose keeps.kept.failures)
      (omega (arith, rose))
      (λ other is. absurd (cc))
      callers

-- ---- what is told of a change

sound_store : (store : Option StoreState) (books : List (Result StoredBook Objection)) → (journal_now store books).is_sound ≡ true
    → (one : StoreState) × (store ≡ Some one)
sound_store None books sound = absurd (cc)
sound_store (Some store) books sound = (store, refl)

pub journal_sound : (store : Option StoreState) (books : List (Result StoredBook Objection)) (one : StoreState) → store ≡ Some one
    → journal_now store books ≡ sound_with one.book
journal_sound store books one is = ap (λ (s : Option StoreState). journal_now s books) is

-- a retirement, as the store's own rule says it
pub rotates_of : (tells : Type 0) (suite : SuiteMeaning) (terms : Terms) (caller moment : ℕ) (one : Told) (old new : State) (store : StoreState) (floor : ℕ)
    (result : Result (Unit {0}) RetireFault) (journal : Journal)
    → one.entry ≡ entries.Rotate caller moment (retire_answer result)
    → old.journal ≡ sound_with store.book → store.limit ≡ terms.limit → floor ≡ least_live terms.setup.times moment
    → journal ≡ new.journal → Retires store.limit floor store.book result journal → new.held ≡ old.held → new.done ≡ old.done
    → Step tells suite terms one old new
rotates_of tells suite terms caller moment one old new store floor result journal entry_is sound limit floor_is journal_is retires held done =
    subst (λ (e : Entry). Says tells suite terms one e old new) (sym entry_is) (inl (record {
      book = store.book;
      sound = sound;
      result = result;
      answer_is = refl;
      retires = subst (λ (l : ℕ). Retires l (least_live terms.setup.times moment) store.book result new.journal) limit
          (subst (λ (f : ℕ). Retires store.limit f store.book result new.journal) floor_is
          (subst (λ (j : Journal). Retires store.limit floor store.book result j) journal_is retires));
      held = held;
      done = done;
    }))

-- a claim, likewise
pub claims_of : (tells : Type 0) (suite : SuiteMeaning) (terms : Terms) (caller : ℕ) (item : Item) (one : Told) (old new : State) (store : StoreState) (epoch : ℕ) (tag : List ℕ) (least : ℕ)
    (result : Result (Unit {0}) ClaimFault) (journal : Journal)
    → one.entry ≡ entries.Claim caller item.number item.epoch item.tag item.at (claim_answer result) → packet_of one ≡ Some item.packet
    → IsActive caller old → IsHeld suite item → item.setup ≡ terms.setup
    → old.journal ≡ sound_with store.book → store.limit ≡ terms.limit → epoch ≡ item.epoch → tag ≡ item.tag → least ≡ least_live item.setup.times item.at
    → journal ≡ new.journal → Claims store.limit epoch tag least store.book result journal → HeldAfter result item old.held new.held → new.done ≡ old.done
    → Step tells suite terms one old new
claims_of tells suite terms caller item one old new store epoch tag least result journal entry_is packet active is_held setup sound limit epoch_is tag_is least_is journal_is claims held done =
    let times_is : least ≡ least_live terms.setup.times item.at = least_is ∙ ap (λ (s : Setup). least_live s.times item.at) setup in
    subst (λ (e : Entry). Says tells suite terms one e old new) (sym entry_is) (
      active,
      item,
      record { is_held = is_held; setup = setup; number_is = refl; epoch_is = refl; tag_is = refl; at_is = refl; packet = packet },
      inl (record {
        book = store.book;
        sound = sound;
        result = result;
        answer_is = refl;
        claims = subst (λ (l : ℕ). Claims l item.epoch item.tag (least_live terms.setup.times item.at) store.book result new.journal) limit
            (subst (λ (f : ℕ). Claims store.limit item.epoch item.tag f store.book result new.journal) times_is
            (subst (λ (t : List ℕ). Claims store.limit item.epoch t least store.book result new.journal) tag_is
            (subst (λ (e : ℕ). Claims store.limit e tag least store.book result new.journal) epoch_is
            (subst (λ (j : Journal). Claims store.limit epoch tag least store.book result j) journal_is claims))));
        held = held;
        done = done;
      }),
    )

-- ---- at each moment

-- where a call begins, its rack's room doesn't count
pub moments_from : (P : Areas → Type 0) (old mid new : RackState) → mid.past ≡ old.past → AtEachMoment P mid new → AtEachMoment P old new
moments_from P old mid new same moments = record {
  passed = moments.passed;
  grew = moments.grew ∙ ap (λ (past : List Areas). past ++ moments.passed) same;
  each = moments.each;
  now = moments.now;
}

-- of a change of a store's book
pub moments_changed : (terms : Terms) (stages : StoredBook → List StoredBook) (journal : Journal) (store : StoreState) (old mid new : RackState)
    → journal ≡ sound_with store.book → store.shape ≡ terms.shape → store.limit ≡ terms.limit → mid.past ≡ old.past
    → AtEachMoment (OpensToOneOf store.shape store.limit (as_read (stages store.book))) mid new
    → AtEachMoment (OpensToOneOf terms.shape terms.limit (on_the_way terms.shape stages journal)) old new
moments_changed terms stages journal store old mid new sound shape limit past moments =
    subst (λ (j : Journal). AtEachMoment (OpensToOneOf terms.shape terms.limit (on_the_way terms.shape stages j)) old new) (sym sound)
    (moments_changing terms stages (sound_with store.book) store.book old new (sound_there terms.shape store.book)
    (subst (λ (s : Shape). AtEachMoment (OpensToOneOf s terms.limit (as_read (stages store.book))) old new) shape
    (subst (λ (l : ℕ). AtEachMoment (OpensToOneOf store.shape l (as_read (stages store.book))) old new) limit
    (moments_from (OpensToOneOf store.shape store.limit (as_read (stages store.book))) old mid new past moments))))

-- of a store that stands, where nothing was written
pub moments_still : (terms : Terms) (stages : StoredBook → List StoredBook) (journal : Journal) (store : StoreState) (old new : RackState)
    → journal ≡ sound_with store.book → store.shape ≡ terms.shape → store.limit ≡ terms.limit → new.past ≡ old.past → new.areas ≡ old.areas
    → Stands store old.areas
    → AtEachMoment (OpensToOneOf terms.shape terms.limit (on_the_way terms.shape stages journal)) old new
moments_still terms stages journal store old new sound shape limit past areas stands =
    same_moment (OpensToOneOf terms.shape terms.limit (on_the_way terms.shape stages journal)) old old new
    (started (OpensToOneOf terms.shape terms.limit (on_the_way terms.shape stages journal)) old
    (subst (λ (j : Journal). OpensToOneOf terms.shape terms.limit (on_the_way terms.shape stages j) old.areas) (sym sound)
    (λ left. on_the_way-opened terms.shape stages (sound_with store.book) (opened terms.shape terms.limit old.areas left)
    (unopened-old terms.shape (sound_with store.book) (opened terms.shape terms.limit old.areas left)
    (subst (λ (s : Shape). OpensToOneOf s terms.limit (as_read (store.book ∷ [])) old.areas) shape
    (subst (λ (l : ℕ). OpensToOneOf store.shape l (as_read (store.book ∷ [])) old.areas) limit (standing store old.areas stands)) left)))))
    areas past

-- the same where no store is at hand: a sound journal has one
pub moments_waiting : (tells : Type 0) (suite : SuiteMeaning) (shard : ShardState) (store : Option StoreState) (books : List (Result StoredBook Objection)) (stages : StoredBook → List StoredBook) (new : RackState)
    → Keeps tells suite shard store → shard.state.journal ≡ journal_now store books → shard.state.journal.is_sound ≡ true
    → new.past ≡ shard.rack.past → new.areas ≡ shard.rack.areas → (t : tells)
    → AtEachMoment (OpensToOneOf shard.terms.shape shard.terms.limit (on_the_way shard.terms.shape stages shard.state.journal)) shard.rack new
moments_waiting tells suite shard store books stages new keeps journal sound past areas t =
    let some = sound_store store books (subst (λ (j : Journal). j.is_sound ≡ true) journal sound) in
    let of = keeps.store_is some.0 some.1 in
    moments_still shard.terms stages shard.state.journal some.0 shard.rack new (journal ∙ journal_sound store books some.0 some.1) of.shape of.limit past areas (of.stands t)

-- ---- want of memory is no answer

pub wanting_rotation : (caller moment : ℕ) (result : Result (Unit {0}) RotateFault) → IsErrAnd result (λ fault. fault ≡ rotate.Memory)
    → IsRotateEntry caller moment (rotate_answer result) []
wanting_rotation caller moment (Ok done) wanting = absurd wanting
wanting_rotation caller moment (Err fault) same =
    subst (λ (f : RotateFault). IsRotateEntry caller moment (rotate_answer (Err f)) []) (sym same) refl

pub wanting_claim : (caller : ℕ) (item : Item) (result : Result (Unit {0}) Denied) → IsErrAnd result (λ fault. fault ≡ denied.Memory)
    → IsClaimEntry caller item (admit_answer result) []
wanting_claim caller item (Ok done) wanting = absurd wanting
wanting_claim caller item (Err fault) same =
    subst (λ (f : Denied). IsClaimEntry caller item (admit_answer (Err f)) []) (sym same) refl

-- the stages of a claim, with the item's own epoch, tag and least epoch
pub stages_as : (old new : RackState) (terms : Terms) (journal : Journal) (epoch epoch' : ℕ) (tag tag' : List ℕ) (least least' : ℕ)
    → epoch ≡ epoch' → tag ≡ tag' → least ≡ least'
    → AtEachMoment (OpensToOneOf terms.shape terms.limit (on_the_way terms.shape (claim_stages epoch (tag ∷ []) least) journal)) old new
    → AtEachMoment (OpensToOneOf terms.shape terms.limit (on_the_way terms.shape (claim_stages epoch' (tag' ∷ []) least') journal)) old new
stages_as old new terms journal epoch epoch' tag tag' least least' epochs tags leasts moments =
    subst (λ (l : ℕ). AtEachMoment (OpensToOneOf terms.shape terms.limit (on_the_way terms.shape (claim_stages epoch' (tag' ∷ []) l) journal)) old new) leasts
    (subst (λ (t : List ℕ). AtEachMoment (OpensToOneOf terms.shape terms.limit (on_the_way terms.shape (claim_stages epoch' (t ∷ []) least) journal)) old new) tags
    (subst (λ (e : ℕ). AtEachMoment (OpensToOneOf terms.shape terms.limit (on_the_way terms.shape (claim_stages e (tag ∷ []) least) journal)) old new) epochs moments))
