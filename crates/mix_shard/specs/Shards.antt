-- What contracts see of a shard, what its calls add to its tale, and what holds of it at all times.
use Rattle.std.specs.Prelude.{◌≡◌, ◌⊎◌, ℕ, ◌+◌, ◌-◌, ◌*◌, ◌^◌, ◌<◌, ◌≤◌, ◌%◌, min, true, false, List, [], ◌∷◌, ◌++◌, Contains, Option, Some, None, Result, Ok, Err, count_by, slice_get, if◌then◌else◌}
use Rattle.std.specs.List.{flat_map}
use Rattle.std.specs.Result.{result_err}
use Rattle.mix_base.specs.Suites.{SuiteMeaning}
use Rattle.mix_base.specs.declared.shards.Shape.{Shape}
use Rattle.replay_disk.specs.Disk.{AreAtRest, armed_at, IsCrashed, Owes, RackState}
use Rattle.epoch_keys.specs.Epochs.{least_live}
use Rattle.gate_log.specs.Log.{most_reads}
use Rattle.replay_disk.specs.Moments.{AtEachMoment, PassesOne}
use Rattle.spent_store.specs.Faults.{Refuses}
use Rattle.mix_shard.specs.Faults.{ObjectsAmong}
use Rattle.spent_store.specs.Books.{StoredBook}
use Rattle.spent_store.specs.Changes.{claim_stages, retirement_stages}
use Rattle.spent_store.specs.Journals.{Journal, sound_with, unopened}
use Rattle.spent_store.specs.Seen.{summary}
use Rattle.spent_store.specs.Stores.{OpensToOneOf, as_read, book_in}
use Rattle.spent_store.specs.declared.faults.Objection.{Objection}
use Rattle.spent_store.specs.declared.faults.OpenStore.{OpenStore}
use Rattle.spent_store.specs.declared.faults.OpenStore.TheVariants as open_store
use Rattle.spent_store.specs.declared.summary.Book.{Book}
use Rattle.mix_shard.specs.Entries.{has_opened, packet_of, was_disk}
use Rattle.mix_shard.specs.Items.{Item}
use Rattle.mix_shard.specs.Tale.{State, Steps, Tale, began}
use Rattle.mix_shard.specs.declared.entries.Answer.{Answer}
use Rattle.mix_shard.specs.declared.entries.Entry.{Entry}
use Rattle.mix_shard.specs.declared.entries.Entry.TheVariants as entry
use Rattle.mix_shard.specs.declared.entries.Told.{Told}
use Rattle.mix_shard.specs.declared.setup.Setup.{Setup}
use Rattle.mix_shard.specs.declared.terms.Terms.{Terms}

-- a shard: what doesn't change while it lives; its rack now, and as it was when the tale began; the rack's faults when the
-- shard was made; the tale and the state that it led to; and how many entries there is room for beside those that what is
-- held and who isn't done will need
pub record ShardState : Type 0 where
  pub terms : Terms
  pub rack : RackState
  pub first : RackState
  pub faults : ℕ
  pub told : List Told
  pub state : State
  pub spare : ℕ

-- which shard, its setup, its limit and its callers together
abbrev pub terms_of : Shape → Setup → ℕ → ℕ → Terms
terms_of shape setup limit callers = record { shape = shape; setup = setup; limit = limit; callers = callers }

-- a shard of a rack to which nothing was done yet
abbrev pub new_shard : Terms → RackState → ℕ → ShardState
new_shard terms rack spare = record {
  terms = terms;
  rack = rack;
  first = rack;
  faults = rack.faults;
  told = [];
  state = began terms rack.areas;
  spare = spare;
}

-- the floor of a sound journal's book, and 0 of an unsound one
abbrev floor_of_first : List (Result StoredBook Objection) → ℕ
floor_of_first [] = 0
floor_of_first (Ok book ∷ books) = book.floor
floor_of_first (Err objection ∷ books) = 0

abbrev pub floor_of : Journal → ℕ
floor_of journal = if journal.is_sound then floor_of_first journal.books else 0

-- every caller that may claim is done, those of even numbers, and nothing is held
pub record IsDrained (shard : ShardState) : Type 0 where
  pub done : (caller : ℕ) → caller < shard.terms.callers → caller % 2 ≡ 0 → slice_get shard.state.done caller ≡ Some true
  pub empty : shard.state.held ≡ []

-- ---- what a call leaves as it was

-- the tale began as it did
pub record BeganAlike (old new : ShardState) : Type 0 where
  pub terms : new.terms ≡ old.terms
  pub first : new.first ≡ old.first
  pub faults : new.faults ≡ old.faults

-- nothing was told, and nothing changed but the rack
pub record SameButRack (old new : ShardState) : Type 0 where
  pub began : BeganAlike old new
  pub told : new.told ≡ old.told
  pub state : new.state ≡ old.state

-- nothing was told, and an opening of an unsound journal failed
pub record Unopened (old new : ShardState) : Type 0 where
  pub began : BeganAlike old new
  pub told : new.told ≡ old.told
  pub unsound : old.state.journal.is_sound ≡ false
  pub state : new.state ≡ record old.state { journal = unopened old.terms.shape old.state.journal }

-- ---- what a call adds to the tale

-- nothing, or that this caller opened the journal
abbrev pub IsOpeningBy : ℕ → List Told → Type 0
IsOpeningBy caller opening =
    (opening ≡ []) ⊎ ((told : Told) × (floor : ℕ) × (pairs : ℕ) × (opening ≡ told ∷ []) × (told.entry ≡ entry.Reopened caller floor pairs))

-- the entry of a claim, with the packet beside it; none where there is no answer
abbrev pub IsClaimEntry : ℕ → Item → Option Answer → List Told → Type 0
IsClaimEntry caller item None own = own ≡ []
IsClaimEntry caller item (Some answer) own =
    (told : Told) × (own ≡ told ∷ []) × (told.entry ≡ entry.Claim caller item.number item.epoch item.tag item.at answer)
    × (packet_of told ≡ Some item.packet)

-- the entry of a rotation; none where there is no answer
abbrev pub IsRotateEntry : ℕ → ℕ → Option Answer → List Told → Type 0
IsRotateEntry caller moment None own = own ≡ []
IsRotateEntry caller moment (Some answer) own = (told : Told) × (own ≡ told ∷ []) × (told.entry ≡ entry.Rotate caller moment answer)

-- one entry
abbrev pub IsEntry : Entry → List Told → Type 0
IsEntry one own = (told : Told) × (own ≡ told ∷ []) × (told.entry ≡ one)

-- what a call added: that it opened the journal, where it did, and its own entry; and these took the shard from its state
-- before to that after
pub record Adds (tells : Type 0) (suite : SuiteMeaning) (caller : ℕ) (Own : List Told → Type 0) (old new : ShardState) : Type 0 where
  pub began : BeganAlike old new
  pub opening : List Told
  pub by_caller : IsOpeningBy caller opening
  pub own : List Told
  pub own_is : Own own
  pub told : new.told ≡ old.told ++ (opening ++ own)
  pub steps : Steps tells suite old.terms old.state (opening ++ own) new.state

-- the journal is ready with this book: it was opened, or was sound before, and nothing else was told
pub record IsReady (tells : Type 0) (suite : SuiteMeaning) (caller : ℕ) (book : Book) (old new : ShardState) : Type 0 where
  pub adds : Adds tells suite caller (λ own. own ≡ []) old new
  pub stored : StoredBook
  pub sound : new.state.journal ≡ sound_with stored
  pub summed : book ≡ summary stored

-- the journal isn't made ready: want of memory changes nothing, and a refusal or a failure is an opening that failed
abbrev pub RefusesOpening : OpenStore → ShardState → ShardState → Type 0
RefusesOpening open_store.Memory old new = SameButRack old new
RefusesOpening open_store.Failed old new = Unopened old new
RefusesOpening (open_store.Foreign area at) old new = Unopened old new
RefusesOpening (open_store.OtherShape stored) old new = Unopened old new

-- ---- what holds of a shard at all times

-- what a crash may leave is known: the rack was at rest when the tale began, or the journal was opened since
abbrev pub IsCharted : ShardState → Type 0
IsCharted shard = AreAtRest shard.first.areas ⊎ (has_opened shard.told ≡ true)

-- the tale leads to the state; what a read of the rack gives opens to one of the journal's books, and so does whatever a
-- crash may leave; and for each answer that the disk failed, it did
pub record IsKept (tells : Type 0) (suite : SuiteMeaning) (shard : ShardState) : Type 0 where
  pub tale : Tale tells suite shard.terms (began shard.terms shard.first.areas) shard.told shard.state
  pub reads : tells → Contains shard.state.journal.books (book_in shard.rack.areas shard.terms.shape shard.terms.limit)
  pub covers : tells → IsCharted shard → OpensToOneOf shard.terms.shape shard.terms.limit shard.state.journal.books shard.rack.areas
  pub failures : min (shard.first.faults + count_by (λ told. was_disk told.entry) shard.told) (2 ^ 64 - 1) ≤ shard.rack.faults
  pub no_fewer : shard.first.faults ≤ shard.rack.faults
  pub since_made : shard.faults ≤ shard.first.faults

-- ---- the books on the way of a call

-- the stages of a change of a book
abbrev pub stages_of : (StoredBook → List StoredBook) → Result StoredBook Objection → List (Result StoredBook Objection)
stages_of stages (Ok book) = as_read (stages book)
stages_of stages (Err objection) = []

-- the books that the journal's rule allows before, during and after an opening and a change: those before, with their roots
-- made or not, and the stages of the change of each
abbrev pub on_the_way : Shape → (StoredBook → List StoredBook) → Journal → List (Result StoredBook Objection)
on_the_way shape stages journal = (unopened shape journal).books ++ flat_map (stages_of stages) (unopened shape journal).books

-- those of an opening, and of an opening and a change
abbrev pub through_opening : ShardState → List (Result StoredBook Objection)
through_opening shard = (unopened shard.terms.shape shard.state.journal).books

abbrev pub through_change : (StoredBook → List StoredBook) → ShardState → List (Result StoredBook Objection)
through_change stages shard = on_the_way shard.terms.shape stages shard.state.journal

-- the stages of a claim of an item, and of a rotation at a moment
abbrev pub stages_of_claim : ShardState → Item → StoredBook → List StoredBook
stages_of_claim shard item = claim_stages item.epoch (item.tag ∷ []) (least_live shard.terms.setup.times item.at)

abbrev pub stages_of_rotation : ShardState → ℕ → StoredBook → List StoredBook
stages_of_rotation shard moment = retirement_stages (least_live shard.terms.setup.times moment)

-- the books that an opening and such a change may leave
abbrev pub through_claim : ShardState → Item → List (Result StoredBook Objection)
through_claim shard item = through_change (stages_of_claim shard item) shard

abbrev pub through_rotation : ShardState → ℕ → List (Result StoredBook Objection)
through_rotation shard moment = through_change (stages_of_rotation shard moment) shard

-- at every moment of a call, whatever a crash leaves opens to one of these books
abbrev pub OpensThroughout : List (Result StoredBook Objection) → ShardState → ShardState → Type 0
OpensThroughout books old new = AtEachMoment (OpensToOneOf old.terms.shape old.terms.limit books) old.rack new.rack

-- ---- what a call owes for its rack

-- how many calls of the rack an opening makes at most
abbrev pub opening_calls : ShardState → ℕ
opening_calls shard = 3 * most_reads shard.terms.limit + 14

-- the rack's count rose where the answer is that the disk failed, and else not; so many calls at most
abbrev pub OwesFor : ℕ → Type 0 → ShardState → ShardState → Type 0
OwesFor most failed old new = Owes most failed old.rack new.rack

-- an opening objects to what the rack holds, and to one of the journal's books
abbrev pub ObjectsToRack : ShardState → OpenStore → Type 0
ObjectsToRack shard fault = Refuses fault (result_err (book_in shard.rack.areas shard.terms.shape shard.terms.limit))

abbrev pub ObjectsToBook : ShardState → OpenStore → Type 0
ObjectsToBook shard fault = ObjectsAmong shard.state.journal.books fault

-- ---- a crash

-- the book of what a rack holds
abbrev pub rack_book : Terms → RackState → Result StoredBook Objection
rack_book terms rack = book_in rack.areas terms.shape terms.limit

-- a rack armed at the call of a number
abbrev pub armed_with : ℕ → RackState → RackState
armed_with calls rack = record rack { left = armed_at calls rack.left; arms = rack.arms ++ calls ∷ [] }

-- a shard whose tale begins anew with this rack
abbrev pub anew : ShardState → RackState → ℕ → ShardState
anew shard rack spare = record (new_shard shard.terms rack spare) { faults = shard.faults }

-- what a crash of a rack leaves: each area has one of its images as contents, it isn't armed any more, and the pick is noted
pub record IsCrash (tells : Type 0) (pick : ℕ) (old new : RackState) : Type 0 where
  pub image : tells → IsCrashed old.areas new.areas
  pub moment : tells → PassesOne old new
  pub faults : new.faults ≡ old.faults
  pub calls : new.calls ≡ old.calls
  pub left : new.left ≡ None
  pub arms : new.arms ≡ old.arms
  pub crashes : new.crashes ≡ old.crashes ++ pick ∷ []
