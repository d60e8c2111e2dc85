-- The tale: what each entry says was done to the shard, and how the entries lead from a state to another.
use Rattle.std.specs.Prelude.{◌≡◌, ◌≢◌, ◌⊎◌, ⊤, ℕ, zero, suc, Bool, true, false, List, [], ◌∷◌, ◌++◌, Contains, Some, Result, Ok, Err, replicate, slice_get, slice_set, IsPermutation}
use Rattle.mix_base.specs.Suites.{SuiteMeaning}
use Rattle.mix_base.specs.declared.shards.Shape.{Shape}
use Rattle.due_queue.specs.Queues.{IsFirstDue}
use Rattle.due_queue.specs.declared.destinations.Dest.{Dest}
use Rattle.epoch_keys.specs.Epochs.{least_live}
use Rattle.replay_disk.specs.Disk.{Areas}
use Rattle.spent_store.specs.Books.{StoredBook, spent}
use Rattle.spent_store.specs.Journals as journals
use Rattle.spent_store.specs.Journals.{Opened, OpensOne, Claims, Retires, sound_with, unsound_with, unopened}
use Rattle.spent_store.specs.Stores.{book_in}
use Rattle.spent_store.specs.declared.faults.ClaimFault.{ClaimFault}
use Rattle.spent_store.specs.declared.faults.RetireFault.{RetireFault}
use Rattle.spent_store.specs.declared.faults.Objection.{Objection}
use Rattle.mix_shard.specs.Entries.{claim_answer, retire_answer, packet_of}
use Rattle.mix_shard.specs.Items.{Item, IsHeld, whens}
use Rattle.mix_shard.specs.declared.entries.Answer.{Answer}
use Rattle.mix_shard.specs.declared.entries.Answer.TheVariants.{Taken, Retired, Spent, ShardFull, RootFull, Disk, Journal}
use Rattle.mix_shard.specs.declared.entries.Entry.{Entry}
use Rattle.mix_shard.specs.declared.entries.Entry.TheVariants.{Claim, Take, Rotate, Done, Reopened}
use Rattle.mix_shard.specs.declared.entries.Told.{Told}
use Rattle.mix_shard.specs.declared.terms.Terms.{Terms}

-- a shard between two calls: its journal, the items that it holds, in no order that counts, and for each caller whether it
-- is done
pub record State : Type 0 where
  pub journal : journals.Journal
  pub held : List Item
  pub done : List Bool

-- nothing was done yet: the journal is unsound, with the one book of what the areas hold
abbrev pub began : Terms → Areas → State
began terms areas = record {
  journal = unsound_with (book_in areas terms.shape terms.limit ∷ []);
  held = [];
  done = replicate terms.callers false;
}

-- a caller that may still act
abbrev pub IsActive : ℕ → State → Type 0
IsActive caller state = slice_get state.done caller ≡ Some false

-- ---- what each entry says

-- an opening of an unsound journal: of its books one was taken, where the disk tells, and has this floor and so many
-- different spent pairs
pub record Reopens (tells : Type 0) (terms : Terms) (floor pairs : ℕ) (old new : State) : Type 0 where
  pub book : StoredBook
  pub unsound : old.journal.is_sound ≡ false
  pub opens : tells → OpensOne terms.shape old.journal Opened (sound_with book)
  pub floor_is : floor ≡ book.floor
  pub spent_is : pairs ≡ spent book
  pub new_is : new ≡ record old { journal = sound_with book }

-- why an unsound journal wasn't opened: the disk failed, or one of its books is none, where the disk tells
abbrev pub Hinders : Type 0 → Answer → List (Result StoredBook Objection) → Type 0
Hinders tells Disk books = ⊤
Hinders tells Journal books = tells → (objection : Objection) × Contains books (Err objection)
Hinders tells Taken books = ⊥
Hinders tells (Retired floor) books = ⊥
Hinders tells Spent books = ⊥
Hinders tells ShardFull books = ⊥
Hinders tells RootFull books = ⊥

-- an unsound journal that wasn't opened: a failed opening may have made the root of its books
pub record StaysUnsound (tells : Type 0) (terms : Terms) (answer : Answer) (old new : State) : Type 0 where
  pub unsound : old.journal.is_sound ≡ false
  pub why : Hinders tells answer old.journal.books
  pub new_is : new ≡ record old { journal = unopened terms.shape old.journal }

-- the item that a claim is of: what its packet, which stands beside the entry, is under the keys live at its receipt
pub record IsItemOf (suite : SuiteMeaning) (terms : Terms) (number epoch : ℕ) (tag : List ℕ) (at : ℕ) (told : Told) (item : Item) : Type 0 where
  pub is_held : IsHeld suite item
  pub setup : item.setup ≡ terms.setup
  pub number_is : item.number ≡ number
  pub epoch_is : item.epoch ≡ epoch
  pub tag_is : item.tag ≡ tag
  pub at_is : item.at ≡ at
  pub packet : packet_of told ≡ Some item.packet

-- the items that are held after a claim: an accepted one is held
abbrev pub HeldAfter : Result (Unit {0}) ClaimFault → Item → List Item → List Item → Type 0
HeldAfter (Ok _) item old new = IsPermutation (old ++ item ∷ []) new
HeldAfter (Err fault) item old new = new ≡ old

-- a claim on a sound journal
pub record ClaimsItem (terms : Terms) (item : Item) (answer : Answer) (old new : State) : Type 0 where
  pub book : StoredBook
  pub sound : old.journal ≡ sound_with book
  pub result : Result (Unit {0}) ClaimFault
  pub answer_is : answer ≡ claim_answer result
  pub claims : Claims terms.limit item.epoch item.tag (least_live terms.setup.times item.at) book result new.journal
  pub held : HeldAfter result item old.held new.held
  pub done : new.done ≡ old.done

-- a taking: of the items for the destination that are due at the moment, the first, which has this number, leaves
pub record Takes (number : ℕ) (dest : Dest) (moment : ℕ) (old new : State) : Type 0 where
  pub item : Item
  pub number_is : item.number ≡ number
  pub first : IsFirstDue whens (Some dest) moment old.held item
  pub rest : IsPermutation old.held (item ∷ new.held)
  pub journal : new.journal ≡ old.journal
  pub done : new.done ≡ old.done

-- a retirement of a sound journal
pub record Rotates (terms : Terms) (moment : ℕ) (answer : Answer) (old new : State) : Type 0 where
  pub book : StoredBook
  pub sound : old.journal ≡ sound_with book
  pub result : Result (Unit {0}) RetireFault
  pub answer_is : answer ≡ retire_answer result
  pub retires : Retires terms.limit (least_live terms.setup.times moment) book result new.journal
  pub held : new.held ≡ old.held
  pub done : new.done ≡ old.done

-- what an entry says was done
abbrev pub Says : Type 0 → SuiteMeaning → Terms → Told → Entry → State → State → Type 0
Says tells suite terms told (Claim caller number epoch tag at answer) old new =
    IsActive caller old × (item : Item) × IsItemOf suite terms number epoch tag at told item
    × (ClaimsItem terms item answer old new ⊎ StaysUnsound tells terms answer old new)
Says tells suite terms told (Take caller number dest moment) old new = Takes number dest moment old new
Says tells suite terms told (Rotate caller moment answer) old new =
    Rotates terms moment answer old new ⊎ StaysUnsound tells terms answer old new
Says tells suite terms told (Done caller) old new = IsActive caller old × (new ≡ record old { done = slice_set old.done caller true })
Says tells suite terms told (Reopened caller floor pairs) old new = Reopens tells terms floor pairs old new

-- one entry
abbrev pub Step : Type 0 → SuiteMeaning → Terms → Told → State → State → Type 0
Step tells suite terms told old new = Says tells suite terms told told.entry old new

-- entries one after the other, and nothing between them
abbrev pub Steps : Type 0 → SuiteMeaning → Terms → State → List Told → State → Type 0
Steps tells suite terms old [] new = new ≡ old
Steps tells suite terms old (told ∷ others) new =
    (between : State) × Step tells suite terms told old between × Steps tells suite terms between others new

-- ---- openings that no entry tells of

-- the journal after so many openings that failed
abbrev pub unopened_by : Shape → ℕ → journals.Journal → journals.Journal
unopened_by shape zero journal = journal
unopened_by shape (suc times) journal = unopened shape (unopened_by shape times journal)

-- an unsound journal may have been tried some times by calls that were refused; nothing else changed
pub record Unheard (shape : Shape) (old new : State) : Type 0 where
  pub times : ℕ
  pub only : times ≢ 0 → old.journal.is_sound ≡ false
  pub new_is : new ≡ record old { journal = unopened_by shape times old.journal }

-- ---- the tale: the entries take the shard from old to new

abbrev pub Tale : Type 0 → SuiteMeaning → Terms → State → List Told → State → Type 0
Tale tells suite terms old [] new = Unheard terms.shape old new
Tale tells suite terms old (told ∷ others) new =
    (before : State) × (after : State) × Unheard terms.shape old before × Step tells suite terms told before after
    × Tale tells suite terms after others new
