-- Words of private functions alone: how a shard keeps its journal's books without storing them, and what its type keeps.
use Rattle.std.specs.Prelude.{◌≡◌, ⊤, ℕ, ◌+◌, ◌%◌, ◌^◌, ◌≤◌, Bool, true, false, not, ◌-◌, List, [], ◌∷◌, ◌++◌, length, map, fold, Option, Some, None, Result, count_by}
use Rattle.std.specs.Option.{ForSome}
use Rattle.mix_base.specs.Shards.{IsShape}
use Rattle.mix_base.specs.Suites.{SuiteMeaning}
use Rattle.mix_base.specs.declared.shards.Shape.{Shape}
use Rattle.replay_disk.specs.Disk.{Areas, RackState}
use Rattle.spent_store.specs.Books.{StoredBook}
use Rattle.spent_store.specs.Changes.{claim_stages, retirement_stages, made_where_read}
use Rattle.spent_store.specs.Journals.{Journal, sound_with, unsound_with, unopened}
use Rattle.spent_store.specs.Stores.{StoreState, Stands, as_read, book_in}
use Rattle.spent_store.specs.declared.faults.Objection.{Objection}
use Rattle.spent_store.specs.declared.summary.Book.{Book}
use Rattle.mix_shard.specs.Entries.{with_answer}
use Rattle.mix_shard.specs.Faults.{admit_answer, rotate_answer}
use Rattle.mix_shard.specs.Items.{Item}
use Rattle.mix_shard.specs.Shards.{Adds, BeganAlike, IsClaimEntry, IsKept, IsRotateEntry, SameButRack, ShardState}
use Rattle.mix_shard.specs.Tale.{IsActive, IsItemOf, State, Steps}
use Rattle.mix_shard.specs.declared.entries.Answer.{Answer}
use Rattle.mix_shard.specs.declared.entries.Entry.{Entry}
use Rattle.mix_shard.specs.declared.entries.Entry.TheVariants.{Claim, Take, Rotate, Done, Reopened}
use Rattle.mix_shard.specs.declared.entries.Told.{Told}
use Rattle.mix_shard.specs.declared.causes.Cause.{Cause}
use Rattle.mix_shard.specs.declared.causes.Cause.TheVariants.{Unopened, CutClaim, CutRetirement}
use Rattle.mix_shard.specs.declared.faults.Denied.{Denied}
use Rattle.mix_shard.specs.declared.faults.RotateFault.{RotateFault}
use Rattle.mix_shard.specs.declared.terms.Terms.{Terms}

-- the books that an unsound journal's rack may open to, after one cause more
abbrev pub books_after : Shape → List (Result StoredBook Objection) → Cause → List (Result StoredBook Objection)
books_after shape books Unopened = books ++ map (made_where_read shape) books
books_after shape books (CutClaim store epoch tag least) = as_read (claim_stages epoch (tag ∷ []) least store.value.book)
books_after shape books (CutRetirement store floor) = as_read (retirement_stages floor store.value.book)

-- after all of them, from the book of what the areas held at first
abbrev pub books_of : Terms → Areas → List Cause → List (Result StoredBook Objection)
books_of terms first causes = fold (books_after terms.shape) (book_in first terms.shape terms.limit ∷ []) causes

-- the journal: sound where there is a store
abbrev pub journal_now : Option StoreState → List (Result StoredBook Objection) → Journal
journal_now None books = unsound_with books
journal_now (Some store) books = sound_with store.book

-- how many entries what is held and who isn't done will need
abbrev pub owed : State → ℕ
owed state = length state.held + count_by not state.done

-- the state of these parts
abbrev pub state_of : Terms → Areas → Option StoreState → List Cause → List Item → List Bool → State
state_of terms first store causes held done = record { journal = journal_now store (books_of terms first causes); held = held; done = done }

-- a shard of these parts, with room for so many entries
abbrev pub shard_of : Terms → RackState → RackState → ℕ → List Told → Option StoreState → List Cause → List Item → List Bool → ℕ → ShardState
shard_of terms rack first faults told store causes held done room =
    let state = state_of terms first.areas store causes held done in
    record { terms = terms; rack = rack; first = first; faults = faults; told = told; state = state; spare = room - owed state }

-- each caller of an even number is done, where the first has this number
abbrev pub AreEvenDone : ℕ → List Bool → Type 0
AreEvenDone first [] = ⊤
AreEvenDone first (is_done ∷ others) = (first % 2 ≡ 0 → is_done ≡ true) × AreEvenDone (first + 1) others

-- the store of a shard
pub record IsStoreOf (tells : Type 0) (shard : ShardState) (store : StoreState) : Type 0 where
  pub shape : store.shape ≡ shard.terms.shape
  pub limit : store.limit ≡ shard.terms.limit
  pub sound : store.is_sound ≡ true
  pub stands : tells → Stands store shard.rack.areas

-- what a store may be asked for
pub record IsAsked (terms : Terms) : Type 0 where
  pub shape : IsShape terms.shape
  pub some : 2 ≤ terms.limit
  pub most : terms.limit ≤ 2 ^ 26

-- what a shard's type keeps
pub record Keeps (tells : Type 0) (suite : SuiteMeaning) (shard : ShardState) (store : Option StoreState) : Type 0 where
  pub asked : IsAsked shard.terms
  pub kept : IsKept tells suite shard
  pub store_is : ForSome store (IsStoreOf tells shard)
  pub callers : length shard.state.done ≡ shard.terms.callers

-- ---- an opening on the way of a call

-- the call that asked for an opening has an entry, which says the truth where the journal isn't opened
abbrev pub Asked : SuiteMeaning → Terms → Told → Entry → State → Type 0
Asked suite terms told (Claim caller number epoch tag at answer) state =
    IsActive caller state × (item : Item) × IsItemOf suite terms number epoch tag at told item
Asked suite terms told (Rotate caller moment answer) state = ⊤
Asked suite terms told (Take caller number dest moment) state = ⊥
Asked suite terms told (Done caller) state = ⊥
Asked suite terms told (Reopened caller floor spent) state = ⊥

abbrev pub Asks : SuiteMeaning → Terms → State → Told → Type 0
Asks suite terms state told = Asked suite terms told told.entry state

-- the call's entry was told with this answer, and an opening failed
pub record ToldUnopened (told : Told) (answer : Answer) (old new : ShardState) : Type 0 where
  pub began : BeganAlike old new
  pub tale : new.told ≡ old.told ++ record told { entry = with_answer answer told.entry } ∷ []
  pub unsound : old.state.journal.is_sound ≡ false
  pub state : new.state ≡ record old.state { journal = unopened old.terms.shape old.state.journal }

abbrev pub ToldFor : Option Answer → Told → ShardState → ShardState → Type 0
ToldFor None told old new = SameButRack old new
ToldFor (Some answer) told old new = ToldUnopened told answer old new

-- the entry of an opening
abbrev pub opening : ℕ → Book → Told
opening caller book = record { entry = Reopened caller book.floor book.spent; packet = None }

-- the journal is sound: it was so before, or was opened
pub record IsSound (tells : Type 0) (suite : SuiteMeaning) (caller : ℕ) (old new : ShardState) : Type 0 where
  pub adds : Adds tells suite caller (λ own. own ≡ []) old new
  pub sound : new.state.journal.is_sound ≡ true

-- ---- a change of a sound journal: what the call adds, with no opening before

-- the claim's entry, or nothing at want of memory
pub record Spends (tells : Type 0) (suite : SuiteMeaning) (caller : ℕ) (item : Item) (result : Result (Unit {0}) Denied) (old new : ShardState) : Type 0 where
  pub began : BeganAlike old new
  pub own : List Told
  pub own_is : IsClaimEntry caller item (admit_answer result) own
  pub told : new.told ≡ old.told ++ own
  pub steps : Steps tells suite old.terms old.state own new.state

-- the rotation's entry, or nothing at want of memory
pub record Retires (tells : Type 0) (suite : SuiteMeaning) (caller moment : ℕ) (result : Result (Unit {0}) RotateFault) (old new : ShardState) : Type 0 where
  pub began : BeganAlike old new
  pub own : List Told
  pub own_is : IsRotateEntry caller moment (rotate_answer result) own
  pub told : new.told ≡ old.told ++ own
  pub steps : Steps tells suite old.terms old.state own new.state
