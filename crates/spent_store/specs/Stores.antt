-- A store on a rack: the book that the rack's bytes say, what a crash may leave of it, and when the store stands there.
use Rattle.std.specs.Prelude.{◌≡◌, ◌⊎◌, ⊤, ℕ, ◌<◌, Bool, true, false, List, map, Contains, length, Result, Ok, Err, if◌then◌else◌}
use Rattle.mix_base.specs.declared.shards.Shape.{Shape}
use Rattle.replay_disk.specs.Disk.{Areas, RackState, IsImage, area_at, contents_of}
use Rattle.replay_disk.specs.Moments.{AtEachMoment}
use Rattle.spent_store.specs.Books.{StoredBook, area_of, has_begun, is_used, book_of}
use Rattle.spent_store.specs.Changes.{made_where_read}
use Rattle.spent_store.specs.Journals.{Journal, Opening, Opened, Objected, RackFailed, WantsMemory, Opens, sound_with, unsound_with, cut_off}
use Rattle.spent_store.specs.Root.{begun_of, roots_in}
use Rattle.spent_store.specs.Seen.{summary}
use Rattle.spent_store.specs.TagLogs.{RestsClosed}
use Rattle.spent_store.specs.declared.summary.Book.{Book}
use Rattle.spent_store.specs.declared.faults.OpenStore.{OpenStore}
use Rattle.spent_store.specs.declared.faults.OpenStore.TheVariants as answer
use Rattle.spent_store.specs.declared.faults.Objection.{Objection}
use Rattle.spent_store.specs.declared.faults.Objection.TheVariants.{Foreign, OtherShape}

-- the book of what a rack's areas hold, or what is against it
abbrev pub book_in : Areas → Shape → ℕ → Result StoredBook Objection
book_in areas shape limit = book_of areas.root.contents areas.one.contents areas.two.contents shape limit

-- what is told of it
abbrev pub told : Result StoredBook Objection → Result Book Objection
told (Ok book) = Ok (summary book)
told (Err objection) = Err objection

-- a read of each area gives what it gave before
pub record SameContents (old new : Areas) : Type 0 where
  pub root : new.root.contents ≡ old.root.contents
  pub one : new.one.contents ≡ old.one.contents
  pub two : new.two.contents ≡ old.two.contents

-- the areas of logs that none of these epochs uses are as they were
abbrev pub UnusedStay : List ℕ → Areas → Areas → Type 0
UnusedStay epochs old now = (area : ℕ) → 0 < area → area < 3 → is_used area epochs ≡ false → area_at area now ≡ area_at area old

-- and so at every moment
abbrev pub UnusedStayThrough : List ℕ → RackState → RackState → Type 0
UnusedStayThrough epochs old now = AtEachMoment (UnusedStay epochs old.areas) old now

-- the epochs that have begun by the root of a rack
abbrev pub begun_on : RackState → List ℕ
begun_on state = begun_of (roots_in (contents_of 0 state))

-- what a crash may leave of the three areas
pub record Left (areas : Areas) : Type 0 where
  pub root : List ℕ
  pub one : List ℕ
  pub two : List ℕ
  pub is_root : IsImage areas.root root
  pub is_one : IsImage areas.one one
  pub is_two : IsImage areas.two two

-- what it opens to
abbrev pub opened : Shape → ℕ → (areas : Areas) → Left areas → Result StoredBook Objection
opened shape limit areas left = book_of left.root left.one left.two shape limit

-- whatever a crash leaves of the areas, it opens to one of these
abbrev pub OpensToOneOf : Shape → ℕ → List (Result StoredBook Objection) → Areas → Type 0
OpensToOneOf shape limit books areas = (left : Left areas) → Contains books (opened shape limit areas left)

-- the same, or with its root made
abbrev pub IsSameOrMade : Shape → Result StoredBook Objection → Result StoredBook Objection → Type 0
IsSameOrMade shape old now = (now ≡ old) ⊎ (now ≡ made_where_read shape old)

-- whatever a crash leaves of the areas, they might have opened to it before, or to it with its root made
abbrev pub OpensFrom : Shape → ℕ → Areas → Areas → Type 0
OpensFrom shape limit old now = (left : Left now) → (before : Left old) × IsSameOrMade shape (opened shape limit old before) (opened shape limit now left)

-- and so at every moment
abbrev pub OpensFromThrough : Shape → ℕ → RackState → RackState → Type 0
OpensFromThrough shape limit old now = AtEachMoment (OpensFrom shape limit old.areas) old now

-- a read gives what it gave before, or that with its root made
abbrev pub ReadsSameOrMade : Shape → ℕ → RackState → RackState → Type 0
ReadsSameOrMade shape limit old now = IsSameOrMade shape (book_in old.areas shape limit) (book_in now.areas shape limit)

-- what contracts see of a store: its shape, how many records a log of it may have, its book, whether it is sound, and
-- for how many claims it has room in memory
pub record StoreState : Type 0 where
  pub shape : Shape
  pub limit : ℕ
  pub book : StoredBook
  pub is_sound : Bool
  pub spare : ℕ

-- Areas stand for a book: each that the book uses has exactly one image, whose end is closed; these give the book; and
-- the root has a record.
pub record StandFor (shape : Shape) (limit : ℕ) (book : StoredBook) (areas : Areas) : Type 0 where
  pub root : RestsClosed 9 0 areas
  pub logs : (epoch : ℕ) → has_begun epoch book ≡ true → RestsClosed 32 (area_of epoch) areas
  pub reads : book_in areas shape limit ≡ Ok book
  pub made : 0 < length book.roots

-- the store stands on a rack of these areas
abbrev pub Stands : StoreState → Areas → Type 0
Stands store areas = StandFor store.shape store.limit store.book areas

-- the journal that a store stands for after a change of these stages
abbrev pub journal_of : StoreState → List StoredBook → Journal
journal_of store stages = if store.is_sound then sound_with store.book else cut_off stages

-- these books, as areas open to them
abbrev pub as_read : List StoredBook → List (Result StoredBook Objection)
as_read stages = map (λ book. Ok book) stages

-- what a read gives opens to one of these books, for this store
abbrev pub ReadsOneOf : StoreState → List StoredBook → RackState → Type 0
ReadsOneOf store stages state = Contains (as_read stages) (book_in state.areas store.shape store.limit)

-- whatever a crash leaves opens to one of these books, for this store
abbrev pub LeavesOneOf : StoreState → List StoredBook → Areas → Type 0
LeavesOneOf store stages areas = OpensToOneOf store.shape store.limit (as_read stages) areas

-- and so at every moment
abbrev pub LeavesOneThrough : StoreState → List StoredBook → RackState → RackState → Type 0
LeavesOneThrough store stages old now = AtEachMoment (LeavesOneOf store stages) old now

-- how an opening ended, by its answer
abbrev pub opening_of : {T : Type 0} → Result T OpenStore → Opening
opening_of (Ok store) = Opened
opening_of (Err (answer.Foreign area at)) = Objected (Foreign area at)
opening_of (Err (answer.OtherShape stored)) = Objected (OtherShape stored)
opening_of (Err answer.Failed) = RackFailed
opening_of (Err answer.Memory) = WantsMemory

-- a store that was opened has the journal's one book
abbrev pub IsBookOf : Result StoreState OpenStore → Journal → Type 0
IsBookOf (Ok store) journal = journal ≡ sound_with store.book
IsBookOf (Err fault) journal = ⊤

-- An opening by the journal's rule: an unsound journal of all that the rack might open to has become one of all that it
-- may open to.
pub record IsOpening (shape : Shape) (limit : ℕ) (books : List (Result StoredBook Objection)) (result : Result StoreState OpenStore) (now : Areas) : Type 0 where
  pub journal : Journal
  pub opens : Opens shape (unsound_with books) (opening_of result) journal
  pub of_store : IsBookOf result journal
  pub covers : OpensToOneOf shape limit journal.books now

abbrev pub OpensJournal : Shape → ℕ → Areas → Result StoreState OpenStore → Areas → Type 0
OpensJournal shape limit old result now = (books : List (Result StoredBook Objection)) → OpensToOneOf shape limit books old → IsOpening shape limit books result now
