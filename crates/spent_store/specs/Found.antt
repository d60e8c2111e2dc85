-- What an opening finds on a rack before it writes, and what its writes leave: words of its private steps.
use Rattle.std.specs.Prelude.{◌≡◌, ◌⊎◌, ℕ, ◌<◌, ◌≤◌, ◌==◌, max, Bool, true, false, List, [], ◌∷◌, ◌++◌, length, find, Option, Some, None, Ok, if◌then◌else◌}
use Rattle.mix_base.specs.declared.shards.Shape.{Shape}
use Rattle.replay_disk.specs.Disk.{Areas, RackState, IsImage, IsAtRest, area_at, contents_of}
use Rattle.replay_disk.specs.Moments.{AtEachMoment}
use Rattle.gate_log.specs.Log.{ReadState, WasRead, EachImage, IsClosingOf}
use Rattle.gate_log.specs.Records.{records}
use Rattle.spent_store.specs.Books.{StoredBook, area_of, begun, is_used}
use Rattle.spent_store.specs.Changes.{made}
use Rattle.spent_store.specs.Root.{shape_value, spell_root}
use Rattle.spent_store.specs.Stores.{OpensToOneOf, UnusedStay, as_read, book_in}
use Rattle.spent_store.specs.TagLogs.{TagLogState, ReadTagsState, TagsWereRead, LogStands}
use Rattle.spent_store.specs.declared.root.RootRecord.TheVariants.{Made}

-- a store that was found: its book, its root's log, and the logs of the begun epochs in areas 1 and 2
pub record FoundState : Type 0 where
  pub shape : Shape
  pub limit : ℕ
  pub book : StoredBook
  pub root : ReadState
  pub one : Option ReadTagsState
  pub two : Option ReadTagsState

-- one entry or none, as a list
abbrev pub listed : {X : Type 0} → Option X → List X
listed None = []
listed (Some x) = x ∷ []

-- those of the two areas, in the order in which their epochs began
abbrev pub in_order : {X : Type 0} → Bool → Option X → Option X → List X
in_order second_first one two = if second_first then listed two ++ listed one else listed one ++ listed two

-- the first epoch of these has its log in area 2
abbrev pub begins_in_two : List ℕ → Bool
begins_in_two [] = false
begins_in_two (epoch ∷ epochs) = area_of epoch == 2

-- the epoch of these whose log stands in an area
abbrev pub epoch_in : ℕ → List ℕ → Option ℕ
epoch_in area epochs = find (λ epoch. area_of epoch == area) epochs

-- a log that stands in an area, and may have so many records
abbrev pub IsInArea : ℕ → ℕ → Option ReadTagsState → Type 0
IsInArea area limit found = (read : ReadTagsState) → found ≡ Some read → (area_of read.epoch ≡ area) × (read.log.limit ≡ limit)

abbrev pub IfRead : Option ReadTagsState → RackState → Type 0
IfRead found state = (read : ReadTagsState) → found ≡ Some read → TagsWereRead read state

-- the rack is as it was found
pub record IsFound (found : FoundState) (state : RackState) : Type 0 where
  pub root : WasRead found.root state
  pub one : IfRead found.one state
  pub two : IfRead found.two state
  pub reads : book_in state.areas found.shape found.limit ≡ Ok found.book

-- the areas that a book uses are at rest, and give it
pub record Rests (shape : Shape) (limit : ℕ) (book : StoredBook) (areas : Areas) : Type 0 where
  pub root : IsAtRest areas 0
  pub one : is_used 1 (begun book) ≡ true → IsAtRest areas 1
  pub two : is_used 2 (begun book) ≡ true → IsAtRest areas 2
  pub reads : book_in areas shape limit ≡ Ok book

-- ---- at a moment

-- of a reading: no image is new, and only the root and the areas of these epochs changed
pub record NothingNew (epochs : List ℕ) (old now : Areas) : Type 0 where
  pub images : (area : ℕ) → area < 3 → (image : List ℕ) → IsImage (area_at area now) image → IsImage (area_at area old) image
  pub others : UnusedStay epochs old now

-- and so at every moment
abbrev pub NothingNewThrough : List ℕ → RackState → RackState → Type 0
NothingNewThrough epochs old now = AtEachMoment (NothingNew epochs old.areas) old now

-- of the writes: whatever a crash leaves opens to the book, or to it with its root made
pub record Making (shape : Shape) (limit : ℕ) (book : StoredBook) (old now : Areas) : Type 0 where
  pub opens : OpensToOneOf shape limit (as_read (book ∷ made shape book ∷ [])) now
  pub others : UnusedStay (begun book) old now

-- these records, or the one of the shape where there is none
abbrev pub made_records : Shape → List (List ℕ) → List (List ℕ)
made_records shape [] = spell_root (Made (shape_value shape)) ∷ []
made_records shape (first ∷ others) = first ∷ others

-- an image as a root is made: the old records or these with its first, and no more bytes than its writing leaves
pub record IsMakingOf (shape : Shape) (contents image : List ℕ) : Type 0 where
  pub found : (records 9 image ≡ records 9 contents) ⊎ (records 9 image ≡ made_records shape (records 9 contents))
  pub short : records 9 contents ≡ [] → length image ≤ max (length contents) 11

-- and so at every moment, and no area but the root's changed
abbrev pub MakingLeaves : Shape → RackState → RackState → Type 0
MakingLeaves shape old now = AtEachMoment (EachImage 0 (IsMakingOf shape (contents_of 0 old)) old.areas) old now

-- as the end of a log is closed, if there is one
abbrev pub ClosesLog : Option ReadTagsState → Areas → Areas → Type 0
ClosesLog None old now = now ≡ old
ClosesLog (Some read) old now = EachImage (area_of read.epoch) (IsClosingOf 32 (area_at (area_of read.epoch) old).contents) old now

-- what a log is that was closed
pub record IsClosed (limit : ℕ) (log : TagLogState) : Type 0 where
  pub same_limit : log.limit ≡ limit
  pub is_sound : log.is_sound ≡ true

abbrev pub IfClosed : ℕ → Option TagLogState → Type 0
IfClosed limit found = (log : TagLogState) → found ≡ Some log → IsClosed limit log

abbrev pub IfStands : Option TagLogState → Areas → Type 0
IfStands found areas = (log : TagLogState) → found ≡ Some log → LogStands log areas
