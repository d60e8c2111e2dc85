-- What a store's type keeps of its parts.
use Rattle.std.specs.Prelude.{◌≡◌, ℕ, ◌<◌, Bool, true, List, [], ◌∷◌, length, map}
use Rattle.std.specs.List.{AllByRecursion}
use Rattle.mix_base.specs.declared.shards.Shape.{Shape}
use Rattle.replay_disk.specs.Disk.{Areas, RackState, area_at}
use Rattle.replay_disk.specs.Moments.{AtEachMoment}
use Rattle.gate_log.specs.Log.{LogState}
use Rattle.gate_log.specs.Records.{records}
use Rattle.spent_store.specs.Books.{EpochLog, StoredBook, area_of}
use Rattle.spent_store.specs.Root.{AreNear}
use Rattle.spent_store.specs.Changes.{begun_with, added}
use Rattle.spent_store.specs.Stores.{StoreState, OpensToOneOf, UnusedStay, as_read}
use Rattle.spent_store.specs.TagLogs.{TagLogState, epoch_log}
use Rattle.spent_store.specs.declared.root.RootRecord.{RootRecord}

-- a log of a store: it has the store's limit, is sound where the store is, and has room where the store is ready for a
-- claim
pub record IsOfStore (limit : ℕ) (sound ready : Bool) (log : TagLogState) : Type 0 where
  pub same_limit : log.limit ≡ limit
  pub is_sound : sound ≡ true → log.is_sound ≡ true
  pub room : ready ≡ true → 0 < log.spare

-- the root's log, which counts the records of the root
pub record IsRootOf (limit : ℕ) (sound : Bool) (roots : List RootRecord) (root : LogState) : Type 0 where
  pub area : root.area ≡ 0
  pub size : root.size ≡ 9
  pub same_limit : root.limit ≡ limit
  pub count : root.count ≡ length roots
  pub is_sound : sound ≡ true → root.sound ≡ true
  pub made : 0 < length roots

-- the book of these parts
abbrev pub book_with : ℕ → List TagLogState → List RootRecord → StoredBook
book_with floor logs roots = record { floor = floor; logs = map epoch_log logs; roots = roots }

abbrev pub AreNearLogs : ℕ → List TagLogState → Type 0
AreNearLogs floor logs = AreNear floor (map (λ log. log.epoch) logs)

abbrev pub AreOfStore : ℕ → Bool → Bool → List TagLogState → Type 0
AreOfStore limit sound ready logs = AllByRecursion (IsOfStore limit sound ready) logs

-- the stages of a beginning, where the floor doesn't rise
abbrev pub beginning_stages : ℕ → List (List ℕ) → StoredBook → List StoredBook
beginning_stages epoch tags book = book ∷ begun_with epoch book ∷ added epoch tags (begun_with epoch book) ∷ []

-- at a moment of a change: whatever a crash leaves opens to one of these stages, and only the root and the areas of
-- these epochs changed
pub record Leaves (shape : Shape) (limit : ℕ) (stages : List StoredBook) (epochs : List ℕ) (old now : Areas) : Type 0 where
  pub opens : OpensToOneOf shape limit (as_read stages) now
  pub others : UnusedStay epochs old now

-- and so at every moment, for this store
abbrev pub ChangeLeaves : StoreState → List StoredBook → List ℕ → RackState → RackState → Type 0
ChangeLeaves store stages epochs old now = AtEachMoment (Leaves store.shape store.limit stages epochs old.areas) old now

-- the area of an epoch has these tags
abbrev pub HasTags : Areas → EpochLog → Type 0
HasTags areas log = records 32 (area_at (area_of log.epoch) areas).contents ≡ log.tags
