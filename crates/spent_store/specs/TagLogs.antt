-- The log of an epoch: what contracts see of it, before and after its end is closed, and when it stands on a rack.
use Rattle.std.specs.Prelude.{◌≡◌, ℕ, Bool, List}
use Rattle.replay_disk.specs.Disk.{Areas, RackState, IsAtRest, area_at, contents_of}
use Rattle.gate_log.specs.Log.{ReadState, WasRead}
use Rattle.gate_log.specs.Records.{records, IsClosed}
use Rattle.spent_store.specs.Books.{EpochLog, area_of}

-- an area at rest whose end, by records of this size, is closed
pub record RestsClosed (size area : ℕ) (areas : Areas) : Type 0 where
  pub rest : IsAtRest areas area
  pub closed : IsClosed size (area_at area areas).contents

-- an epoch's log: its tags, how many it may have, whether it is sound, and for how many more it has room in memory
pub record TagLogState : Type 0 where
  pub epoch : ℕ
  pub tags : List (List ℕ)
  pub limit : ℕ
  pub is_sound : Bool
  pub spare : ℕ

-- what a book has of it
abbrev pub epoch_log : TagLogState → EpochLog
epoch_log log = record { epoch = log.epoch; tags = log.tags }

-- it stands on a rack: its area is at rest and has its tags
pub record LogStands (log : TagLogState) (areas : Areas) : Type 0 where
  pub rest : RestsClosed 32 (area_of log.epoch) areas
  pub read : records 32 (area_at (area_of log.epoch) areas).contents ≡ log.tags

-- ---- a log that was read, and whose end isn't closed yet

pub record ReadTagsState : Type 0 where
  pub epoch : ℕ
  pub tags : List (List ℕ)
  pub log : ReadState

-- what a book has of it
abbrev pub read_log : ReadTagsState → EpochLog
read_log read = record { epoch = read.epoch; tags = read.tags }

-- the rack is as it was read
pub record TagsWereRead (read : ReadTagsState) (state : RackState) : Type 0 where
  pub log : WasRead read.log state
  pub area : read.log.area ≡ area_of read.epoch
  pub rest : IsAtRest state.areas (area_of read.epoch)
  pub tags : records 32 (contents_of (area_of read.epoch) state) ≡ read.tags
