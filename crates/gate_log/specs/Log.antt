-- A log on one area of a rack: what it is, when it stands on the rack, and what its calls leave at every moment.
use Rattle.std.specs.Prelude.{◌≡◌, ◌≢◌, ◌⊎◌, ℕ, ◌+◌, ◌*◌, ◌/◌, ◌<◌, ◌≤◌, max, true, false, Bool, List, [], ◌++◌, length}
use Rattle.std.specs.List.{concat}
use Rattle.replay_disk.specs.Disk.{Areas, RackState, IsImage, IsAtRest, area_at, contents_of}
use Rattle.replay_disk.specs.Moments.{AtEachMoment}
use Rattle.gate_log.specs.Records.{records, end_place, IsClosed}

-- what contracts see of a log: its area, the size of its records, how many records it may have and has, and whether
-- it is sound
pub record LogState : Type 0 where
  pub area : ℕ
  pub size : ℕ
  pub limit : ℕ
  pub count : ℕ
  pub sound : Bool

-- a sound log
abbrev pub sound_log : ℕ → ℕ → ℕ → ℕ → LogState
sound_log area size limit count = record { area = area; size = size; limit = limit; count = count; sound = true }

-- the records that a read of the log's area gives
abbrev pub records_of : LogState → RackState → List (List ℕ)
records_of log state = records log.size (contents_of log.area state)

-- The log stands on the rack: its area is at rest, so the contents are its only image; the log counts their records;
-- and the byte at the end place is there and isn't 01, so no write behind it can make a record.
pub record Stands (log : LogState) (state : RackState) : Type 0 where
  pub at_rest : IsAtRest state.areas log.area
  pub count : length (records_of log state) ≡ log.count
  pub closed : IsClosed log.size (contents_of log.area state)

-- what contracts see of a log that was read and isn't closed yet: its area, the size of its records and how many it may
-- have; how many stand there, whether the end is closed, and the records, one after the other
pub record ReadState : Type 0 where
  pub area : ℕ
  pub size : ℕ
  pub limit : ℕ
  pub count : ℕ
  pub closed : Bool
  pub records : List ℕ

-- The rack is as the log was read: its area is at rest; these are its records, and their number; and its end is closed, or
-- else so few bytes stand there that a gate byte makes no record.
pub record WasRead (read : ReadState) (state : RackState) : Type 0 where
  pub at_rest : IsAtRest state.areas read.area
  pub joined : read.records ≡ concat (records read.size (contents_of read.area state))
  pub count : length (records read.size (contents_of read.area state)) ≡ read.count
  pub closed : read.closed ≡ true → IsClosed read.size (contents_of read.area state)
  pub unclosed : read.closed ≡ false → ¬ IsClosed read.size (contents_of read.area state)
  pub few : read.closed ≡ false → length (contents_of read.area state) ≤ end_place read.size (contents_of read.area state) + read.size + 1

-- A log's records are read 128 at a time: so many reads there are at most, with that of the gate byte behind them.
abbrev pub most_reads : ℕ → ℕ
most_reads limit = limit / 128 + 2

-- the other areas are as they were
abbrev pub OthersStay : ℕ → Areas → Areas → Type 0
OthersStay area old now = (other : ℕ) → other < 3 → other ≢ area → area_at other now ≡ area_at other old

-- at a moment: each image of the area has P, and the other areas are as they were
pub record EachImage (area : ℕ) (P : List ℕ → Type 0) (old now : Areas) : Type 0 where
  pub images : (image : List ℕ) → IsImage (area_at area now) image → P image
  pub others : OthersStay area old now

-- the old records, or these and all the new ones
abbrev pub IsOldOrWith : List (List ℕ) → List (List ℕ) → List (List ℕ) → Type 0
IsOldOrWith old new now = (now ≡ old) ⊎ (now ≡ old ++ new)

-- the old records, or none
abbrev pub IsOldOrNone : List (List ℕ) → List (List ℕ) → Type 0
IsOldOrNone old now = (now ≡ old) ⊎ (now ≡ [])

-- An image that a call on a log may leave which writes up to the place `reach`: its records are as R says, and it is no
-- shorter than the contents were, and no longer than these or that place.
pub record IsLogImage (size reach : ℕ) (R : List (List ℕ) → Type 0) (contents image : List ℕ) : Type 0 where
  pub reads : R (records size image)
  pub no_shorter : length contents ≤ length image
  pub no_longer : length image ≤ max (length contents) reach

-- an image as records are appended behind these contents: the old records, or these and all the new ones
abbrev pub IsAppendOf : ℕ → List (List ℕ) → List ℕ → List ℕ → Type 0
IsAppendOf size new contents image = IsLogImage size (end_place size contents + (size + 1) * length new + 1) (IsOldOrWith (records size contents) new) contents image

-- an image as the end of these contents is closed: the same records
abbrev pub IsClosingOf : ℕ → List ℕ → List ℕ → Type 0
IsClosingOf size contents image = IsLogImage size (end_place size contents + 1) (λ now. now ≡ records size contents) contents image

-- an image as a log with these contents is emptied: the old records, or none
abbrev pub IsResetOf : ℕ → List ℕ → List ℕ → Type 0
IsResetOf size contents image = IsLogImage size 1 (IsOldOrNone (records size contents)) contents image

-- an image as an area is opened: one that was there before, or one as its end is closed
pub record IsOpeningOf (area size : ℕ) (old : Areas) (image : List ℕ) : Type 0 where
  pub before : List ℕ
  pub was : IsImage (area_at area old) before
  pub now : IsClosingOf size before image

-- what is left at every moment as records are appended, as an end is closed, as a log is emptied, as an area is opened, and
-- as it is read: then no image is new
abbrev pub AppendLeavesIn : ℕ → ℕ → List (List ℕ) → RackState → RackState → Type 0
AppendLeavesIn area size new old now = AtEachMoment (EachImage area (IsAppendOf size new (contents_of area old)) old.areas) old now

abbrev pub AppendLeaves : LogState → List (List ℕ) → RackState → RackState → Type 0
AppendLeaves log new old now = AppendLeavesIn log.area log.size new old now

abbrev pub ClosingLeaves : ℕ → ℕ → RackState → RackState → Type 0
ClosingLeaves area size old now = AtEachMoment (EachImage area (IsClosingOf size (contents_of area old)) old.areas) old now

abbrev pub ResetLeaves : LogState → RackState → RackState → Type 0
ResetLeaves log old now = AtEachMoment (EachImage log.area (IsResetOf log.size (contents_of log.area old)) old.areas) old now

abbrev pub OpeningLeaves : ℕ → ℕ → RackState → RackState → Type 0
OpeningLeaves area size old now = AtEachMoment (EachImage area (IsOpeningOf area size old.areas) old.areas) old now

abbrev pub ReadingLeaves : ℕ → RackState → RackState → Type 0
ReadingLeaves area old now = AtEachMoment (EachImage area (IsImage (area_at area old.areas)) old.areas) old now

-- the other areas are as they were, at every moment
abbrev pub OthersStayThrough : ℕ → RackState → RackState → Type 0
OthersStayThrough area old now = AtEachMoment (OthersStay area old.areas) old now
