-- The command `look`: the words that name one, what it reads of the kept disks, and its promise.
use Rattle.std.specs.Prelude.{◌≡◌, ◌⊎◌, ⊤, ℕ, ◌+◌, ◌^◌, ◌<◌, if◌then◌else◌, List, [], ◌∷◌, ◌++◌, length, take, drop, slice_get, codes}
use Rattle.std.specs.Prelude.{Option, Some, None, option_and_then, Result, Ok, Err, IsOk}
use Rattle.std.specs.Fmt.{decimal}
use Rattle.std.specs.Str.{bytes_eq}
use Rattle.mix_base.specs.Faults.{Rose}
use Rattle.mix_base.specs.Results.{◌>>=◌}
use Rattle.mix_base.specs.declared.shards.Shape.{Shape}
use Rattle.replay_disk.specs.Disk.{OnlyRead, RackState}
use Rattle.spent_store.specs.Stores.{book_in, told}
use Rattle.spent_store.specs.declared.faults.Objection.{Objection}
use Rattle.spent_store.specs.declared.faults.Objection.TheVariants as objections
use Rattle.spent_store.specs.declared.summary.Book.{Book}
use Rattle.lab_text.specs.Given.{Gave}
use Rattle.lab_text.specs.Words.{number_in}
use Rattle.lab_text.specs.WordForms.{line_of, only_word}
use Rattle.lab_text.specs.declared.statuses.Status.{Status}
use Rattle.lab_text.specs.declared.statuses.Status.TheVariants.{Done, WriteFault, Foreign, OtherShape, Memory, Disk}

-- ---- the words

-- look SHARDS: what stands behind the first word
abbrev pub shards_in : List (List ℕ) → Option ℕ
shards_in words = option_and_then (number_in 1 16) (only_word words)

-- the number of shards that the words name
abbrev pub look_of : List (List ℕ) → Option ℕ
look_of [] = None
look_of (first ∷ words) = if bytes_eq first (codes "look") then shards_in words else None

-- ---- what the disks hold

-- shard S floor F spent C root R
abbrev pub shard_line : ℕ → Book → List ℕ
shard_line index book = line_of (
    codes "shard" ∷ decimal index
    ∷ codes "floor" ∷ decimal book.floor
    ∷ codes "spent" ∷ decimal book.spent
    ∷ codes "root" ∷ decimal book.root ∷ [])

-- what is against the journal of a shard of node 0, as a status
abbrev pub objection_status : Shape → Objection → Status
objection_status shape (objections.Foreign area at) = Foreign 0 shape.index area at
objection_status shape (objections.OtherShape stored) = OtherShape 0 shape.index stored shape

-- the line of a journal, or how what is against it ends the call
abbrev pub line_or_status : Shape → Result Book Objection → Result (List ℕ) Status
line_or_status shape (Ok book) = Ok (shard_line shape.index book)
line_or_status shape (Err objection) = Err (objection_status shape objection)

-- that of the journal on a disk, as this shard
abbrev pub line_on : Shape → RackState → Result (List ℕ) Status
line_on shape rack = line_or_status shape (told (book_in rack.areas shape (2 ^ 26)))

-- the lines of these disks as shard INDEX of so many and those behind it; or how the call ends at the first that has none
abbrev pub lines_from : ℕ → ℕ → List RackState → Result (List ℕ) Status
lines_from shards index [] = Ok []
lines_from shards index (rack ∷ racks) = do
  line ← line_on (record { shards = shards; index = index }) rack
  others ← lines_from shards (index + 1) racks
  Ok (line ++ others)

-- those of the first so many disks
abbrev pub lines_on : ℕ → ℕ → List RackState → Result (List ℕ) Status
lines_on shards count racks = lines_from shards 0 (take count racks)

-- ---- the promise

-- a front of the lines
abbrev pub IsFrontOf : Result (List ℕ) Status → List ℕ → Type 0
IsFrontOf lines bytes = (text : List ℕ) × (count : ℕ) × (lines ≡ Ok text) × (bytes ≡ take count text)

-- what a status says of the lines of all disks, and of the bytes that were given: all of them after Done, and a front where
-- the sink failed or memory ran out, which it may before; after any other nothing, and after Foreign and OtherShape that
-- disk is the first that has no line
abbrev pub EndsLook : ℕ → Result (List ℕ) Status → Status → List ℕ → Type 0
EndsLook shards lines Done bytes = lines ≡ Ok bytes
EndsLook shards lines WriteFault bytes = IsFrontOf lines bytes
EndsLook shards lines Memory bytes = (bytes ≡ []) ⊎ IsFrontOf lines bytes
EndsLook shards lines (Foreign node shard area at) bytes = (lines ≡ Err (Foreign node shard area at)) × (bytes ≡ [])
EndsLook shards lines (OtherShape node shard stored asked) bytes =
    (lines ≡ Err (OtherShape node shard stored asked)) × (bytes ≡ [])
EndsLook shards lines (Disk node shard) bytes = (node ≡ 0) × (shard < shards) × (bytes ≡ [])
EndsLook shards lines _ bytes = ⊥

-- where a disk failed, those in front of it have their lines
abbrev pub ReachesDisk : ℕ → List RackState → Status → Type 0
ReachesDisk shards racks (Disk node shard) = IsOk (lines_on shards shard racks)
ReachesDisk shards racks _ = ⊤

-- a disk was only read: its count of faults rose where this says that it failed, and nowhere else
pub record IsRead (failed : Type 0) (old new : RackState) : Type 0 where
  pub same : OnlyRead old new
  pub rose : failed → Rose old.faults new.faults
  pub no_fault : ¬ failed → new.faults ≡ old.faults

-- each of the first so many was only read, and failed just where the status says so; the others are as they were
pub record AreRead (shards : ℕ) (status : Status) (old new : List RackState) : Type 0 where
  pub count : length new ≡ length old
  pub first : (index : ℕ) (was is : RackState) → index < shards → slice_get old index ≡ Some was → slice_get new index ≡ Some is
      → IsRead (status ≡ Disk 0 index) was is
  pub others : drop shards new ≡ drop shards old

-- a call of `look` on these disks
pub record AnswersLook (tells : Type 0) (shards : ℕ) (status : Status) (before after : Option (List ℕ)) (old new : List RackState) : Type 0 where
  -- the lines of all, which are those of the definition where the disks tell what they hold
  pub lines : Result (List ℕ) Status
  pub of_disks : tells → lines ≡ lines_on shards shards old
  -- what was given, and what this and the status say of the lines
  pub bytes : List ℕ
  pub ends : EndsLook shards lines status bytes
  pub given : Gave before after (λ given. given ≡ bytes)
  pub reaches : tells → ReachesDisk shards old status
  -- the disks
  pub disks : AreRead shards status old new
