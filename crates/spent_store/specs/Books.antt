-- The book of a store: what the bytes of its three areas say, or the first thing that is against them.
use Rattle.std.specs.Prelude.{ℕ, ◌+◌, ◌*◌, ◌%◌, ◌<◌, ◌==◌, ◌&&◌, ◌⊎◌, nat_lt, Bool, Contains, List, [], ◌∷◌, length, map, Option, Some, None, Result, Ok, Err, if◌then◌else◌}
use Rattle.std.specs.List.{flat_map, list_any}
use Rattle.std.specs.Option.{option_map}
use Rattle.std.specs.Str.{bytes_eq}
use Rattle.mix_base.specs.declared.shards.Shape.{Shape}
use Rattle.gate_log.specs.Records.{records}
use Rattle.spent_store.specs.Root.{roots_in, floor_of, begun_of, shape_value, value_shape, first_amiss}
use Rattle.spent_store.specs.declared.root.RootRecord.{RootRecord}
use Rattle.spent_store.specs.declared.root.RootRecord.TheVariants.{Made}
use Rattle.spent_store.specs.declared.faults.Objection.{Objection}
use Rattle.spent_store.specs.declared.faults.Objection.TheVariants.{Foreign, OtherShape}

-- an epoch that has begun, with the tags spent in it, in the order of its log
pub record EpochLog : Type 0 where
  pub epoch : ℕ
  pub tags : List (List ℕ)

-- the floor, the begun epochs that aren't below it, in the order in which they began, and the records of the root
pub record StoredBook : Type 0 where
  pub floor : ℕ
  pub logs : List EpochLog
  pub roots : List RootRecord

-- the begun epochs
abbrev pub begun : StoredBook → List ℕ
begun book = map (λ log. log.epoch) book.logs

-- the epoch has begun
abbrev pub has_begun : ℕ → StoredBook → Bool
has_begun epoch book = list_any (λ other. other == epoch) (begun book)

-- the spent pairs of epoch and tag, epoch after epoch
abbrev pub pairs : StoredBook → List (ℕ × List ℕ)
pairs book = flat_map (λ log. map (λ tag. (log.epoch, tag)) log.tags) book.logs

-- how many different entries a list has, where a test says which are the same
abbrev pub distinct : {X : Type 0} → (X → X → Bool) → List X → ℕ
distinct same [] = 0
distinct same (one ∷ others) = if list_any (λ other. same other one) others then distinct same others else 1 + distinct same others

-- how many different tags there are
abbrev pub distinct_count : List (List ℕ) → ℕ
distinct_count tags = distinct bytes_eq tags

-- the same epoch and the same tag
abbrev pub is_same_pair : ℕ × List ℕ → ℕ × List ℕ → Bool
is_same_pair one other = one.0 == other.0 && bytes_eq one.1 other.1

-- how many different pairs are spent
abbrev pub spent : StoredBook → ℕ
spent book = distinct is_same_pair (pairs book)

-- the pair is spent
abbrev pub is_spent : ℕ → List ℕ → StoredBook → Bool
is_spent epoch tag book = list_any (λ log. log.epoch == epoch && list_any (λ other. bytes_eq other tag) log.tags) book.logs

-- ---- the book of three areas

-- the area that an epoch's log stands in: 1 for an even number, and 2 for an odd one
abbrev pub area_of : ℕ → ℕ
area_of epoch = 1 + epoch % 2

-- the bytes of that area, of areas 1 and 2
abbrev pub log_bytes : List ℕ → List ℕ → ℕ → List ℕ
log_bytes one two epoch = if area_of epoch == 1 then one else two

-- an epoch's log, from these bytes
abbrev pub log_in : List ℕ → List ℕ → ℕ → EpochLog
log_in one two epoch = record { epoch = epoch; tags = records 32 (log_bytes one two epoch) }

-- the book that the bytes spell, where nothing is against them
abbrev pub spelled_book : List ℕ → List ℕ → List ℕ → StoredBook
spelled_book root one two =
    let roots = roots_in root in
    record { floor = floor_of roots; logs = map (log_in one two) (begun_of roots); roots = roots }

-- ---- what may be against them

-- a log of more records than the limit: the gate behind the last that may be there
abbrev pub overfull : ℕ → ℕ → ℕ → List ℕ → Option Objection
overfull limit area size bytes = if nat_lt limit (length (records size bytes)) then Some (Foreign area (limit * (size + 1))) else None

-- no record, and more bytes than the writing of the first leaves
abbrev pub unrecorded : ℕ → List RootRecord → Option Objection
unrecorded number [] = if nat_lt 11 number then Some (Foreign 0 0) else None
unrecorded number (_ ∷ _) = None

-- the first record that is amiss, at its byte of kind
abbrev pub amiss : List RootRecord → Option Objection
amiss roots = option_map (λ before. Foreign 0 (before * 10 + 1)) (first_amiss [] roots)

-- a root made for another shape
abbrev pub other_shape : Shape → List RootRecord → Option Objection
other_shape shape (Made value ∷ _) = if value == shape_value shape then None else Some (OtherShape (value_shape value))
other_shape shape _ = None

-- the log of one of these epochs stands in the area
abbrev pub is_used : ℕ → List ℕ → Bool
is_used area begun = list_any (λ epoch. area_of epoch == area) begun

-- an area whose log is of a begun epoch, and overfull
abbrev pub overfull_log : ℕ → ℕ → List ℕ → List ℕ → Option Objection
overfull_log limit area bytes begun = if is_used area begun then overfull limit area 32 bytes else None

-- in this order
abbrev pub objections : List ℕ → List ℕ → List ℕ → Shape → ℕ → List (Option Objection)
objections root one two shape limit =
    let roots = roots_in root in
    overfull limit 0 9 root
    ∷ unrecorded (length root) roots
    ∷ amiss roots
    ∷ other_shape shape roots
    ∷ overfull_log limit 1 one (begun_of roots)
    ∷ overfull_log limit 2 two (begun_of roots)
    ∷ []

-- the first of these that there is
abbrev pub first_of : List (Option Objection) → Option Objection
first_of [] = None
first_of (None ∷ others) = first_of others
first_of (Some objection ∷ others) = Some objection

-- the book, unless something is against it
abbrev pub unless : Option Objection → StoredBook → Result StoredBook Objection
unless None book = Ok book
unless (Some objection) book = Err objection

-- the book of a root and two areas of logs, for a store of this shape with logs of at most this many records
abbrev pub book_of : List ℕ → List ℕ → List ℕ → Shape → ℕ → Result StoredBook Objection
book_of root one two shape limit = unless (first_of (objections root one two shape limit)) (spelled_book root one two)

-- a pair that such a rack will never accept again: its epoch is below the floor, or it is spent
abbrev pub IsCovered : Result StoredBook Objection → ℕ → List ℕ → Type 0
IsCovered (Err objection) epoch tag = ⊥
IsCovered (Ok book) epoch tag = (epoch < book.floor) ⊎ Contains (pairs book) (epoch, tag)
