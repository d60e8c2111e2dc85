-- The root of a store: its records, what they say, and which of them can't be.
use Rattle.std.specs.Prelude.{◌≡◌, ℕ, ◌+◌, ◌*◌, ◌/◌, ◌%◌, ◌≤◌, ◌==◌, ◌&&◌, ◌||◌, not, nat_le, nat_lt, Bool, true, false, ⊤, List, [], ◌∷◌, ◌++◌, length, drop, slice_index, fold, filter, map, Option, Some, None, if◌then◌else◌}
use Rattle.std.specs.Int.{from_be_bytes, to_be_bytes, w64}
use Rattle.std.specs.List.{filter_map, list_any}
use Rattle.mix_base.specs.declared.shards.Shape.{Shape}
use Rattle.gate_log.specs.Records.{records}
use Rattle.spent_store.specs.declared.root.RootRecord.{RootRecord}
use Rattle.spent_store.specs.declared.root.RootRecord.TheVariants.{Made, Begin, Floor, Other}

-- a record of nine bytes: its kind, and its value in eight bytes, the highest first
abbrev pub root_record : List ℕ → RootRecord
root_record bytes =
    let kind = slice_index bytes 0 in
    let value = from_be_bytes w64 (drop 1 bytes) in
    if kind == 1 then Made value else (if kind == 2 then Begin value else (if kind == 3 then Floor value else Other kind value))

-- the nine bytes of a record
abbrev pub spell_root : RootRecord → List ℕ
spell_root (Made value) = 1 ∷ to_be_bytes w64 value
spell_root (Begin epoch) = 2 ∷ to_be_bytes w64 epoch
spell_root (Floor epoch) = 3 ∷ to_be_bytes w64 epoch
spell_root (Other kind value) = kind ∷ to_be_bytes w64 value

-- the records of a root
abbrev pub roots_in : List ℕ → List RootRecord
roots_in bytes = map root_record (records 9 bytes)

-- ---- what the records say

-- a Floor record sets the floor
abbrev pub floor_after : ℕ → RootRecord → ℕ
floor_after floor (Floor epoch) = epoch
floor_after floor _ = floor

-- the last floor, and 0 before the first
abbrev pub floor_of : List RootRecord → ℕ
floor_of roots = fold floor_after 0 roots

-- the epoch that a Begin record begins
abbrev pub begun_by : RootRecord → Option ℕ
begun_by (Begin epoch) = Some epoch
begun_by _ = None

-- the epochs that have begun and aren't below the floor, in the order in which they began
abbrev pub begun_of : List RootRecord → List ℕ
begun_of roots = filter (λ epoch. nat_le (floor_of roots) epoch) (filter_map begun_by roots)

-- ---- shapes

-- a shape as the value of a Made record
abbrev pub shape_value : Shape → ℕ
shape_value shape = shape.shards * 256 + shape.index

-- the shape of a value
abbrev pub value_shape : ℕ → Shape
value_shape value = record { shards = value / 256; index = value % 256 }

-- 1 to 16 shards, and an index below them
abbrev pub is_shape : Shape → Bool
is_shape shape = nat_le 1 shape.shards && (nat_le shape.shards 16 && nat_lt shape.index shape.shards)

-- ---- records that can't be

-- Made stands first and nowhere else, and makes a shape; a floor is above the floor before it; an epoch begins once,
-- and is the floor or the one above it. This is by whether the record is the first, and by what stands before it.
abbrev pub is_amiss_at : Bool → ℕ → List ℕ → RootRecord → Bool
is_amiss_at true floor begun (Made value) = not (is_shape (value_shape value))
is_amiss_at true floor begun _ = true
is_amiss_at false floor begun (Made value) = true
is_amiss_at false floor begun (Begin epoch) = list_any (λ other. other == epoch) begun || not (epoch == floor || epoch == floor + 1)
is_amiss_at false floor begun (Floor epoch) = nat_le epoch floor
is_amiss_at false floor begun (Other kind value) = true

abbrev pub is_amiss : List RootRecord → RootRecord → Bool
is_amiss before root = is_amiss_at (length before == 0) (floor_of before) (begun_of before) root

-- how many records stand before the first that is amiss
abbrev pub first_amiss : List RootRecord → List RootRecord → Option ℕ
first_amiss before [] = None
first_amiss before (root ∷ roots) = if is_amiss before root then Some (length before) else first_amiss (before ++ root ∷ []) roots

-- ---- what follows of records in order

-- an epoch is the floor or the one above it
abbrev pub IsNear : ℕ → ℕ → Type 0
IsNear floor epoch = (floor ≤ epoch) × (epoch ≤ floor + 1)

-- no others have begun, and neither of these twice
abbrev pub AreNear : ℕ → List ℕ → Type 0
AreNear floor [] = ⊤
AreNear floor (epoch ∷ []) = IsNear floor epoch
AreNear floor (epoch ∷ other ∷ []) = IsNear floor epoch × IsNear floor other × (epoch ≡ other → ⊥)
AreNear floor (epoch ∷ other ∷ third ∷ others) = ⊥

-- ---- the same, record by record

-- the begun epochs after one record more
abbrev pub begun_after : List ℕ → RootRecord → List ℕ
begun_after begun (Begin epoch) = begun ++ epoch ∷ []
begun_after begun (Floor floor) = filter (λ epoch. nat_le floor epoch) begun
begun_after begun _ = begun
