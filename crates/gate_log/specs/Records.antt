-- What the bytes of an area stand for, read as a log: each record has a gate byte before it, and counts where that
-- is 01 and the record and one byte more are there. And what a log's calls leave in an area, byte for byte.
use Rattle.std.specs.Prelude.{◌≡◌, ◌≢◌, ℕ, zero, suc, ◌+◌, ◌*◌, ◌<◌, List, [], ◌∷◌, ◌++◌, length, take, slice_index, nat_lt, ◌==◌, ◌&&◌, if◌then◌else◌}
use Rattle.replay_disk.specs.Disk.{with_bytes}

-- the records among these bytes, after the first bytes that are skipped: those of a record that was read
abbrev pub records_after : ℕ → ℕ → List ℕ → List (List ℕ)
records_after size skipped [] = []
records_after size (suc skipped) (byte ∷ bytes) = records_after size skipped bytes
records_after size zero (byte ∷ bytes) = if byte == 1 && nat_lt size (length bytes) then take size bytes ∷ records_after size size bytes else []

-- the records of this size
abbrev pub records : ℕ → List ℕ → List (List ℕ)
records size bytes = records_after size 0 bytes

-- the end place: where the gate byte of the next record stands
abbrev pub end_place : ℕ → List ℕ → ℕ
end_place size bytes = (size + 1) * length (records size bytes)

-- the byte at the end place is there and isn't 01
pub record IsClosed (size : ℕ) (bytes : List ℕ) : Type 0 where
  pub there : end_place size bytes < length bytes
  pub shut : slice_index bytes (end_place size bytes) ≢ 1

-- records as they stand in an area: an open gate before each, and a closed one behind the last
abbrev pub gated : List (List ℕ) → List ℕ
gated [] = 0 ∷ []
gated (bytes ∷ more) = 1 ∷ bytes ++ gated more

-- an area with these records behind its own
abbrev pub with_records : ℕ → List (List ℕ) → List ℕ → List ℕ
with_records size new bytes = with_bytes (end_place size bytes) (gated new) bytes

-- an area with no record: a closed gate stands first, and the bytes behind it stay
abbrev pub emptied : List ℕ → List ℕ
emptied bytes = with_bytes 0 (gated []) bytes

-- what closing an end leaves: the same bytes where it is closed, else these with 00 at the end place
pub record ClosesEnd (size : ℕ) (old new : List ℕ) : Type 0 where
  pub closed : IsClosed size old → new ≡ old
  pub unclosed : ¬ IsClosed size old → new ≡ with_records size [] old
