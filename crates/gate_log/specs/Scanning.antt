-- How the records of an area are read, for the private steps: what a gate byte tells, the records at the front, and what
-- a write leaves outside its range.
use Rattle.std.specs.Prelude.{◌≡◌, ℕ, ◌+◌, ◌*◌, ◌≤◌, min, List, [], ◌∷◌, length, take, drop, nat_lt, ◌==◌, if◌then◌else◌}
use Rattle.std.specs.List.{concat}
use Rattle.gate_log.specs.declared.scan.Front.{Front}
use Rattle.gate_log.specs.declared.scan.Gate.{Gate}
use Rattle.gate_log.specs.declared.scan.Gate.TheVariants.{Record, Closed, Open}
use Rattle.replay_disk.specs.Disk.{RackState, contents_of}
use Rattle.replay_disk.specs.Moments.{AtEachMoment}
use Rattle.gate_log.specs.Log.{EachImage}
use Rattle.gate_log.specs.Records.{records}

-- A gate byte that may be there: that of a record, closed, or else none or one with no whole record behind it.
abbrev pub gate_of : ℕ → List ℕ → Gate
gate_of size [] = Open
gate_of size (byte ∷ bytes) = if byte == 1 then (if nat_lt size (length bytes) then Record else Open) else Closed

-- the first `limit` records of these bytes, and what stands behind them
pub record IsFront (size limit : ℕ) (bytes : List ℕ) (front : Front) : Type 0 where
  pub count : front.count ≡ min limit (length (records size bytes))
  pub joined : front.records.items ≡ concat (take front.count (records size bytes))
  pub gate : front.gate ≡ gate_of size (drop (front.count * (size + 1)) bytes)

-- the same bytes outside a range, and no shorter
pub record SameOutside (place size : ℕ) (old image : List ℕ) : Type 0 where
  pub before : take place image ≡ take place old
  pub after : drop (place + size) image ≡ drop (place + size) old
  pub no_shorter : length old ≤ length image

-- what is left at every moment as a range of an area at rest is written: what stands outside the range
abbrev pub WriteLeaves : ℕ → ℕ → ℕ → RackState → RackState → Type 0
WriteLeaves area place size old now = AtEachMoment (EachImage area (SameOutside place size (contents_of area old)) old.areas) old now
