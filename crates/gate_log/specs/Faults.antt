-- What the faults of opening a log say of its area.
use Rattle.std.specs.Prelude.{◌≡◌, ⊤, ℕ, ◌+◌, ◌*◌, ◌<◌, List, length}
use Rattle.gate_log.specs.declared.faults.LogOpen.{LogOpen}
use Rattle.gate_log.specs.declared.faults.LogOpen.TheVariants.{Failed, Overfull, Memory}
use Rattle.gate_log.specs.declared.faults.LogRead.{LogRead}
use Rattle.gate_log.specs.declared.faults.LogRead.TheVariants.{Failed as read_failed, Memory as read_memory}
use Rattle.gate_log.specs.Records.{records}

-- more than `limit` records stand there, and this is the place of the gate byte behind the last allowed one
pub record IsOverfull (size limit at : ℕ) (bytes : List ℕ) : Type 0 where
  pub more : limit < length (records size bytes)
  pub place : at ≡ (size + 1) * limit

-- where the fault is `Overfull`, the area has more records than the limit, and the place is named
abbrev pub IfOverfull : ℕ → ℕ → List ℕ → LogOpen → Type 0
IfOverfull size limit bytes Failed = ⊤
IfOverfull size limit bytes (Overfull at) = IsOverfull size limit at bytes
IfOverfull size limit bytes Memory = ⊤

-- what an opening answers where its records couldn't be read
abbrev pub opening_fault : LogRead → LogOpen
opening_fault read_failed = Failed
opening_fault read_memory = Memory
