-- What the faults of a store say.
use Rattle.std.specs.Prelude.{◌≡◌, ⊤, Option, Some, Result, Ok, Err}
use Rattle.gate_log.specs.declared.faults.LogRead.{LogRead}
use Rattle.gate_log.specs.declared.faults.LogRead.TheVariants as read
use Rattle.spent_store.specs.declared.faults.ClaimFault.{ClaimFault}
use Rattle.spent_store.specs.declared.faults.ClaimFault.TheVariants as claim
use Rattle.spent_store.specs.declared.faults.OpenStore.{OpenStore}
use Rattle.spent_store.specs.declared.faults.OpenStore.TheVariants as answer
use Rattle.spent_store.specs.declared.faults.Objection.{Objection}
use Rattle.spent_store.specs.declared.faults.Objection.TheVariants.{Foreign, OtherShape}

-- an objection as an answer
abbrev pub answered : Objection → OpenStore
answered (Foreign area at) = answer.Foreign area at
answered (OtherShape stored) = answer.OtherShape stored

-- records that couldn't be read, as an answer
abbrev pub reading_fault : LogRead → OpenStore
reading_fault read.Failed = answer.Failed
reading_fault read.Memory = answer.Memory

-- a refusal says what is against the bytes; want of memory says nothing, and bytes don't fail
abbrev pub Objects : OpenStore → Option Objection → Type 0
Objects (answer.Foreign area at) objection = objection ≡ Some (Foreign area at)
Objects (answer.OtherShape stored) objection = objection ≡ Some (OtherShape stored)
Objects answer.Memory objection = ⊤
Objects answer.Failed objection = ⊥

-- the same where the bytes are a rack's, which may have failed
abbrev pub Refuses : OpenStore → Option Objection → Type 0
Refuses (answer.Foreign area at) objection = objection ≡ Some (Foreign area at)
Refuses (answer.OtherShape stored) objection = objection ≡ Some (OtherShape stored)
Refuses answer.Memory objection = ⊤
Refuses answer.Failed objection = ⊤

-- a claim was refused: its answer is a cause, and not that the rack failed
abbrev pub IsRefused : Result (Unit {0}) ClaimFault → Type 0
IsRefused (Ok _) = ⊥
IsRefused (Err (claim.Retired floor)) = ⊤
IsRefused (Err claim.Spent) = ⊤
IsRefused (Err claim.ShardFull) = ⊤
IsRefused (Err claim.Failed) = ⊥
