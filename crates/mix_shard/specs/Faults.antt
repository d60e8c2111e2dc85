-- What the faults of a shard's calls say, and the answers that its tale has for them.
use Rattle.std.specs.Prelude.{⊤, List, Contains, Option, Some, None, Result, Ok, Err}
use Rattle.spent_store.specs.Books.{StoredBook}
use Rattle.spent_store.specs.declared.faults.ClaimFault.{ClaimFault}
use Rattle.spent_store.specs.declared.faults.ClaimFault.TheVariants as claim
use Rattle.spent_store.specs.declared.faults.Objection.{Objection}
use Rattle.spent_store.specs.declared.faults.Objection.TheVariants as objection
use Rattle.spent_store.specs.declared.faults.OpenStore.{OpenStore}
use Rattle.spent_store.specs.declared.faults.OpenStore.TheVariants as open_store
use Rattle.spent_store.specs.declared.faults.RetireFault.{RetireFault}
use Rattle.spent_store.specs.declared.faults.RetireFault.TheVariants as retire
use Rattle.sphinx_unwrap.specs.declared.faults.Refused.{Refused}
use Rattle.sphinx_unwrap.specs.declared.faults.UnwrapFault.{UnwrapFault}
use Rattle.sphinx_unwrap.specs.declared.faults.UnwrapFault.TheVariants as unwrapping
use Rattle.mix_shard.specs.declared.entries.Answer.{Answer}
use Rattle.mix_shard.specs.declared.entries.Answer.TheVariants.{Taken, Retired, Spent, ShardFull, RootFull, Disk, Journal}
use Rattle.mix_shard.specs.declared.faults.Denied.{Denied}
use Rattle.mix_shard.specs.declared.faults.Denied.TheVariants as denied
use Rattle.mix_shard.specs.declared.faults.PeelFault.{PeelFault}
use Rattle.mix_shard.specs.declared.faults.PeelFault.TheVariants as peel
use Rattle.mix_shard.specs.declared.faults.RotateFault.{RotateFault}
use Rattle.mix_shard.specs.declared.faults.RotateFault.TheVariants as rotate

-- ---- unwrapping

-- a fault of unwrapping, as one of `peel`
abbrev pub of_unwrapping : UnwrapFault → PeelFault
of_unwrapping (unwrapping.Refused why) = peel.Refused why
of_unwrapping unwrapping.Memory = peel.Memory

-- a fact on the cause of a refusal; want of memory has none
abbrev pub IfRefused : PeelFault → (Refused → Type 0) → Type 0
IfRefused (peel.Refused why) fact = fact why
IfRefused peel.Memory fact = ⊤

-- ---- the store's faults, as those of a shard

abbrev pub of_claim : ClaimFault → Denied
of_claim (claim.Retired floor) = denied.Retired floor
of_claim claim.Spent = denied.Spent
of_claim claim.ShardFull = denied.ShardFull
of_claim claim.Failed = denied.Disk

abbrev pub denied_opening : OpenStore → Denied
denied_opening (open_store.Foreign area at) = denied.Journal (open_store.Foreign area at)
denied_opening (open_store.OtherShape stored) = denied.Journal (open_store.OtherShape stored)
denied_opening open_store.Failed = denied.Disk
denied_opening open_store.Memory = denied.Memory

abbrev pub of_retirement : RetireFault → RotateFault
of_retirement retire.RootFull = rotate.RootFull
of_retirement retire.Failed = rotate.Disk

abbrev pub rotate_opening : OpenStore → RotateFault
rotate_opening (open_store.Foreign area at) = rotate.Journal (open_store.Foreign area at)
rotate_opening (open_store.OtherShape stored) = rotate.Journal (open_store.OtherShape stored)
rotate_opening open_store.Failed = rotate.Disk
rotate_opening open_store.Memory = rotate.Memory

-- ---- a call's answer, as its entry has it; want of memory has none

abbrev pub admit_answer : Result (Unit {0}) Denied → Option Answer
admit_answer (Ok _) = Some Taken
admit_answer (Err (denied.Retired floor)) = Some (Retired floor)
admit_answer (Err denied.Spent) = Some Spent
admit_answer (Err denied.ShardFull) = Some ShardFull
admit_answer (Err denied.Disk) = Some Disk
admit_answer (Err (denied.Journal why)) = Some Journal
admit_answer (Err denied.Memory) = None

abbrev pub rotate_answer : Result (Unit {0}) RotateFault → Option Answer
rotate_answer (Ok _) = Some Taken
rotate_answer (Err rotate.RootFull) = Some RootFull
rotate_answer (Err rotate.Disk) = Some Disk
rotate_answer (Err (rotate.Journal why)) = Some Journal
rotate_answer (Err rotate.Memory) = None

-- of a journal that wasn't opened
abbrev pub hindrance : OpenStore → Option Answer
hindrance (open_store.Foreign area at) = Some Journal
hindrance (open_store.OtherShape stored) = Some Journal
hindrance open_store.Failed = Some Disk
hindrance open_store.Memory = None

-- ---- what a refused opening objects to

-- a fact on the cause of a refused opening, of a claim's or of a rotation's
abbrev pub OfOpening : Denied → (OpenStore → Type 0) → Type 0
OfOpening (denied.Journal why) fact = fact why
OfOpening (denied.Retired floor) fact = ⊤
OfOpening denied.Spent fact = ⊤
OfOpening denied.ShardFull fact = ⊤
OfOpening denied.Disk fact = ⊤
OfOpening denied.Memory fact = ⊤

abbrev pub OfReopening : RotateFault → (OpenStore → Type 0) → Type 0
OfReopening (rotate.Journal why) fact = fact why
OfReopening rotate.RootFull fact = ⊤
OfReopening rotate.Disk fact = ⊤
OfReopening rotate.Memory fact = ⊤

-- among these books there is what is objected to; a failure and want of memory object to nothing
abbrev pub ObjectsAmong : List (Result StoredBook Objection) → OpenStore → Type 0
ObjectsAmong books (open_store.Foreign area at) = Contains books (Err (objection.Foreign area at))
ObjectsAmong books (open_store.OtherShape stored) = Contains books (Err (objection.OtherShape stored))
ObjectsAmong books open_store.Failed = ⊤
ObjectsAmong books open_store.Memory = ⊤

-- an answer that objects says to what: it is never that the disk failed or that memory ran out
abbrev pub IsObjection : OpenStore → Type 0
IsObjection (open_store.Foreign area at) = ⊤
IsObjection (open_store.OtherShape stored) = ⊤
IsObjection open_store.Failed = ⊥
IsObjection open_store.Memory = ⊥
