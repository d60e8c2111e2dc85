-- The entries of a tale, and what the store's answers are called in them.
use Rattle.std.specs.Prelude.{ℕ, Bool, true, false, List, Option, option_map, Result, Ok, Err}
use Rattle.std.specs.List.{list_any}
use Rattle.spent_store.specs.declared.faults.ClaimFault.{ClaimFault}
use Rattle.spent_store.specs.declared.faults.ClaimFault.TheVariants as claim
use Rattle.spent_store.specs.declared.faults.RetireFault.{RetireFault}
use Rattle.spent_store.specs.declared.faults.RetireFault.TheVariants as retire
use Rattle.mix_shard.specs.declared.entries.Answer.{Answer}
use Rattle.mix_shard.specs.declared.entries.Answer.TheVariants.{Taken, Retired, Spent, ShardFull, RootFull, Disk}
use Rattle.mix_shard.specs.declared.entries.Entry.{Entry}
use Rattle.mix_shard.specs.declared.entries.Entry.TheVariants.{Claim, Take, Rotate, Done, Reopened}
use Rattle.mix_shard.specs.declared.entries.Told.{Told}

-- the packet that stands beside an entry
abbrev pub packet_of : Told → Option (List ℕ)
packet_of told = option_map (λ packet. packet.value) told.packet

-- the caller of an entry
abbrev pub caller_of : Entry → ℕ
caller_of (Claim caller number epoch tag at answer) = caller
caller_of (Take caller number dest moment) = caller
caller_of (Rotate caller moment answer) = caller
caller_of (Done caller) = caller
caller_of (Reopened caller floor spent) = caller

-- the store's answer to a claim, and to a retirement
abbrev pub claim_answer : Result (Unit {0}) ClaimFault → Answer
claim_answer (Ok _) = Taken
claim_answer (Err (claim.Retired floor)) = Retired floor
claim_answer (Err claim.Spent) = Spent
claim_answer (Err claim.ShardFull) = ShardFull
claim_answer (Err claim.Failed) = Disk

abbrev pub retire_answer : Result (Unit {0}) RetireFault → Answer
retire_answer (Ok _) = Taken
retire_answer (Err retire.RootFull) = RootFull
retire_answer (Err retire.Failed) = Disk

-- the entry with another answer, where it has one
abbrev pub with_answer : Answer → Entry → Entry
with_answer answer (Claim caller number epoch tag at other) = Claim caller number epoch tag at answer
with_answer answer (Rotate caller moment other) = Rotate caller moment answer
with_answer answer (Take caller number dest moment) = Take caller number dest moment
with_answer answer (Done caller) = Done caller
with_answer answer (Reopened caller floor spent) = Reopened caller floor spent

-- the journal was opened by this entry
abbrev pub opens_by : Entry → Bool
opens_by (Reopened caller floor spent) = true
opens_by _ = false

abbrev pub is_opening : Told → Bool
is_opening told = opens_by told.entry

-- the journal was opened by one of these
abbrev pub has_opened : List Told → Bool
has_opened tale = list_any is_opening tale

-- how many of these the disk failed in
abbrev pub is_disk : Answer → Bool
is_disk Disk = true
is_disk _ = false

abbrev pub was_disk : Entry → Bool
was_disk (Claim caller number epoch tag at answer) = is_disk answer
was_disk (Rotate caller moment answer) = is_disk answer
was_disk _ = false
