-- The fate log of a caller: what became of each packet that it dealt with, and how its claims stand to the entries that it
-- made.
use Rattle.std.specs.Prelude.{◌≡◌, ◌⊎◌, ⊤, ℕ, ◌-◌, ◌^◌, ◌%◌, ◌==◌, Bool, true, false, List, [], ◌∷◌, ◌++◌, All, Option, Some, None, is_some, Ok, Err, count_by, length, min, slice_get, slice_index, if◌then◌else◌, flat_map}
use Rattle.std.specs.List.{AllZip}
use Rattle.mix_base.specs.Suites.{SuiteMeaning}
use Rattle.epoch_keys.specs.Epochs.{live_epochs}
use Rattle.epoch_keys.specs.Keys.{first_without_pair}
use Rattle.mix_shard.specs.Entries.{packet_of}
use Rattle.mix_shard.specs.Items.{Item, peeled}
use Rattle.mix_shard.specs.declared.entries.Answer.{Answer}
use Rattle.mix_shard.specs.declared.entries.Entry.TheVariants as entry
use Rattle.mix_shard.specs.declared.entries.Told.{Told}
use Rattle.mix_shard.specs.declared.setup.Setup.{Setup}
use Rattle.sphinx_unwrap.specs.declared.faults.Refused as causes
use Rattle.turn_lock.specs.Seen.{Caller}
use Rattle.node_actors.specs.Calls.{claims}
use Rattle.node_actors.specs.Seats.{ActsAt, SeatState}
use Rattle.node_actors.specs.declared.actors.fates.Fate.{Fate}
use Rattle.node_actors.specs.declared.actors.fates.Fate.TheVariants.{Claimed, Refused, Unkeyed, Dropped}
use Rattle.node_actors.specs.declared.actors.fates.Dealt.{Dealt}

-- the shard of a tag, of so many
abbrev pub shard_of : ℕ → List ℕ → ℕ
shard_of shards tag = slice_index tag 0 % shards

-- the item that was claimed, where it belongs to a shard
abbrev pub claimed_at : ℕ → ℕ → Fate Item → List Item
claimed_at shards i (Claimed item) = if shard_of shards item.value.tag == i then item.value ∷ [] else []
claimed_at shards i Refused = []
claimed_at shards i Unkeyed = []
claimed_at shards i Dropped = []

-- the items of a log that were claimed at a shard, in their order
abbrev pub items_at : ℕ → ℕ → List (Dealt Item) → List Item
items_at shards i log = flat_map (λ dealt. claimed_at shards i dealt.fate) log

-- the entry is a claim of this item by the caller, with its packet beside it
pub record IsClaimOf (caller : ℕ) (item : Item) (told : Told) : Type 0 where
  pub answer : Answer
  pub entry_is : told.entry ≡ entry.Claim caller item.number item.epoch item.tag item.at answer
  pub packet_is : packet_of told ≡ Some item.packet

-- a packet that was unwrapped: it is what the keys live at its receipt make of it
pub record IsUnwrapped (suite : SuiteMeaning) (setup : Setup) (number receipt : ℕ) (packet : List ℕ) (item : Item) : Type 0 where
  pub setup_is : item.setup ≡ setup
  pub opens : peeled suite setup number receipt packet ≡ Some (Ok item)

-- each fate has its cause: what was claimed is the packet unwrapped; what was refused, the keys live at its receipt refuse; and
-- where it was given up, a live epoch has no pair. Want of memory may come at any time
abbrev pub HasCause : SuiteMeaning → Setup → ℕ → ℕ → List ℕ → Fate Item → Type 0
HasCause suite setup number receipt packet (Claimed item) = IsUnwrapped suite setup number receipt packet item.value
HasCause suite setup number receipt packet Refused = (why : causes.Refused) × (peeled suite setup number receipt packet ≡ Some (Err why))
HasCause suite setup number receipt packet Unkeyed = (epoch : ℕ) × (first_without_pair suite.kem setup.seed (live_epochs setup.times receipt) ≡ Some epoch)
HasCause suite setup number receipt packet Dropped = ⊤

-- nothing was claimed
abbrev pub IsUnclaimed : Fate Item → Type 0
IsUnclaimed (Claimed item) = ⊥
IsUnclaimed Refused = ⊤
IsUnclaimed Unkeyed = ⊤
IsUnclaimed Dropped = ⊤

abbrev pub is_dropped : Fate Item → Bool
is_dropped Dropped = true
is_dropped _ = false

-- one for a dropped packet
abbrev pub dropped_by : Fate Item → ℕ
dropped_by fate = if is_dropped fate then 1 else 0

-- how many were dropped
abbrev pub dropped_in : List (Dealt Item) → ℕ
dropped_in log = count_by (λ dealt. is_dropped dealt.fate) log

-- who deals with packets: its seat, its fate log, and how many it has counted as dropped
pub record DealerState : Type 0 where
  pub seat : SeatState
  pub log : List (Dealt Item)
  pub dropped : ℕ

-- at each shard the caller's claims are those of its log, one for one and in its order
abbrev pub ClaimsAsLogged : SeatState → List (Dealt Item) → Type 0
ClaimsAsLogged seat log =
    (i : ℕ) (pass : Caller Told) → slice_get seat.passes i ≡ Some pass
    → AllZip (IsClaimOf seat.caller) (items_at (length seat.locks) i log) (claims pass.made)

-- what a dealer has done so far
pub record HasDealt (suite : SuiteMeaning) (dealer : DealerState) : Type 0 where
  pub claims_are : ClaimsAsLogged dealer.seat dealer.log
  pub causes : All (λ dealt. HasCause suite dealer.seat.setup dealt.number dealt.receipt dealt.packet.value.items dealt.fate) dealer.log
  pub count : dealer.dropped ≡ min (dropped_in dealer.log) (2 ^ 64 - 1)

-- what a fate means for the seat: the claim is the one entry that the caller made, at the shard of its tag; and where memory was
-- wanting, the shard may have been taken for nothing
abbrev pub Settles : Fate Item → SeatState → SeatState → Type 0
Settles (Claimed item) old new =
    ActsAt (shard_of (length old.locks) item.value.tag) (λ own. (told : Told) × (own ≡ told ∷ []) × IsClaimOf old.caller item.value told) old new
Settles Refused old new = new ≡ old
Settles Unkeyed old new = new ≡ old
Settles Dropped old new = (new ≡ old) ⊎ ((i : ℕ) × ActsAt i (λ own. own ≡ []) old new)

-- one record more, of this packet
pub record Notes (number receipt : ℕ) (packet : List ℕ) (old new : List (Dealt Item)) : Type 0 where
  pub dealt : Dealt Item
  pub log : new ≡ old ++ dealt ∷ []
  pub number_is : dealt.number ≡ number
  pub receipt_is : dealt.receipt ≡ receipt
  pub packet_is : dealt.packet.value.items ≡ packet

abbrev pub IfClaimed : Fate Item → (Item → Type 0) → Type 0
IfClaimed (Claimed item) fact = fact item.value
IfClaimed Refused fact = ⊤
IfClaimed Unkeyed fact = ⊤
IfClaimed Dropped fact = ⊤

-- an answer to a claim: memory was wanting where there is none
abbrev pub IsFateOf : {P : Type 0} → Option Answer → P → Fate P → Type 0
IsFateOf answer item (Claimed seen) = (seen.value ≡ item) × (is_some answer ≡ true)
IsFateOf answer item Dropped = answer ≡ None
IsFateOf answer item Refused = ⊥
IsFateOf answer item Unkeyed = ⊥

-- a packet that was admitted is claimed or dropped
abbrev pub NotRefused : Fate Item → Type 0
NotRefused (Claimed item) = ⊤
NotRefused Refused = ⊥
NotRefused Unkeyed = ⊥
NotRefused Dropped = ⊤
