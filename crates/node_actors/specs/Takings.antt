-- The take log of a connector: what it took out of each shard, in its order, and whether that was handed on.
use Rattle.std.specs.Prelude.{◌≡◌, ℕ, ◌-◌, ◌^◌, ◌==◌, Bool, true, false, not, List, [], ◌∷◌, All, Contains, Some, count_by, flat_map, if◌then◌else◌, min, slice_get}
use Rattle.std.specs.List.{AllZip}
use Rattle.mix_base.specs.Suites.{SuiteMeaning}
use Rattle.mix_shard.specs.Entries.{packet_of}
use Rattle.mix_shard.specs.Items.{Item, IsHeld, destination}
use Rattle.mix_shard.specs.declared.entries.Answer.TheVariants.{Taken}
use Rattle.mix_shard.specs.declared.entries.Entry.TheVariants as entry
use Rattle.mix_shard.specs.declared.entries.Told.{Told}
use Rattle.turn_lock.specs.Seen.{Caller, Lock}
use Rattle.turn_lock.specs.Stories.{after}
use Rattle.node_actors.specs.Calls.{takes}
use Rattle.node_actors.specs.Seats.{SeatState}
use Rattle.node_actors.specs.declared.actors.takings.Taking.{Taking}

-- one for a packet that wasn't handed on
abbrev pub not_sent : Bool → ℕ
not_sent true = 0
not_sent false = 1

-- how many weren't handed on
abbrev pub unsent_in : List (Taking Item) → ℕ
unsent_in log = count_by (λ taking. not taking.sent) log

-- the item that was taken, where that was at this shard
abbrev pub taken_by : ℕ → Taking Item → List Item
taken_by i taking = if taking.shard == i then taking.item.value ∷ [] else []

-- the items of a log that were taken at a shard, in their order
abbrev pub taken_at : ℕ → List (Taking Item) → List Item
taken_at i log = flat_map (taken_by i) log

-- the entry is a taking of this item by the caller, for the item's own destination
pub record IsTakeOf (caller : ℕ) (item : Item) (told : Told) : Type 0 where
  pub moment : ℕ
  pub entry_is : told.entry ≡ entry.Take caller item.number (destination item.out) moment

-- the entry accepted a claim of this item by some caller, with the item's packet beside it
pub record IsAcceptanceOf (item : Item) (told : Told) : Type 0 where
  pub caller : ℕ
  pub entry_is : told.entry ≡ entry.Claim caller item.number item.epoch item.tag item.at Taken
  pub packet_is : packet_of told ≡ Some item.packet

-- one of these entries did
abbrev pub WasAccepted : List Told → Item → Type 0
WasAccepted tale item = (told : Told) × Contains tale told × IsAcceptanceOf item told

-- it was taken out of one of the shards, which had accepted it since its lock was made
pub record IsFromShard (seat : SeatState) (taking : Taking Item) : Type 0 where
  pub lock : Lock Told
  pub pass : Caller Told
  pub lock_is : slice_get seat.locks taking.shard ≡ Some lock
  pub pass_is : slice_get seat.passes taking.shard ≡ Some pass
  pub accepted : WasAccepted (after lock.story pass.seen) taking.item.value

-- at each shard the caller's takings are those of its log, one for one and in its order
abbrev pub TakesAsLogged : SeatState → List (Taking Item) → Type 0
TakesAsLogged seat log =
    (i : ℕ) (pass : Caller Told) → slice_get seat.passes i ≡ Some pass → AllZip (IsTakeOf seat.caller) (taken_at i log) (takes pass.made)

-- who takes: its seat, its take log, and how many it has counted that it didn't hand on
pub record TakerState : Type 0 where
  pub seat : SeatState
  pub log : List (Taking Item)
  pub unsent : ℕ

-- what it has done so far: each item was accepted where it was taken out, and is what the keys live at its receipt made of its
-- packet
pub record HasTaken (suite : SuiteMeaning) (taker : TakerState) : Type 0 where
  pub takes_are : TakesAsLogged taker.seat taker.log
  pub origins : All (IsFromShard taker.seat) taker.log
  pub setups : All (λ taking. taking.item.value.setup ≡ taker.seat.setup) taker.log
  pub items : All (λ taking. IsHeld suite taking.item.value) taker.log
  pub count : taker.unsent ≡ min (unsent_in taker.log) (2 ^ 64 - 1)
