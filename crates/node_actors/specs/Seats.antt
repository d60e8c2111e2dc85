-- A caller's seat at a node: a pass to each of the shards.
use Rattle.std.specs.Prelude.{◌≡◌, ◌<◌, ⊤, ℕ, false, All, List, [], length, Some, slice_get, slice_set}
use Rattle.mix_shard.specs.declared.entries.Entry.{Entry}
use Rattle.mix_shard.specs.declared.entries.Entry.TheVariants.{Claim, Take, Rotate, Done, Reopened}
use Rattle.mix_shard.specs.declared.entries.Told.{Told}
use Rattle.mix_shard.specs.declared.setup.Setup.{Setup}
use Rattle.turn_lock.specs.Seen.{Caller, IsIdle, Lock}
use Rattle.turn_lock.specs.Stories.{Begins}
use Rattle.node_actors.specs.Calls.{HoldsNothing, IsSpent, claims, has_ended, takes, terms_in}
use Rattle.node_actors.specs.Turns.{TakesTurn}

-- the shards' locks, what they unwrap packets under, the caller's number, and its pass to each of the shards
pub record SeatState : Type 0 where
  pub locks : List (Lock Told)
  pub setup : Setup
  pub caller : ℕ
  pub passes : List (Caller Told)

-- the shard behind a lock has this setup, this number is one of its callers, and nothing was held when the lock was made
pub record IsOver (setup : Setup) (caller : ℕ) (lock : Lock Told) : Type 0 where
  pub setup_is : (terms_in lock.origin).setup ≡ setup
  pub caller_is : caller < (terms_in lock.origin).callers
  pub nothing_held : HoldsNothing lock.story

-- the caller has a pass to each shard, which has seen the shard's story since its lock was made, and holds none of them
pub record IsSeated (seat : SeatState) : Type 0 where
  pub many : length seat.passes ≡ length seat.locks
  pub idle : (i : ℕ) (lock : Lock Told) (pass : Caller Told) → slice_get seat.locks i ≡ Some lock → slice_get seat.passes i ≡ Some pass
      → IsIdle lock seat.caller pass
  pub saw : (i : ℕ) (lock : Lock Told) (pass : Caller Told) → slice_get seat.locks i ≡ Some lock → slice_get seat.passes i ≡ Some pass
      → Begins lock.story pass.seen
  pub over : (i : ℕ) (lock : Lock Told) → slice_get seat.locks i ≡ Some lock → IsOver seat.setup seat.caller lock

-- the caller hasn't ended at any shard
abbrev pub IsOpen : SeatState → Type 0
IsOpen seat = (i : ℕ) (pass : Caller Told) → slice_get seat.passes i ≡ Some pass → has_ended seat.caller pass.seen ≡ false

-- one turn was taken at the shard of this number
pub record ActsAt (i : ℕ) (Own : List Told → Type 0) (old new : SeatState) : Type 0 where
  pub lock : Lock Told
  pub pass : Caller Told
  pub given : Caller Told
  pub lock_is : slice_get old.locks i ≡ Some lock
  pub pass_is : slice_get old.passes i ≡ Some pass
  pub turn : TakesTurn lock old.caller Own pass given
  pub new_is : new ≡ record old { passes = slice_set old.passes i given }

-- the seat is the same but for what its passes have seen and made
abbrev pub IsSameSeat : SeatState → SeatState → Type 0
IsSameSeat old new = new ≡ record old { passes = new.passes }

-- when the caller last had each shard, everyone who may claim had ended there, and nothing was held
abbrev pub AllSpent : SeatState → Type 0
AllSpent seat =
    (i : ℕ) (lock : Lock Told) (pass : Caller Told) → slice_get seat.locks i ≡ Some lock → slice_get seat.passes i ≡ Some pass
    → IsSpent (terms_in lock.origin).callers pass.seen

-- at each shard the caller's claims are the same
abbrev pub MakeSameClaims : SeatState → SeatState → Type 0
MakeSameClaims old new =
    (i : ℕ) (pass given : Caller Told) → slice_get old.passes i ≡ Some pass → slice_get new.passes i ≡ Some given → claims given.made ≡ claims pass.made

-- the seat is the same but for what its passes have seen and made, and nothing was claimed
pub record ClaimsNothing (old new : SeatState) : Type 0 where
  pub same : IsSameSeat old new
  pub many : length new.passes ≡ length old.passes
  pub claims_are : MakeSameClaims old new

-- the caller has done nothing at any shard
abbrev pub HasMadeNothing : SeatState → Type 0
HasMadeNothing seat = (i : ℕ) (pass : Caller Told) → slice_get seat.passes i ≡ Some pass → pass.made ≡ []

-- the caller has taken nothing out at any shard
abbrev pub HasTakenNothing : SeatState → Type 0
HasTakenNothing seat = (i : ℕ) (pass : Caller Told) → slice_get seat.passes i ≡ Some pass → takes pass.made ≡ []

-- the moment of a taking or of a rotation is one of these
abbrev pub IsMomentOf : (ℕ → Type 0) → Entry → Type 0
IsMomentOf may (Claim caller number epoch tag at answer) = ⊤
IsMomentOf may (Take caller number dest moment) = may moment
IsMomentOf may (Rotate caller moment answer) = may moment
IsMomentOf may (Done caller) = ⊤
IsMomentOf may (Reopened caller floor pairs) = ⊤

-- at each shard the caller took and rotated at such moments, and at no others
abbrev pub MovesAt : (ℕ → Type 0) → List (Caller Told) → Type 0
MovesAt may passes = (i : ℕ) (pass : Caller Told) → slice_get passes i ≡ Some pass → All (λ told. IsMomentOf may told.entry) pass.made

-- at no shard has the caller taken or rotated anything
abbrev pub MovesNothing : List (Caller Told) → Type 0
MovesNothing passes = MovesAt (λ moment. ⊥) passes
