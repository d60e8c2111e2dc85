-- What the callers of a node share, and what each has at first.
use Rattle.std.specs.Prelude.{◌≡◌, ◌<◌, ℕ, false, All, List, [], length, map}
use Rattle.atomic_table.specs.Seated.{TableId}
use Rattle.mix_shard.specs.declared.entries.Told.{Told}
use Rattle.mix_shard.specs.declared.setup.Setup.{Setup}
use Rattle.turn_lock.specs.Seen.{Caller, Lock, new_pass}
use Rattle.node_actors.specs.Calls.{HoldsNothing, has_ended, terms_in}
use Rattle.node_actors.specs.Fates.{DealerState}
use Rattle.node_actors.specs.Seats.{SeatState}
use Rattle.node_actors.specs.Takings.{TakerState}

-- the locks of the node's shards, the queues of its workers, what it unwraps packets under, and how many callers it has
pub record HallState : Type 0 where
  pub locks : List (Lock Told)
  pub queues : List TableId
  pub setup : Setup
  pub callers : ℕ

abbrev pub hall_with : List (Lock Told) → List TableId → Setup → ℕ → HallState
hall_with locks queues setup callers = record { locks = locks; queues = queues; setup = setup; callers = callers }

-- a lock of this hall: its shard has the hall's setup and callers; when the lock was made nothing was held, and no caller had ended
pub record IsHallLock (hall : HallState) (lock : Lock Told) : Type 0 where
  pub many : lock.callers ≡ hall.callers
  pub setup_is : (terms_in lock.origin).setup ≡ hall.setup
  pub callers_are : (terms_in lock.origin).callers ≡ hall.callers
  pub nothing_held : HoldsNothing lock.story
  pub nobody_ended : (caller : ℕ) → caller < hall.callers → has_ended caller lock.story ≡ false

-- there is a shard, and each lock is one of this hall
pub record IsHall (hall : HallState) : Type 0 where
  pub some : 0 < length hall.locks
  pub each : All (IsHallLock hall) hall.locks

-- a caller's pass to each shard, as the locks were made
abbrev pub fresh_passes : List (Lock Told) → ℕ → List (Caller Told)
fresh_passes locks caller = map (λ lock. new_pass lock caller) locks

-- its seat at first
abbrev pub fresh_seat : HallState → ℕ → SeatState
fresh_seat hall caller = record { locks = hall.locks; setup = hall.setup; caller = caller; passes = fresh_passes hall.locks caller }

-- a caller that has dealt with nothing yet
abbrev pub fresh_dealer : HallState → ℕ → DealerState
fresh_dealer hall caller = record { seat = fresh_seat hall caller; log = []; dropped = 0 }

-- a caller that has taken nothing yet
abbrev pub fresh_taker : HallState → ℕ → TakerState
fresh_taker hall caller = record { seat = fresh_seat hall caller; log = []; unsent = 0 }
