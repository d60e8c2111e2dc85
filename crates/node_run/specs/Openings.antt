-- How a node is opened: what its shards must be like, what their locks keep of them, and the passes of each caller.
use Rattle.std.specs.Prelude.{◌≡◌, ◌<◌, ◌≤◌, ◌^◌, ◌+◌, ℕ, false, All, List, [], ◌∷◌, ◌++◌, length, map, Some, slice_get, Vec, vec_len, vec_capacity}
use Rattle.std.specs.declared.alloc.Global.{Global}
use Rattle.mix_shard.specs.Origins.{origin_of}
use Rattle.mix_shard.specs.Shards.{ShardState}
use Rattle.mix_shard.specs.declared.entries.Told.{Told}
use Rattle.mix_shard.specs.declared.setup.Setup.{Setup}
use Rattle.packet_form.specs.Geometry.{packet}
use Rattle.turn_lock.specs.Seen.{Caller, Lock, new_passes}
use Rattle.turn_lock.specs.declared.lock.MadeLock.{MadeLock}
use Rattle.node_actors.specs.Calls.{HoldsNothing, has_ended}
use Rattle.node_run.specs.Halls.{HallState, fresh_passes}
use Rattle.node_run.specs.Posts.{Plan, plan_for}
use Rattle.node_run.specs.Roles.{callers_for}

-- a shard for so many callers that holds nothing, and of which none is done
pub record IsUnused (callers : ℕ) (shard : ShardState) : Type 0 where
  pub callers_are : shard.terms.callers ≡ callers
  pub holds_nothing : shard.state.held ≡ []
  pub nobody_done : (caller : ℕ) → caller < callers → slice_get shard.state.done caller ≡ Some false

-- shard i of so many, under this setup
pub record IsShardAt (setup : Setup) (shards i : ℕ) (shard : ShardState) : Type 0 where
  pub shape_is : shard.terms.shape ≡ record { shards = shards; index = i }
  pub setup_is : shard.terms.setup ≡ setup

-- a node that can be opened with so many workers: its 1 to 16 shards, and how many links come in and go out
pub record CanOpen (setup : Setup) (shards : List ShardState) (listeners workers links : ℕ) : Type 0 where
  pub some : 0 < length shards
  pub few : length shards ≤ 16
  pub working : 0 < workers
  pub callers : callers_for listeners workers links < 2 ^ 32
  pub places : (i : ℕ) (shard : ShardState) → slice_get shards i ≡ Some shard → IsShardAt setup (length shards) i shard
  pub unused : All (IsUnused (callers_for listeners workers links)) shards

-- what a shard began as, and its tale; and the same of the shard behind a lock, as it was when the lock was made
abbrev pub tale_of : ShardState → List (List ℕ) × List Told
tale_of shard = (origin_of shard, shard.told)

abbrev pub tale_behind : Lock Told → List (List ℕ) × List Told
tale_behind lock = (lock.origin, lock.story)

-- a lock for so many callers: behind it nothing was held and nobody had ended
pub record IsQuiet (callers : ℕ) (lock : Lock Told) : Type 0 where
  pub many : lock.callers ≡ callers
  pub nothing_held : HoldsNothing lock.story
  pub nobody_ended : (caller : ℕ) → caller < callers → has_ended caller lock.story ≡ false

-- a lock that was just made, with a pass for each of its callers
abbrev pub HasAllPasses : {T : Type 0} → MadeLock T Told → Type 0
HasAllPasses made = made.passes.items ≡ new_passes made.lock made.lock.callers

pub record IsMade {T : Type 0} (callers : ℕ) (made : MadeLock T Told) : Type 0 where
  pub quiet : IsQuiet callers made.lock
  pub passes : HasAllPasses made

-- what the posts of this node are made for
abbrev pub plan_of : {N O : Type 0} → HallState → List N → List (List ℕ × O) → Plan N O
plan_of hall incoming outgoing = plan_for hall.queues (length hall.locks) (packet hall.setup.geometry) incoming outgoing

-- what the callers of an opened node share: the locks of its shards, in their order, and a queue for each worker
pub record IsHallOver (setup : Setup) (shards : List ShardState) (callers workers : ℕ) (hall : HallState) : Type 0 where
  pub setup_is : hall.setup ≡ setup
  pub callers_are : hall.callers ≡ callers
  pub tales : map tale_behind hall.locks ≡ map tale_of shards
  pub queues : length hall.queues ≡ workers

-- each caller's passes, one to each lock, as the locks were made
pub record AreFreshHands (locks : List (Lock Told)) (callers : ℕ) (hands : List (Vec (Caller Told) Global)) : Type 0 where
  pub many : length hands ≡ callers
  pub each : (caller : ℕ) (hand : Vec (Caller Told) Global) → slice_get hands caller ≡ Some hand → hand.items ≡ fresh_passes locks caller

-- a hand with one card more
pub record HasOneMore {A : Type 0} (card : A) (old new : Vec A Global) : Type 0 where
  pub items : new.items ≡ old.items ++ card ∷ []
  pub len : vec_len new ≡ vec_len old + 1
  pub room : vec_capacity new ≡ vec_capacity old

-- each hand has got the card of its place
pub record AreDealt {A : Type 0} (cards : List A) (old new : List (Vec A Global)) : Type 0 where
  pub many : length new ≡ length old
  pub each : (i : ℕ) (card : A) (was is : Vec A Global) → slice_get cards i ≡ Some card → slice_get old i ≡ Some was → slice_get new i ≡ Some is
      → HasOneMore card was is

-- so many empty hands, each with room for so many cards
pub record AreEmptyHands {A : Type 0} (many room : ℕ) (hands : List (Vec A Global)) : Type 0 where
  pub count : length hands ≡ many
  pub each : All (λ hand. (hand.items ≡ []) × (vec_len hand ≡ 0) × (room ≤ vec_capacity hand)) hands
