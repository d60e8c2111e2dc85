-- A shard once its lock was closed: its story since the lock was made, by what each caller's pass had made.
use Rattle.std.specs.Prelude.{◌≡◌, ◌<◌, ⊤, ℕ, All, List, [], ◌∷◌, ◌++◌, Some, length, slice_get, vec_capacity}
use Rattle.std.specs.Global.{Vec}
use Rattle.mix_base.specs.Suites.{SuiteMeaning}
use Rattle.mix_shard.specs.Entries.{caller_of}
use Rattle.mix_shard.specs.Origins.{origin_of}
use Rattle.mix_shard.specs.Shards.{IsKept, ShardState}
use Rattle.mix_shard.specs.declared.entries.Told.{Told}
use Rattle.turn_lock.specs.Seen.{Caller, IsIdle, Lock}
use Rattle.turn_lock.specs.Stories.{Begins, entries_by}

-- each caller's passes, one to each lock, and none holds a shard
pub record AreHands (locks : List (Lock Told)) (hands : List (List (Caller Told))) : Type 0 where
  pub many : (c : ℕ) (hand : List (Caller Told)) → slice_get hands c ≡ Some hand → length hand ≡ length locks
  pub callers : (i : ℕ) (lock : Lock Told) → slice_get locks i ≡ Some lock → lock.callers ≡ length hands
  pub idle : (c i : ℕ) (hand : List (Caller Told)) (lock : Lock Told) (pass : Caller Told)
      → slice_get hands c ≡ Some hand → slice_get locks i ≡ Some lock → slice_get hand i ≡ Some pass → IsIdle lock c pass

-- shard i behind its lock: it began as the value that the lock was made with, and since then each caller's entries are those
-- that its pass made, each once and in its order, and there are no others
pub record IsClosed (lock : Lock Told) (hands : List (List (Caller Told))) (i : ℕ) (shard : ShardState) : Type 0 where
  pub origin : origin_of shard ≡ lock.origin
  pub since : List Told
  pub told : shard.told ≡ lock.story ++ since
  pub calls : (c : ℕ) (hand : List (Caller Told)) (pass : Caller Told) → slice_get hands c ≡ Some hand → slice_get hand i ≡ Some pass
      → entries_by (λ told. caller_of told.entry) c since ≡ pass.made
  pub seen : (c : ℕ) (hand : List (Caller Told)) (pass : Caller Told) → slice_get hands c ≡ Some hand → slice_get hand i ≡ Some pass
      → Begins pass.seen shard.told
  pub others : All (λ told. caller_of told.entry < lock.callers) since

-- the shards behind these locks, in their order
pub record AreClosed (locks : List (Lock Told)) (hands : List (List (Caller Told))) (shards : List ShardState) : Type 0 where
  pub many : length shards ≡ length locks
  pub each : (i : ℕ) (lock : Lock Told) (shard : ShardState) → slice_get locks i ≡ Some lock → slice_get shards i ≡ Some shard → IsClosed lock hands i shard

-- ---- on the way there: the passes by lock

module _ {Q : Type 0} where
  -- pass i of each hand, in the hands' order
  pub record IsColumn (i : ℕ) (hands : List (List Q)) (passes : List Q) : Type 0 where
    pub many : length passes ≡ length hands
    pub each : (c : ℕ) (hand : List Q) (pass : Q) → slice_get hands c ≡ Some hand → slice_get hand i ≡ Some pass → slice_get passes c ≡ Some pass

  -- list i has pass i of each hand
  abbrev pub AreColumns : List (List Q) → List (Vec Q) → Type 0
  AreColumns hands lists = (i : ℕ) (list : Vec Q) → slice_get lists i ≡ Some list → IsColumn i hands list.items

  -- a pass more in the same room
  abbrev pub GetsPass : Vec Q → Q → Vec Q → Type 0
  GetsPass old pass new = (new.items ≡ old.items ++ pass ∷ []) × (vec_capacity new ≡ vec_capacity old)

  -- each list has one of these passes more
  pub record ArePut (passes : List Q) (old new : List (Vec Q)) : Type 0 where
    pub many : length new ≡ length old
    pub each : (i : ℕ) (was is : Vec Q) (pass : Q) → slice_get old i ≡ Some was → slice_get new i ≡ Some is → slice_get passes i ≡ Some pass → GetsPass was pass is

-- all passes to a lock, by caller, and none holds the shard
pub record ArePasses (lock : Lock Told) (passes : List (Caller Told)) : Type 0 where
  pub many : length passes ≡ lock.callers
  pub idle : (c : ℕ) (pass : Caller Told) → slice_get passes c ≡ Some pass → IsIdle lock c pass

-- the shard that was behind a lock with these passes: see IsClosed; and what its type keeps
pub record IsShut (tells : Type 0) (suite : SuiteMeaning) (lock : Lock Told) (passes : List (Caller Told)) (shard : ShardState) : Type 0 where
  pub origin : origin_of shard ≡ lock.origin
  pub since : List Told
  pub told : shard.told ≡ lock.story ++ since
  pub calls : (c : ℕ) (pass : Caller Told) → slice_get passes c ≡ Some pass → entries_by (λ told. caller_of told.entry) c since ≡ pass.made
  pub seen : (c : ℕ) (pass : Caller Told) → slice_get passes c ≡ Some pass → Begins pass.seen shard.told
  pub others : All (λ told. caller_of told.entry < lock.callers) since
  pub kept : IsKept tells suite shard

-- all passes to each lock
abbrev pub AreAllPasses : List (Lock Told) → List (Vec (Caller Told)) → Type 0
AreAllPasses [] [] = ⊤
AreAllPasses (lock ∷ locks) (passes ∷ lists) = ArePasses lock passes.items × AreAllPasses locks lists
AreAllPasses _ _ = ⊥

-- the shards that were behind these locks
abbrev pub AreShut : Type 0 → SuiteMeaning → List (Lock Told) → List (Vec (Caller Told)) → List ShardState → Type 0
AreShut tells suite [] [] [] = ⊤
AreShut tells suite (lock ∷ locks) (passes ∷ lists) (shard ∷ shards) = IsShut tells suite lock passes.items shard × AreShut tells suite locks lists shards
AreShut tells suite _ _ _ = ⊥
