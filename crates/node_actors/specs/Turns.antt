-- What one turn of a caller at a shard leaves of its pass.
use Rattle.std.specs.Prelude.{◌≡◌, ◌||◌, ℕ, List, ◌++◌, Option}
use Rattle.mix_shard.specs.Shards.{IsOpeningBy, IsRotateEntry}
use Rattle.mix_shard.specs.declared.entries.Answer.{Answer}
use Rattle.mix_shard.specs.declared.entries.Told.{Told}
use Rattle.turn_lock.specs.Seen.{Caller, IsIdle, Lock}
use Rattle.turn_lock.specs.Stories.{Begins}
use Rattle.node_actors.specs.Calls.{has_ended}

-- the caller made its own entries, and before them perhaps opened the journal; then it gave the shard back
pub record TakesTurn (lock : Lock Told) (caller : ℕ) (Own : List Told → Type 0) (old new : Caller Told) : Type 0 where
  pub idle : IsIdle lock caller new
  pub opening : List Told
  pub by_caller : IsOpeningBy caller opening
  pub own : List Told
  pub own_is : Own own
  pub made : new.made ≡ old.made ++ (opening ++ own)
  pub saw : Begins old.seen new.seen
  pub ended : has_ended caller new.seen ≡ (has_ended caller own || has_ended caller old.seen)

-- the entry of a rotation at a moment, or none
abbrev pub IsRotatedAt : ℕ → ℕ → List Told → Type 0
IsRotatedAt caller moment own = (answer : Option Answer) × IsRotateEntry caller moment answer own
