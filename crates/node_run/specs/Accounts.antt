-- What the callers of a node left, read as lists; and what was told of each shard since its lock was made.
use Rattle.std.specs.Prelude.{ℕ, List, [], ◌∷◌, map}
use Rattle.mix_shard.specs.Entries.{caller_of}
use Rattle.mix_shard.specs.Shards.{ShardState}
use Rattle.mix_shard.specs.declared.entries.Told.{Told}
use Rattle.turn_lock.specs.Seen.{Lock}
use Rattle.turn_lock.specs.Stories.{after, entries_by}
use Rattle.node_actors.specs.declared.actors.fates.Dealt.{Dealt}
use Rattle.node_actors.specs.declared.actors.listening.Taken.{Taken}
use Rattle.node_actors.specs.declared.actors.takings.Taking.{Taking}
use Rattle.node_actors.specs.declared.actors.works.Left.{Left}
use Rattle.node_actors.specs.declared.actors.works.Work.{Work}
use Rattle.node_actors.specs.declared.actors.works.Work.TheVariants.{Listened, Worked, Connected, Kept, Rotated, Ended, Fed}

module _ {P N O : Type 0} where
  -- the packets that it dealt with, and what became of each
  abbrev pub fates_of : Work P N O → List (Dealt P)
  fates_of (Listened link log dropped senders course ending) = log.items
  fates_of (Worked receiver log dropped) = log.items
  fates_of (Connected hop link log unsent) = []
  fates_of (Kept local log unsent) = []
  fates_of Rotated = []
  fates_of Ended = []
  fates_of (Fed link) = []

  -- how many packets it counted as dropped
  abbrev pub dropped_of : Work P N O → ℕ
  dropped_of (Listened link log dropped senders course ending) = dropped
  dropped_of (Worked receiver log dropped) = dropped
  dropped_of (Connected hop link log unsent) = 0
  dropped_of (Kept local log unsent) = 0
  dropped_of Rotated = 0
  dropped_of Ended = 0
  dropped_of (Fed link) = 0

  -- the packets that it took from its link
  abbrev pub course_of : Work P N O → List Taken
  course_of (Listened link log dropped senders course ending) = course.items
  course_of (Worked receiver log dropped) = []
  course_of (Connected hop link log unsent) = []
  course_of (Kept local log unsent) = []
  course_of Rotated = []
  course_of Ended = []
  course_of (Fed link) = []

  -- the packets that it took out of the shards, and whether it handed each on
  abbrev pub takings_of : Work P N O → List (Taking P)
  takings_of (Listened link log dropped senders course ending) = []
  takings_of (Worked receiver log dropped) = []
  takings_of (Connected hop link log unsent) = log.items
  takings_of (Kept local log unsent) = log.items
  takings_of Rotated = []
  takings_of Ended = []
  takings_of (Fed link) = []

  -- how many of them it counted that it didn't hand on
  abbrev pub unsent_of : Work P N O → ℕ
  unsent_of (Listened link log dropped senders course ending) = 0
  unsent_of (Worked receiver log dropped) = 0
  unsent_of (Connected hop link log unsent) = unsent
  unsent_of (Kept local log unsent) = unsent
  unsent_of Rotated = 0
  unsent_of Ended = 0
  unsent_of (Fed link) = 0

  -- each caller's passes
  abbrev pub hands_of : {Q : Type 0} → List (Left Q P N O) → List (List Q)
  hands_of lefts = map (λ gave. gave.passes.items) lefts

-- what was told of each shard since its lock was made
abbrev pub tales_since : List (Lock Told) → List ShardState → List (List Told)
tales_since [] shards = []
tales_since (lock ∷ locks) [] = []
tales_since (lock ∷ locks) (shard ∷ shards) = after lock.story shard.told ∷ tales_since locks shards

-- what a caller did, of a tale
abbrev pub calls_of : ℕ → List Told → List Told
calls_of caller tale = entries_by (λ told. caller_of told.entry) caller tale
