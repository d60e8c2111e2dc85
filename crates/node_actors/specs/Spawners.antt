-- What a spawner answers, and the state of one whose failing calls are listed.
use Rattle.std.specs.Prelude.{◌≡◌, ⊤, ℕ, ◌+◌, ◌-◌, ◌^◌, List, Result, Ok, Err, Contains, min}
use Rattle.node_actors.specs.declared.spawner.actors.NotRun.{NotRun}
use Rattle.node_actors.specs.declared.spawner.actors.NotRun.TheVariants.{Failed, Memory}

-- the actors that come back
abbrev pub actors_of : {A : Type 0} → NotRun A → List A
actors_of (Failed actors) = actors.items
actors_of (Memory actors) = actors.items

abbrev pub IsFailed : {A : Type 0} → NotRun A → Type 0
IsFailed (Failed actors) = ⊤
IsFailed (Memory actors) = ⊥

-- the call failed
abbrev pub HasFailed : {A B : Type 0} → Result B (NotRun A) → Type 0
HasFailed (Ok answers) = ⊥
HasFailed (Err not_run) = IsFailed not_run

-- a spawner of threads: the calls that fail, and how often it was called and has failed
pub record SpawnerState : Type 0 where
  pub failing : List ℕ
  pub calls : ℕ
  pub faults : ℕ

-- the number of the next call is listed
abbrev pub IsListed : SpawnerState → Type 0
IsListed spawner = Contains spawner.failing (min (spawner.calls + 1) (2 ^ 64 - 1))

-- one call more, and the same list
abbrev pub CountsCall : SpawnerState → SpawnerState → Type 0
CountsCall old new = (new.calls ≡ min (old.calls + 1) (2 ^ 64 - 1)) × (new.failing ≡ old.failing)
