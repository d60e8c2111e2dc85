-- What a script asks of a node, act by act. Each act is one call of the node, and gives at most one line of the report: a
-- line that is for each shard in order is an act for each.
use Rattle.std.specs.Prelude.{ℕ, zero, suc, List, [], ◌∷◌}
use Rattle.std.specs.List.{flat_map}
use Rattle.lab_text.specs.declared.events.Event.{Event}
use Rattle.lab_text.specs.declared.events.Event.TheVariants.{Recv, Peel, Claim, Send, Rotate, Arm, Crash, Skip}

pub data Act : Type 0 where
  -- a shard's journal is opened: at the node line, and again after a crash
  Opens : (shard : ℕ) → Act
  Reopens : (shard : ℕ) → Act
  -- a packet arrives; a worker unwraps the oldest arrival; a worker claims its packet's tag; a packet is handed on
  Receives : (moment : ℕ) → (packet : List ℕ) → Act
  Peels : (worker : ℕ) → Act
  Claims : (worker : ℕ) → Act
  Sends : (moment : ℕ) → Act
  -- a shard retires the epochs below the least one that is live at a moment
  Rotates : (moment : ℕ) → (shard : ℕ) → Act
  -- a shard's disk is to fail from a call on; every disk crashes
  Arms : (shard : ℕ) → (calls : ℕ) → Act
  Crashes : (pick : ℕ) → Act

-- an act of each of so many shards, in their order, from one on
abbrev pub of_each : (ℕ → Act) → ℕ → ℕ → List Act
of_each act shard zero = []
of_each act shard (suc others) = act shard ∷ of_each act (suc shard) others

-- the acts of a node line, and of each line behind it, in a node of so many shards
abbrev pub first_acts : ℕ → List Act
first_acts shards = of_each Opens 0 shards

abbrev pub acts_of : ℕ → Event → List Act
acts_of shards (Recv moment packet) = Receives moment packet ∷ []
acts_of shards (Peel worker) = Peels worker ∷ []
acts_of shards (Claim worker) = Claims worker ∷ []
acts_of shards (Send moment) = Sends moment ∷ []
acts_of shards (Rotate moment) = of_each (Rotates moment) 0 shards
acts_of shards (Arm shard calls) = Arms shard calls ∷ []
acts_of shards (Crash pick) = Crashes pick ∷ of_each Reopens 0 shards
acts_of shards Skip = []

-- those of events, each with the number of its line
abbrev pub acts_of_all : ℕ → List (ℕ × Event) → List Act
acts_of_all shards events = flat_map (λ event. acts_of shards event.1) events
