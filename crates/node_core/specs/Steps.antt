-- What each event does to a node.
use Rattle.std.specs.Prelude.{◌≡◌, ⊤, ℕ, ◌+◌, ◌%◌, List, [], ◌∷◌, ◌++◌, Option, Some, None, option_map, Result, Ok, Err, Contains, slice_set, slice_index, slice_index_or, IfOk, IfErr, IsErrOf, IsPermutation}
use Rattle.mix_base.specs.Suites.{SuiteMeaning}
use Rattle.due_queue.specs.Queues.{IsFirstDue}
use Rattle.epoch_keys.specs.Epochs.{live_epochs}
use Rattle.epoch_keys.specs.Keys.{first_without_pair}
use Rattle.epoch_keys.specs.declared.faults.KeyFault.{KeyFault}
use Rattle.epoch_keys.specs.declared.faults.KeyFault.TheVariants as key_faults
use Rattle.mix_shard.specs.Faults.{IsObjection, OfOpening, OfReopening, admit_answer, rotate_answer}
use Rattle.mix_shard.specs.Items as items
use Rattle.mix_shard.specs.Items.{Item, whens, destination}
use Rattle.mix_shard.specs.Shards.{Adds, IsCharted, IsClaimEntry, IsCrash, IsEntry, IsReady, IsRotateEntry, ObjectsToBook, ObjectsToRack, OpensThroughout, OwesFor, RefusesOpening, ShardState, anew, armed_with, opening_calls, rack_book, through_claim, through_opening, through_rotation}
use Rattle.mix_shard.specs.declared.entries.Entry.TheVariants as entry
use Rattle.mix_shard.specs.declared.faults.Denied.{Denied}
use Rattle.mix_shard.specs.declared.faults.Denied.TheVariants as denied
use Rattle.mix_shard.specs.declared.faults.RotateFault.{RotateFault}
use Rattle.mix_shard.specs.declared.faults.RotateFault.TheVariants as rotate
use Rattle.mix_shard.specs.Laws.{KeepsCovered}
use Rattle.spent_store.specs.declared.faults.OpenStore.{OpenStore}
use Rattle.spent_store.specs.declared.faults.OpenStore.TheVariants as open_store
use Rattle.spent_store.specs.declared.summary.Book.{Book}
use Rattle.sphinx_unwrap.specs.declared.faults.Refused.{Refused}
use Rattle.node_core.specs.Nodes.{AtEachShard, AtShard, NodeState, all_held, no_packets, packets_setup}
use Rattle.node_core.specs.declared.answers.Claimed.{Claimed}
use Rattle.node_core.specs.declared.answers.Claimed.TheVariants as claimed
use Rattle.node_core.specs.declared.answers.NodePeel.{NodePeel}
use Rattle.node_core.specs.declared.answers.NodePeel.TheVariants as node_peel
use Rattle.node_core.specs.declared.answers.Peeled.{Peeled}
use Rattle.node_core.specs.declared.answers.Peeled.TheVariants as peels
use Rattle.node_core.specs.declared.arrivals.Arrival.{Arrival}
use Rattle.node_core.specs.declared.setup.NodeSetup.{NodeSetup}

-- ---- a packet arrives, and gets the next number

abbrev pub received : NodeState → ℕ → List ℕ → NodeState
received old moment packet = record old {
  next = old.next + 1;
  arrivals = old.arrivals ++ record { number = old.next; at = moment; packet = packet } ∷ [];
}

-- ---- a worker takes and unwraps the oldest arrival

-- what a worker holds
abbrev pub worker_at : NodeState → ℕ → Option Item
worker_at node worker = slice_index_or node.workers worker None

-- the worker holds the item, or the packet was refused
abbrev pub settled : NodeState → ℕ → ℕ → Result Item Refused → Peeled × NodeState
settled node worker number (Ok item) = (peels.Holding number, record node { workers = slice_set node.workers worker (Some item) })
settled node worker number (Err why) = (peels.Refused number why, node)

-- a worker that holds nothing, with what waits; nothing where an epoch that was live at the receipt has no pair
abbrev pub taken : SuiteMeaning → NodeState → ℕ → List Arrival → Option (Peeled × NodeState)
taken suite node worker [] = Some (peels.Idle, node)
taken suite node worker (arrival ∷ others) =
    option_map (settled (record node { arrivals = others }) worker arrival.number)
    (items.peeled suite (packets_setup node.setup) arrival.number arrival.at arrival.packet)

abbrev pub taken_by : SuiteMeaning → NodeState → ℕ → Option Item → Option (Peeled × NodeState)
taken_by suite node worker (Some item) = Some (peels.Busy, node)
taken_by suite node worker None = taken suite node worker node.arrivals

-- the worker's unwrapping: its answer and the node after it
abbrev pub peeled : SuiteMeaning → NodeState → ℕ → Option (Peeled × NodeState)
peeled suite node worker = taken_by suite node worker (worker_at node worker)

-- a fault of keys, as one of an unwrapping
abbrev pub of_keys : KeyFault → NodePeel
of_keys (key_faults.NoKey epoch) = node_peel.NoKey epoch
of_keys key_faults.Memory = node_peel.Memory

-- the epoch that a refusal names is the first of those live at the oldest arrival's receipt that has no pair
abbrev pub IsWithoutPair : SuiteMeaning → NodeSetup → List Arrival → ℕ → Type 0
IsWithoutPair suite setup [] epoch = ⊥
IsWithoutPair suite setup (arrival ∷ others) epoch =
    first_without_pair suite.kem setup.seed (live_epochs setup.times arrival.at) ≡ Some epoch

abbrev pub IfUnkeyed : NodePeel → (ℕ → Type 0) → Type 0
IfUnkeyed (node_peel.NoKey epoch) fact = fact epoch
IfUnkeyed node_peel.Memory fact = ⊤

abbrev pub NamesNoKey : SuiteMeaning → NodeState → NodePeel → Type 0
NamesNoKey suite node fault = IfUnkeyed fault (IsWithoutPair suite node.setup node.arrivals)

-- ---- a worker claims the tag of the packet that it holds

-- the shard that a tag belongs to
abbrev pub place_of : NodeSetup → List ℕ → ℕ
place_of setup tag = slice_index tag 0 % setup.shards

-- what a shard's call of a claim promises
pub record Admits (tells : Type 0) (suite : SuiteMeaning) (item : Item) (result : Result (Unit {0}) Denied) (old new : ShardState) : Type 0 where
  pub told : Adds tells suite 0 (IsClaimEntry 0 item (admit_answer result)) old new
  pub objection : tells → IfErr result (λ why. OfOpening why (ObjectsToRack old))
  pub among : tells → IfErr result (λ why. OfOpening why (ObjectsToBook old))
  pub objects : IfErr result (λ why. OfOpening why IsObjection)
  pub each_moment : tells → IsCharted old → OpensThroughout (through_claim old item) old new
  pub owes : OwesFor (opening_calls old + 14) (IsErrOf result denied.Disk) old new

-- the answer of the shard of a place, as the node's
abbrev pub claimed_by : ℕ → ℕ → Result (Unit {0}) Denied → Claimed
claimed_by number shard (Ok _) = claimed.Accepted number
claimed_by number shard (Err why) = claimed.Denied number shard why

-- the shard of the item's tag is asked, and the worker holds nothing any more
pub record ClaimsItem (tells : Type 0) (suite : SuiteMeaning) (worker : ℕ) (item : Item) (answer : Claimed) (old new : NodeState) : Type 0 where
  pub result : Result (Unit {0}) Denied
  pub answer_is : answer ≡ claimed_by item.number (place_of old.setup item.tag) result
  pub asks : AtShard (Admits tells suite item result) (place_of old.setup item.tag) (record old { workers = slice_set old.workers worker None }) new

abbrev pub ClaimsFor : Type 0 → SuiteMeaning → ℕ → Option Item → Claimed → NodeState → NodeState → Type 0
ClaimsFor tells suite worker None answer old new = (answer ≡ claimed.Empty) × (new ≡ old)
ClaimsFor tells suite worker (Some item) answer old new = ClaimsItem tells suite worker item answer old new

-- ---- the first packet that is due is handed on

-- a shard gives the item up, and that is told
pub record GivesUp (tells : Type 0) (suite : SuiteMeaning) (moment : ℕ) (item : Item) (old new : ShardState) : Type 0 where
  pub told : Adds tells suite 0 (IsEntry (entry.Take 0 item.number (destination item.out) moment)) old new
  pub rest : IsPermutation old.state.held (item ∷ new.state.held)
  pub rack : new.rack ≡ old.rack

-- of all that its shards hold and that is due, the first
pub record SendsItem (tells : Type 0) (suite : SuiteMeaning) (moment : ℕ) (item : Item) (old new : NodeState) : Type 0 where
  pub first : IsFirstDue whens None moment (all_held old.shards) item
  pub place : ℕ
  pub gives : AtShard (GivesUp tells suite moment item) place old new

-- ---- one shard is made ready, or rotated

pub record Readies (tells : Type 0) (suite : SuiteMeaning) (result : Result Book OpenStore) (old new : ShardState) : Type 0 where
  pub ok : IfOk result (λ book. IsReady tells suite 0 book old new)
  pub refused : IfErr result (λ fault. RefusesOpening fault old new)
  pub objection : tells → IfErr result (ObjectsToRack old)
  pub among : tells → IfErr result (ObjectsToBook old)
  pub each_moment : tells → IsCharted old → OpensThroughout (through_opening old) old new
  pub owes : OwesFor (opening_calls old) (IsErrOf result open_store.Failed) old new

pub record Retires (tells : Type 0) (suite : SuiteMeaning) (moment : ℕ) (result : Result (Unit {0}) RotateFault) (old new : ShardState) : Type 0 where
  pub told : Adds tells suite 0 (IsRotateEntry 0 moment (rotate_answer result)) old new
  pub objection : tells → IfErr result (λ why. OfReopening why (ObjectsToRack old))
  pub among : tells → IfErr result (λ why. OfReopening why (ObjectsToBook old))
  pub objects : IfErr result (λ why. OfReopening why IsObjection)
  pub each_moment : tells → IsCharted old → OpensThroughout (through_rotation old moment) old new
  pub owes : OwesFor (opening_calls old + 4) (IsErrOf result rotate.Disk) old new

-- ---- racks are armed and crash

abbrev pub Arms : ℕ → ShardState → ShardState → Type 0
Arms calls old new = new ≡ record old { rack = armed_with calls old.rack }

pub record CrashesShard (tells : Type 0) (pick : ℕ) (old new : ShardState) : Type 0 where
  pub rack : IsCrash tells pick old.rack new.rack
  pub shard : new ≡ anew old new.rack new.spare
  pub book : tells → IsCharted old → Contains old.state.journal.books (rack_book old.terms new.rack)
  pub covered_stays : tells → IsCharted old → KeepsCovered old.state.journal new.state.journal
  pub charted : tells → IsCharted new

-- nothing waits, no worker holds a packet, and every rack crashes
pub record Crashes (tells : Type 0) (pick : ℕ) (old new : NodeState) : Type 0 where
  pub shards_are : AtEachShard (CrashesShard tells pick) old.shards new.shards
  pub new_is : new ≡ record old { arrivals = []; workers = no_packets; shards = new.shards }
