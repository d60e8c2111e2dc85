-- What each act does to a node and which line of the report it gives, and how an act may end the run.
use Rattle.std.specs.Prelude.{◌≡◌, ◌≢◌, ◌⊎◌, ℕ, List, [], ◌∷◌, Option, Some, None, Result, Ok, Err}
use Rattle.mix_base.specs.Suites.{SuiteMeaning}
use Rattle.due_queue.specs.Queues.{NoneDue}
use Rattle.spent_store.specs.declared.faults.OpenStore.{OpenStore}
use Rattle.spent_store.specs.declared.faults.OpenStore.TheVariants as open_store
use Rattle.spent_store.specs.declared.summary.Book.{Book}
use Rattle.mix_shard.specs.Items.{Item, whens}
use Rattle.mix_shard.specs.declared.faults.Denied.{Denied}
use Rattle.mix_shard.specs.declared.faults.Denied.TheVariants as denied
use Rattle.mix_shard.specs.declared.faults.RotateFault.{RotateFault}
use Rattle.mix_shard.specs.declared.faults.RotateFault.TheVariants as rotate
use Rattle.node_core.specs.Nodes.{AtShard, NodeState, all_held, shape_at}
use Rattle.node_core.specs.Steps.{ClaimsFor, NamesNoKey, Readies, Retires, SendsItem, peeled, received, worker_at}
use Rattle.node_core.specs.Steps as node
use Rattle.node_core.specs.declared.answers.Claimed.{Claimed}
use Rattle.node_core.specs.declared.answers.Claimed.TheVariants as claimed
use Rattle.node_core.specs.declared.answers.NodePeel.{NodePeel}
use Rattle.node_core.specs.declared.answers.NodePeel.TheVariants as node_peel
use Rattle.node_core.specs.declared.answers.Peeled.{Peeled}
use Rattle.node_core.specs.declared.answers.Peeled.TheVariants as peels
use Rattle.node_core.specs.declared.setup.NodeSetup.{NodeSetup}
use Rattle.lab_text.specs.declared.statuses.Status.{Status}
use Rattle.lab_text.specs.declared.statuses.Status.TheVariants as status
use Rattle.mix_top.specs.Acts.{Act, Opens, Reopens, Receives, Peels, Claims, Sends, Rotates, Arms, Crashes}
use Rattle.mix_top.specs.Report.{Line, Says, HandsOn}
use Rattle.mix_top.specs.declared.report.ReportLine.TheVariants as line

-- ---- the line of an answer; none where the answer ends the run

-- of an opening at the node line, and after a crash
abbrev pub says_opened : ℕ → Result Book OpenStore → Option (List Line)
says_opened shard (Ok book) = Some []
says_opened shard (Err open_store.Failed) = Some (Says (line.Unopened shard) ∷ [])
says_opened shard (Err (open_store.Foreign area at)) = None
says_opened shard (Err (open_store.OtherShape stored)) = None
says_opened shard (Err open_store.Memory) = None

abbrev pub says_reopened : ℕ → Result Book OpenStore → Option (List Line)
says_reopened shard (Ok book) = Some (Says (line.Restarted shard book.floor book.spent) ∷ [])
says_reopened shard (Err open_store.Failed) = Some (Says (line.Unopened shard) ∷ [])
says_reopened shard (Err (open_store.Foreign area at)) = None
says_reopened shard (Err (open_store.OtherShape stored)) = None
says_reopened shard (Err open_store.Memory) = None

-- of an unwrapping
abbrev pub says_peeled : ℕ → Peeled → List Line
says_peeled worker (peels.Holding number) = []
says_peeled worker (peels.Refused number why) = Says (line.Refuse number why) ∷ []
says_peeled worker peels.Idle = Says (line.Idle worker) ∷ []
says_peeled worker peels.Busy = Says (line.Busy worker) ∷ []

-- of a claim
abbrev pub says_denied : ℕ → ℕ → Denied → Option (List Line)
says_denied number shard (denied.Retired floor) = Some (Says (line.Retired number floor) ∷ [])
says_denied number shard denied.Spent = Some (Says (line.Spent number) ∷ [])
says_denied number shard denied.ShardFull = Some (Says (line.Full number) ∷ [])
says_denied number shard denied.Disk = Some (Says (line.Failed number shard) ∷ [])
says_denied number shard (denied.Journal why) = None
says_denied number shard denied.Memory = None

abbrev pub says_claimed : ℕ → Claimed → Option (List Line)
says_claimed worker (claimed.Accepted number) = Some []
says_claimed worker (claimed.Denied number shard why) = says_denied number shard why
says_claimed worker claimed.Empty = Some (Says (line.Empty worker) ∷ [])

-- of a rotation
abbrev pub says_rotated : ℕ → Result (Unit {0}) RotateFault → Option (List Line)
says_rotated shard (Ok _) = Some []
says_rotated shard (Err rotate.RootFull) = Some (Says (line.RootFull shard) ∷ [])
says_rotated shard (Err rotate.Disk) = Some (Says (line.NotRotated shard) ∷ [])
says_rotated shard (Err (rotate.Journal why)) = None
says_rotated shard (Err rotate.Memory) = None

-- ---- an act, with its line: at most one

abbrev pub Does : Type 0 → SuiteMeaning → Act → List Line → NodeState → NodeState → Type 0
Does tells suite (Opens shard) lines old new =
    (result : Result Book OpenStore) × AtShard (Readies tells suite result) shard old new × (says_opened shard result ≡ Some lines)
Does tells suite (Reopens shard) lines old new =
    (result : Result Book OpenStore) × AtShard (Readies tells suite result) shard old new × (says_reopened shard result ≡ Some lines)
Does tells suite (Receives moment packet) lines old new = (new ≡ received old moment packet) × (lines ≡ [])
Does tells suite (Peels worker) lines old new =
    (answer : Peeled) × (peeled suite old worker ≡ Some (answer, new)) × (lines ≡ says_peeled worker answer)
Does tells suite (Claims worker) lines old new =
    (answer : Claimed) × ClaimsFor tells suite worker (worker_at old worker) answer old new × (says_claimed worker answer ≡ Some lines)
Does tells suite (Sends moment) lines old new =
    (NoneDue whens None moment (all_held old.shards) × (new ≡ old) × (lines ≡ Says line.NoneDue ∷ []))
    ⊎ ((item : Item) × SendsItem tells suite moment item old new × (lines ≡ HandsOn item ∷ []))
Does tells suite (Rotates moment shard) lines old new =
    (result : Result (Unit {0}) RotateFault) × AtShard (Retires tells suite moment result) shard old new × (says_rotated shard result ≡ Some lines)
Does tells suite (Arms shard calls) lines old new = AtShard (node.Arms calls) shard old new × (lines ≡ [])
Does tells suite (Crashes pick) lines old new = node.Crashes tells pick old new × (lines ≡ [])

-- ---- how an answer ends the run; none where the run goes on

-- the shard's journal isn't this node's, by what an opening objects to; or memory ran out
abbrev pub ends_opening : NodeSetup → ℕ → OpenStore → Option Status
ends_opening setup shard (open_store.Foreign area at) = Some (status.Foreign 0 shard area at)
ends_opening setup shard (open_store.OtherShape stored) = Some (status.OtherShape 0 shard stored (shape_at setup shard))
ends_opening setup shard open_store.Failed = None
ends_opening setup shard open_store.Memory = Some status.Memory

-- an epoch that was live at the receipt has no key pair; or memory ran out
abbrev pub ends_peeling : NodePeel → Status
ends_peeling (node_peel.NoKey epoch) = status.NoKey epoch
ends_peeling node_peel.Memory = status.Memory

abbrev pub ends_denied : NodeSetup → ℕ → Denied → Option Status
ends_denied setup shard (denied.Journal why) = ends_opening setup shard why
ends_denied setup shard denied.Memory = Some status.Memory
ends_denied setup shard (denied.Retired floor) = None
ends_denied setup shard denied.Spent = None
ends_denied setup shard denied.ShardFull = None
ends_denied setup shard denied.Disk = None

abbrev pub ends_claim : NodeSetup → Claimed → Option Status
ends_claim setup (claimed.Accepted number) = None
ends_claim setup (claimed.Denied number shard why) = ends_denied setup shard why
ends_claim setup claimed.Empty = None

abbrev pub ends_rotation : NodeSetup → ℕ → RotateFault → Option Status
ends_rotation setup shard (rotate.Journal why) = ends_opening setup shard why
ends_rotation setup shard rotate.Memory = Some status.Memory
ends_rotation setup shard rotate.RootFull = None
ends_rotation setup shard rotate.Disk = None

-- ---- an act that ends the run, and what it leaves: a journal may have been opened, and a worker that claimed is empty

abbrev pub Ends : Type 0 → SuiteMeaning → Act → Status → NodeState → NodeState → Type 0
Ends tells suite (Opens shard) ended old new =
    (fault : OpenStore) × AtShard (Readies tells suite (Err fault)) shard old new × (ends_opening old.setup shard fault ≡ Some ended)
Ends tells suite (Reopens shard) ended old new =
    (fault : OpenStore) × AtShard (Readies tells suite (Err fault)) shard old new × (ends_opening old.setup shard fault ≡ Some ended)
Ends tells suite (Receives moment packet) ended old new = (ended ≡ status.Memory) × (new ≡ old)
Ends tells suite (Peels worker) ended old new =
    (fault : NodePeel) × NamesNoKey suite old fault × (ended ≡ ends_peeling fault) × (worker_at old worker ≡ None) × (old.arrivals ≢ [])
    × (new ≡ old)
Ends tells suite (Claims worker) ended old new =
    (answer : Claimed) × ClaimsFor tells suite worker (worker_at old worker) answer old new × (ends_claim old.setup answer ≡ Some ended)
Ends tells suite (Sends moment) ended old new = ⊥
Ends tells suite (Rotates moment shard) ended old new =
    (fault : RotateFault) × AtShard (Retires tells suite moment (Err fault)) shard old new × (ends_rotation old.setup shard fault ≡ Some ended)
Ends tells suite (Arms shard calls) ended old new = ⊥
Ends tells suite (Crashes pick) ended old new = ⊥
