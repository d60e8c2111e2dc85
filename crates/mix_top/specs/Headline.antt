-- The promise of `drive`. Its sentence: for every script of arrivals, unwrappings, claims, hand-ons, rotations, disk
-- failures, crashes within any write and restarts, the report hands on at most one packet for each epoch key and replay tag,
-- over all restarts; each is the definition's unwrapping of an arrived packet under a key live at its receipt, handed on no
-- sooner than receipt plus delay, and each refusal has exactly its stated cause.
use Rattle.std.specs.Prelude.{◌≡◌, ◌⊎◌, ⊤, ℕ, ◌+◌, ◌-◌, ◌^◌, ◌≤◌, ◌==◌, min, List, [], ◌∷◌, ◌++◌, All, take, drop, map, slice_get, if◌then◌else◌, Option, Some, None}
use Rattle.std.specs.List.{flat_map}
use Rattle.mix_base.specs.Suites.{SuiteMeaning}
use Rattle.lab_text.specs.Given.{Gave}
use Rattle.lab_text.specs.Script.{Outside}
use Rattle.lab_text.specs.declared.node_lines.NodeLine.{NodeLine}
use Rattle.lab_text.specs.declared.statuses.Status.{Status}
use Rattle.lab_text.specs.declared.statuses.Status.TheVariants.{Line, ReadFault, WriteFault, Memory}
use Rattle.replay_disk.specs.Disk.{AreAtRest, RackState}
use Rattle.spent_store.specs.Books.{IsCovered}
use Rattle.spent_store.specs.Stores.{Left, OpensToOneOf, book_in, opened}
use Rattle.mix_shard.specs.Items.{Item}
use Rattle.mix_shard.specs.Laws.{NoneTwice}
use Rattle.mix_shard.specs.Shards.{ShardState}
use Rattle.node_core.specs.Nodes.{IsNewNode, NodeState, shape_at}
use Rattle.node_core.specs.Steps.{place_of}
use Rattle.node_core.specs.declared.setup.NodeSetup.{NodeSetup}
use Rattle.mix_tools.specs.Suites.{meaning_for}
use Rattle.mix_top.specs.Acts.{Act, Arms, Crashes}
use Rattle.mix_top.specs.Honest.{IsHonest}
use Rattle.mix_top.specs.Program.{Program, no_node, program_of, setup_of}
use Rattle.mix_top.specs.Report as report
use Rattle.mix_top.specs.Report.{HandsOn, disk_lines, handed, text}
use Rattle.mix_top.specs.Run.{Owes, Runs}

-- ---- the words of the promise

-- what is said of each shard, by its number
abbrev pub EachShard : NodeState → (ℕ → ShardState → Type 0) → Type 0
EachShard node fact = (index : ℕ) (shard : ShardState) → slice_get node.shards index ≡ Some shard → fact index shard

-- and of its disk before and after
abbrev pub EachDisk : NodeState → List RackState → (ℕ → RackState → RackState → Type 0) → Type 0
EachDisk node racks fact = EachShard node (λ index shard. (before : RackState) → slice_get racks index ≡ Some before → fact index before shard.rack)

-- the disks tell what they hold, and each is at rest
abbrev pub AreKnown : Type 0 → List RackState → Type 0
AreKnown tells racks = tells × All (λ rack. AreAtRest rack.areas) racks

-- the disk of its shard held the pair, or had retired its epoch
abbrev pub WasHeld : NodeSetup → List RackState → ℕ × List ℕ → Type 0
WasHeld setup racks pair =
    (rack : RackState) × (slice_get racks (place_of setup pair.1) ≡ Some rack)
    × IsCovered (book_in rack.areas (shape_at setup (place_of setup pair.1)) setup.limit) pair.0 pair.1

-- whatever a crash leaves of a shard's disk, it covers each of these pairs that belongs to the shard
abbrev pub CoversAll : NodeSetup → ℕ → RackState → List (ℕ × List ℕ) → Type 0
CoversAll setup index rack pairs =
    (left : Left rack.areas) → All (λ pair. place_of setup pair.1 ≡ index → IsCovered (opened (shape_at setup index) setup.limit rack.areas left) pair.0 pair.1) pairs

-- the numbers that acts arm a shard's disk with, and those that they crash every disk with
abbrev pub armed_by : ℕ → Act → List ℕ
armed_by index (Arms shard calls) = if shard == index then calls ∷ [] else []
armed_by index _ = []

abbrev pub arms_at : ℕ → List Act → List ℕ
arms_at index acts = flat_map (armed_by index) acts

abbrev pub pick_of : Act → List ℕ
pick_of (Crashes pick) = pick ∷ []
pick_of _ = []

abbrev pub picks : List Act → List ℕ
picks acts = flat_map pick_of acts

-- the report's text was given whole, but for a sink that failed or wanted memory
abbrev pub IsGiven : Status → List report.Line → List ℕ → Type 0
IsGiven WriteFault said given = (count : ℕ) × (given ≡ take count (text said))
IsGiven Memory said given = (count : ℕ) × (given ≡ take count (text said))
IsGiven _ said given = given ≡ text said

-- ---- the promise, for a node that is set up

-- A call had these acts done at a node. `owes` is what its status says of the acts that weren't done, of where the others
-- led, and of where the run came to; `gives` is what it gave for a report; `old` and `new` are the disks at entry and at
-- return.
pub record Headline (tells : Type 0) (suite : SuiteMeaning) (setup : NodeSetup) (acts : List Act) (owes : List Act → NodeState → NodeState → Type 0) (gives : List report.Line → Type 0) (old new : List RackState) : Type 0 where
  -- for every script: a new node over the disks did the first of its acts, one after the other, and gave this report
  pub start : NodeState
  pub is_new : IsNewNode setup (take setup.shards old) start
  pub done : List Act
  pub rest : List Act
  pub all : acts ≡ done ++ rest
  pub said : List report.Line
  pub state : NodeState
  pub runs : Runs tells suite start done said state
  -- how far it came, and where the run ended, is what the status says
  pub end : NodeState
  pub owed : owes rest state end
  -- what was given is the report's text
  pub given : gives said
  -- the report hands on at most one packet for each epoch key and replay tag, over all restarts, and none that a disk held
  pub once : AreKnown tells old → NoneTwice (handed said)
  pub fresh : AreKnown tells old → All (λ pair. ¬ WasHeld setup old pair) (handed said)
  -- each is the definition's unwrapping of an arrived packet under a key live at its receipt, handed on no sooner than
  -- receipt plus delay
  pub honest : (lines : List report.Line) (item : Item) (others : List report.Line) → said ≡ lines ++ HandsOn item ∷ others
      → IsHonest tells suite setup start done lines item
  -- whatever a crash leaves of a disk opens to a book of the state that the run came to, and covers all that was handed on
  pub racks : take setup.shards new ≡ map (λ shard. shard.rack) end.shards
  pub books : AreKnown tells old → EachShard end (λ index shard. OpensToOneOf (shape_at setup index) setup.limit shard.state.journal.books shard.rack.areas)
  pub lasting : AreKnown tells old → EachShard end (λ index shard. CoversAll setup index shard.rack (handed said))
  -- no line says that a disk failed that didn't, and nothing but the script's acts arms or crashes one
  pub failures : EachDisk end old (λ index was is. min (was.faults + disk_lines index said) (2 ^ 64 - 1) ≤ is.faults)
  pub arms : EachDisk end old (λ index was is. is.arms ≡ was.arms ++ arms_at index done)
  pub crashes : EachDisk end old (λ index was is. is.crashes ≡ was.crashes ++ picks done)
  -- a disk that the script doesn't use is as it was
  pub unused : drop setup.shards new ≡ drop setup.shards old

-- ---- the promise, for every script

-- a script that ends before a node stands: at its node line, or where the source failed or memory ran out
abbrev pub EndsBefore : Program → Status → Type 0
EndsBefore program (Line number) = program ≡ no_node (Outside number)
EndsBefore program ReadFault = ⊤
EndsBefore program Memory = ⊤
EndsBefore program _ = ⊥

-- then nothing was given, and the disks are as they were
pub record NoNode (program : Program) (status : Status) (before after : Option (List ℕ)) (old new : List RackState) : Type 0 where
  pub why : EndsBefore program status
  pub given : Gave before after (λ bytes. bytes ≡ [])
  pub racks : new ≡ old

-- a node that stands by this line answered the script: with this status, and where the sink tells it was given the text
abbrev pub AnswersNode : Type 0 → NodeLine → Program → Status → Option (List ℕ) → Option (List ℕ) → List RackState → List RackState → Type 0
AnswersNode tells node program status before after old new =
    let suite = meaning_for node.ntru in
    Headline tells suite (setup_of node) program.acts (Owes tells suite program.ending status)
    (λ said. Gave before after (λ bytes. IsGiven status said bytes)) old new

abbrev pub AnswersProgram : Type 0 → Program → Status → Option (List ℕ) → Option (List ℕ) → List RackState → List RackState → Type 0
AnswersProgram tells program status before after old new =
    NoNode program status before after old new
    ⊎ ((node : NodeLine) × (program.node ≡ Some node) × AnswersNode tells node program status before after old new)

-- the script that was answered is the source's, where that tells what is left of it
abbrev pub IsScriptOf : Option (List ℕ) → Program → Type 0
IsScriptOf None program = ⊤
IsScriptOf (Some script) program = program ≡ program_of script

pub record AnswersScript (tells : Type 0) (left : Option (List ℕ)) (status : Status) (before after : Option (List ℕ)) (old new : List RackState) : Type 0 where
  pub program : Program
  pub of_source : IsScriptOf left program
  pub answered : AnswersProgram tells program status before after old new
