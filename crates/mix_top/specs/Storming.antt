-- Words of private functions and proofs alone: what a packet of a storm is made with, and how far a storm has come.
use Rattle.std.specs.Prelude.{◌≡◌, ◌⊎◌, ⊤, ℕ, ◌<◌, ◌≤◌, List, [], ◌∷◌, ◌++◌, take, map, flat_map, Option, Some, None, IsSome, Result, Ok, Err}
use Rattle.mix_base.specs.Suites.{KemScheme, SuiteMeaning}
use Rattle.mix_base.specs.declared.writing.PutFault.{PutFault}
use Rattle.mix_base.specs.declared.writing.PutFault.TheVariants as puts
use Rattle.epoch_keys.specs.Keys.{epoch_public_key}
use Rattle.epoch_keys.specs.declared.faults.KeyFault.{KeyFault}
use Rattle.epoch_keys.specs.declared.faults.KeyFault.TheVariants as faults
use Rattle.replay_disk.specs.Disk.{RackState}
use Rattle.lab_text.specs.Given.{Gave}
use Rattle.lab_text.specs.declared.events.Event.{Event}
use Rattle.lab_text.specs.declared.statuses.Status.{Status}
use Rattle.lab_text.specs.declared.statuses.Status.TheVariants.{Done, WriteFault, Foreign, OtherShape, Memory, NoKey}
use Rattle.node_core.specs.Nodes.{AreShardsOf, IsNewNode, NodeState}
use Rattle.node_core.specs.declared.setup.NodeSetup.{NodeSetup}
use Rattle.mix_top.specs.Acts.{Act, acts_of, first_acts}
use Rattle.mix_top.specs.Progress.{Goes}
use Rattle.mix_top.specs.Report as report
use Rattle.mix_top.specs.Run.{Runs}
use Rattle.mix_top.specs.Storm.{AtEnd, Course, Making, before_course, course_from, course_of, epoch_of, first_making, storm_acts}
use Rattle.mix_top.specs.StormHeadline.{OwesStorm}
use Rattle.mix_top.specs.Tallies.{summary_line}
use Rattle.mix_top.specs.declared.storm.tally.Tally.{Tally}
use Rattle.mix_top.specs.declared.storm.words.Storm.{Storm}

-- the number of packets of a storm
pub record IsStormInRange (storm : Storm) : Type 0 where
  pub some : 1 ≤ storm.count
  pub few : storm.count ≤ 100000

-- what a node of storms is
pub record IsStormNode (setup : NodeSetup) : Type 0 where
  pub hops : 1 ≤ setup.geo.hops
  pub body : 8 ≤ setup.geo.body
  pub epoch : 0 < setup.times.epoch

-- a public key encapsulates under all coins
abbrev pub IsSealing : KemScheme → List ℕ → Type 0
IsSealing kem key = (coins : List ℕ) → IsSome (kem.encapsulate key coins)

-- that of every pair does
abbrev pub AreSealing : KemScheme → Type 0
AreSealing kem = (words : ℕ → ℕ) (pair : List ℕ × List ℕ) → kem.pair words ≡ Some pair → IsSealing kem pair.0

-- a storm with these words to come and this last packet of kind fresh
abbrev pub making_at : (ℕ → ℕ) → Option (List ℕ) → Making
making_at words last = record { words = words; last = last }

-- it stands at its beginning
pub record IsAtFirst (seed : List ℕ) (words : ℕ → ℕ) (last : Option (List ℕ)) : Type 0 where
  pub words_are : (place : ℕ) → words place ≡ (first_making seed).words place
  pub last_is : last ≡ None

-- the epoch of a packet, which is this one, has no key pair
pub record LacksKey (suite : SuiteMeaning) (setup : NodeSetup) (number epoch : ℕ) : Type 0 where
  pub named : epoch ≡ epoch_of setup number
  pub none : epoch_public_key suite.kem setup.seed epoch ≡ None

-- how such a packet ends the storm, and want of memory
abbrev pub keyless_status : KeyFault → Status
keyless_status (faults.NoKey epoch) = NoKey epoch
keyless_status faults.Memory = Memory

-- ---- how far it has come

-- the acts of events
abbrev pub acts_of_events : ℕ → List Event → List Act
acts_of_events shards events = flat_map (acts_of shards) events

-- the events before these of packet NUMBER and of those behind it, so many, took a new node here
pub record StormProgress (tells : Type 0) (suite : SuiteMeaning) (setup : NodeSetup) (count more number : ℕ) (making : Making) (start node : NodeState) (took : List report.Line → Type 0) : Type 0 where
  pub done : List Event
  pub course : course_of suite setup count ≡ before_course done (course_from suite setup more number making)
  pub goes : Goes tells suite (first_acts setup.shards ++ acts_of_events setup.shards done) start node took

-- the events of all packets did
abbrev pub AllServed : Type 0 → SuiteMeaning → NodeSetup → ℕ → NodeState → NodeState → (List report.Line → Type 0) → Type 0
AllServed tells suite setup count start node took = (making : Making) × StormProgress tells suite setup count 0 count making start node took

-- how a storm ends before its summary
abbrev pub IsStop : Status → Type 0
IsStop Memory = ⊤
IsStop (Foreign node shard area at) = ⊤
IsStop (OtherShape node shard stored asked) = ⊤
IsStop (NoKey epoch) = ⊤
IsStop _ = ⊥

-- the first acts of a storm were done, and then it ended
pub record StormStops (tells : Type 0) (suite : SuiteMeaning) (setup : NodeSetup) (course : Course) (status : Status) (start end : NodeState) : Type 0 where
  pub done : List Act
  pub rest : List Act
  pub all : storm_acts setup course ≡ done ++ rest
  pub said : List report.Line
  pub state : NodeState
  pub runs : Runs tells suite start done said state
  pub owed : OwesStorm tells suite course.ending status rest state end
  pub kind : IsStop status

-- all acts of a storm were done
pub record StormEnds (tells : Type 0) (suite : SuiteMeaning) (setup : NodeSetup) (course : Course) (start end : NodeState) (took : List report.Line → Type 0) : Type 0 where
  pub ending : course.ending ≡ AtEnd
  pub goes : Goes tells suite (storm_acts setup course) start end took

-- what a call that goes through the events of a storm comes to
abbrev pub Storms : Type 0 → SuiteMeaning → NodeSetup → Course → Result (Unit {0}) Status → NodeState → NodeState → (List report.Line → Type 0) → Type 0
Storms tells suite setup course (Ok _) start end took = StormEnds tells suite setup course start end took
Storms tells suite setup course (Err status) start end took = StormStops tells suite setup course status start end

-- ---- the disks

-- memory ran out before there was a node
pub record StormUnmade (result : Result (Unit {0}) Status) (old new : List RackState) : Type 0 where
  pub memory : result ≡ Err Memory
  pub racks : new ≡ old

-- a node was made of these disks, went through the events, and gave its disks back
pub record StormMade (tells : Type 0) (suite : SuiteMeaning) (setup : NodeSetup) (count : ℕ) (result : Result (Unit {0}) Status) (old new : List RackState) (took : List report.Line → Type 0) : Type 0 where
  pub start : NodeState
  pub end : NodeState
  pub is_new : IsNewNode setup old start
  pub storms : Storms tells suite setup (course_of suite setup count) result start end took
  pub kept : AreShardsOf tells suite setup end.shards
  pub racks : new ≡ map (λ shard. shard.rack) end.shards

abbrev pub StormDriven : Type 0 → SuiteMeaning → NodeSetup → ℕ → Result (Unit {0}) Status → List RackState → List RackState → (List report.Line → Type 0) → Type 0
StormDriven tells suite setup count result old new took =
    StormUnmade result old new ⊎ StormMade tells suite setup count result old new took

-- ---- the summary

-- a summary of these counts was given, or a front of it
abbrev pub GaveSummary : ℕ → Tally → Result (Unit {0}) PutFault → Option (List ℕ) → Option (List ℕ) → Type 0
GaveSummary count tally (Ok _) before after = Gave before after (λ bytes. bytes ≡ summary_line count tally)
GaveSummary count tally (Err fault) before after = Gave before after (λ bytes. (length : ℕ) × (bytes ≡ take length (summary_line count tally)))

-- what a put comes to at the end of a run
abbrev pub status_of_put : Result (Unit {0}) PutFault → Status
status_of_put (Ok _) = Done
status_of_put (Err puts.WriteFault) = WriteFault
status_of_put (Err puts.Memory) = Memory
