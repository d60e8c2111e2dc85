-- Words of private functions and proofs alone: how far a script has been answered, and what is still to come of it.
use Rattle.std.specs.Prelude.{◌≡◌, ◌⊎◌, ⊤, ℕ, ◌+◌, ◌^◌, ◌<◌, ◌≤◌, List, [], ◌∷◌, ◌++◌, map, take, Option, Some, None, IfSome, IsSomeAnd, IsErrOf, option_map, Result, Ok, Err}
use Rattle.mix_base.specs.declared.reading.Source.{Ghosts}
use Rattle.mix_base.specs.Faults.{Rose}
use Rattle.mix_base.specs.Suites.{SuiteMeaning}
use Rattle.epoch_keys.specs.Epochs.{InRange}
use Rattle.lab_text.specs.Given.{Gave}
use Rattle.lab_text.specs.Readers.{coming, lines_given}
use Rattle.lab_text.specs.Script.{Ending, AtEnd, Outside, Events, events_from, in_front}
use Rattle.lab_text.specs.declared.lines.LineReader.{LineReader}
use Rattle.lab_text.specs.declared.events.Event.{Event}
use Rattle.lab_text.specs.declared.node_lines.NodeLine.{NodeLine}
use Rattle.lab_text.specs.declared.statuses.Status.{Status}
use Rattle.lab_text.specs.declared.statuses.Status.TheVariants.{Done, Line, ReadFault, WriteFault, Foreign, OtherShape, Memory, NoKey}
use Rattle.replay_disk.specs.Disk.{RackState}
use Rattle.mix_shard.specs.Faults.{IsObjection, OfOpening}
use Rattle.node_core.specs.declared.answers.Claimed.{Claimed}
use Rattle.node_core.specs.declared.answers.Claimed.TheVariants as claimed
use Rattle.node_core.specs.Nodes.{AreShardsOf, IsNewNode, IsNodeSetup, NodeState}
use Rattle.node_core.specs.declared.setup.NodeSetup.{NodeSetup}
use Rattle.mix_top.specs.Acts.{Act, Opens, Reopens, Rotates, acts_of_all, first_acts}
use Rattle.mix_top.specs.Headline.{AnswersProgram, IsGiven}
use Rattle.mix_top.specs.Program.{Program, program_from, set_up}
use Rattle.mix_top.specs.Receiving.{GaveText}
use Rattle.mix_top.specs.Report as report
use Rattle.mix_top.specs.Report.{Says, text}
use Rattle.mix_top.specs.declared.report.ReportLine.{ReportLine}
use Rattle.mix_top.specs.declared.serving.Round.{Round}
use Rattle.mix_top.specs.declared.serving.Round.TheVariants as rounds
use Rattle.mix_top.specs.Run.{EndsNext, Owes, Runs}

-- ---- acts

-- these acts were done one after the other, and their report was taken
pub record Goes (tells : Type 0) (suite : SuiteMeaning) (acts : List Act) (old new : NodeState) (took : List report.Line → Type 0) : Type 0 where
  pub said : List report.Line
  pub runs : Runs tells suite old acts said new
  pub taken : took said

-- how acts end a run by themselves
abbrev pub Stops : Type 0 → SuiteMeaning → Status → List Act → NodeState → NodeState → Type 0
Stops tells suite WriteFault rest state end = end ≡ state
Stops tells suite Memory rest state end = (end ≡ state) ⊎ EndsNext tells suite Memory rest state end
Stops tells suite (Foreign node shard area at) rest state end = EndsNext tells suite (Foreign node shard area at) rest state end
Stops tells suite (OtherShape node shard stored asked) rest state end = EndsNext tells suite (OtherShape node shard stored asked) rest state end
Stops tells suite (NoKey epoch) rest state end = EndsNext tells suite (NoKey epoch) rest state end
Stops tells suite _ rest state end = ⊥

-- what was taken of the report of a run that ended so: all of it, but for a receiver that failed or wanted memory
abbrev pub TakenOf : (List report.Line → Type 0) → (List report.Line → Type 0) → Status → List report.Line → Type 0
TakenOf took took_front WriteFault said = took_front said
TakenOf took took_front Memory said = took_front said
TakenOf took took_front _ said = took said

-- the first of these acts were done, and then the run ended
pub record Breaks (tells : Type 0) (suite : SuiteMeaning) (acts : List Act) (status : Status) (old new : NodeState) (took took_front : List report.Line → Type 0) : Type 0 where
  pub done : List Act
  pub rest : List Act
  pub all : acts ≡ done ++ rest
  pub said : List report.Line
  pub state : NodeState
  pub runs : Runs tells suite old done said state
  pub stops : Stops tells suite status rest state new
  pub taken : TakenOf took took_front status said

-- what a call that does these acts comes to
abbrev pub Serves : Type 0 → SuiteMeaning → List Act → Result (Unit {0}) Status → NodeState → NodeState → (List report.Line → Type 0) → (List report.Line → Type 0) → Type 0
Serves tells suite acts (Ok _) old new took took_front = Goes tells suite acts old new took
Serves tells suite acts (Err status) old new took took_front = Breaks tells suite acts status old new took took_front

-- a line that says something, or none, as lines
abbrev pub as_lines : Option ReportLine → List report.Line
as_lines None = []
as_lines (Some line) = Says line ∷ []

-- what the count of faults of a sink, or of another receiver, owes to an answer
pub record SinkGoesOn (result : Result (Unit {0}) Status) (before after : ℕ) : Type 0 where
  pub fault : IsErrOf result WriteFault → Rose before after
  pub count : before ≤ after

-- a claim that a journal hinders says what its opening objects to
abbrev pub IsToObject : Claimed → Type 0
IsToObject (claimed.Accepted number) = ⊤
IsToObject (claimed.Denied number shard why) = OfOpening why IsObjection
IsToObject claimed.Empty = ⊤

-- ---- a round of the shards

-- the act at one of them
abbrev pub act_at : Round → ℕ → Act
act_at rounds.Open shard = Opens shard
act_at rounds.Reopen shard = Reopens shard
act_at (rounds.Rotate moment) shard = Rotates moment shard

abbrev pub IsRoundInRange : Round → Type 0
IsRoundInRange rounds.Open = ⊤
IsRoundInRange rounds.Reopen = ⊤
IsRoundInRange (rounds.Rotate moment) = moment < 2 ^ 60

-- ---- the node between

-- a setup that a node is built for
pub record IsServed (setup : NodeSetup) (ciphertext : ℕ) : Type 0 where
  pub allowed : IsNodeSetup setup
  pub size : setup.geo.ct ≡ ciphertext
  pub times : InRange setup.times

-- what stays of a node
pub record IsKeptNode (tells : Type 0) (suite : SuiteMeaning) (old new : NodeState) : Type 0 where
  pub setup : new.setup ≡ old.setup
  pub kept : AreShardsOf tells suite new.setup new.shards

-- the same, and how many packets arrived at it at most
pub record GoesOn (tells : Type 0) (suite : SuiteMeaning) (arrived : ℕ) (old new : NodeState) : Type 0 where
  pub node : IsKeptNode tells suite old new
  pub next : new.next ≤ old.next + arrived

-- ---- the script

-- the events to come of a node of so many shards, where the source tells what is left
abbrev pub events_to_come : {I : Type 0} {G : Ghosts I} → ℕ → LineReader I G → Option Events
events_to_come shards reader = option_map (events_from shards (lines_given reader + 1)) (coming reader)

-- the program to come, where the source tells what is left
abbrev pub program_to_come : {I : Type 0} {G : Ghosts I} → LineReader I G → Option Program
program_to_come reader = option_map (program_from (lines_given reader + 1)) (coming reader)

-- reading ended with a status, where this was to come; `stop` is what an input is that ends at once
abbrev pub EndsAs : {X : Type 0} → (Ending → X) → X → Status → Type 0
EndsAs stop input Done = input ≡ stop AtEnd
EndsAs stop input (Line number) = input ≡ stop (Outside number)
EndsAs stop input ReadFault = ⊤
EndsAs stop input Memory = ⊤
EndsAs stop input _ = ⊥

-- what reading an event may end with, and that there is none
abbrev pub EndsEvents : Status → Type 0
EndsEvents Done = ⊤
EndsEvents (Line number) = ⊤
EndsEvents ReadFault = ⊤
EndsEvents Memory = ⊤
EndsEvents _ = ⊥

-- an event, with the number of its line, is the next of those to come
abbrev pub IsNext : ℕ × Event → Option Events → Option Events → Type 0
IsNext event before after = IfSome before (λ now. IsSomeAnd after (λ others. now ≡ in_front event others))

-- the node line of the program to come was read: the events behind it are to come
abbrev pub SetsUp : NodeLine → Option Program → Option Events → Type 0
SetsUp node before after = IfSome before (λ program. IsSomeAnd after (λ events. program ≡ set_up node events))

-- of all events these are still to come, and what stands before them is `done`
pub record Follows (whole rest : Events) (done : List (ℕ × Event)) : Type 0 where
  pub list : whole.list ≡ done ++ rest.list
  pub ending : whole.ending ≡ rest.ending

-- the events before those to come took a new node here and gave their report
pub record Progress (tells : Type 0) (suite : SuiteMeaning) (whole rest : Option Events) (start node : NodeState) (before after : Option (List ℕ)) : Type 0 where
  pub done : List (ℕ × Event)
  pub follows : IfSome whole (λ all. IsSomeAnd rest (λ more. Follows all more done))
  pub goes : Goes tells suite (first_acts start.setup.shards ++ acts_of_all start.setup.shards done) start node (GaveText before after)

-- a call's status
abbrev pub status_of : Result (Unit {0}) Status → Status
status_of (Ok _) = Done
status_of (Err status) = status

-- the events were answered from a new node on: how far, by the status
pub record Answers (tells : Type 0) (suite : SuiteMeaning) (events : Option Events) (status : Status) (start end : NodeState) (before after : Option (List ℕ)) : Type 0 where
  pub whole : Events
  pub of_source : IfSome events (λ told. whole ≡ told)
  pub done : List Act
  pub rest : List Act
  pub all : first_acts start.setup.shards ++ acts_of_all start.setup.shards whole.list ≡ done ++ rest
  pub said : List report.Line
  pub state : NodeState
  pub runs : Runs tells suite start done said state
  pub owed : Owes tells suite whole.ending status rest state end
  pub given : Gave before after (λ bytes. IsGiven status said bytes)

-- ---- the disks

-- memory ran out before there was a node
pub record Unmade (status : Status) (before after : Option (List ℕ)) (old new : List RackState) : Type 0 where
  pub memory : status ≡ Memory
  pub given : after ≡ before
  pub racks : new ≡ old

-- a node was made of these disks, answered the events, and gave its disks back
pub record Made (tells : Type 0) (suite : SuiteMeaning) (setup : NodeSetup) (events : Option Events) (status : Status) (before after : Option (List ℕ)) (old new : List RackState) : Type 0 where
  pub start : NodeState
  pub end : NodeState
  pub is_new : IsNewNode setup old start
  pub answers : Answers tells suite events status start end before after
  pub kept : AreShardsOf tells suite setup end.shards
  pub racks : new ≡ map (λ shard. shard.rack) end.shards

abbrev pub Driven : Type 0 → SuiteMeaning → NodeSetup → Option Events → Status → Option (List ℕ) → Option (List ℕ) → List RackState → List RackState → Type 0
Driven tells suite setup events status before after old new =
    Unmade status before after old new ⊎ Made tells suite setup events status before after old new

-- ---- the script as a whole

-- the program to come was answered
pub record Answered (tells : Type 0) (coming : Option Program) (status : Status) (before after : Option (List ℕ)) (old new : List RackState) : Type 0 where
  pub program : Program
  pub of_source : IfSome coming (λ told. program ≡ told)
  pub answered : AnswersProgram tells program status before after old new
