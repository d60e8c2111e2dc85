-- The promise of `storm`: what `drive` promises of a script's acts, for those of a storm, with the summary of their report in
-- place of its text.
use Rattle.std.specs.Prelude.{◌≡◌, ◌⊎◌, ℕ, List, [], Option, take}
use Rattle.mix_base.specs.Suites.{SuiteMeaning}
use Rattle.replay_disk.specs.Disk.{RackState}
use Rattle.lab_text.specs.Given.{Gave}
use Rattle.lab_text.specs.declared.statuses.Status.{Status}
use Rattle.lab_text.specs.declared.statuses.Status.TheVariants.{Done, WriteFault, Foreign, OtherShape, Memory, NoKey}
use Rattle.node_core.specs.Nodes.{NodeState}
use Rattle.node_core.specs.declared.setup.NodeSetup.{NodeSetup}
use Rattle.mix_tools.specs.Suites.{meaning_for}
use Rattle.mix_top.specs.Acts.{Act}
use Rattle.mix_top.specs.Headline.{Headline}
use Rattle.mix_top.specs.Program.{setup_of}
use Rattle.mix_top.specs.Report.{Line}
use Rattle.mix_top.specs.Run.{EndsNext}
use Rattle.mix_top.specs.Storm.{AtEnd, Keyless, StormEnding, course_of, storm_acts, storm_line}
use Rattle.mix_top.specs.Summary.{summary}
use Rattle.mix_top.specs.declared.storm.words.Storm.{Storm}

-- What a status says of a storm whose events end so, where `rest` are the acts that weren't done, the others led to `state`,
-- and the run came to `end`. After Done, and where the sink failed, all were done. Want of memory may end the run anywhere,
-- a journal or a key where the next act meets it; and the key of a packet may be none, before it arrives.
abbrev pub OwesStorm : Type 0 → SuiteMeaning → StormEnding → Status → List Act → NodeState → NodeState → Type 0
OwesStorm tells suite ending Done rest state end = (ending ≡ AtEnd) × (rest ≡ []) × (end ≡ state)
OwesStorm tells suite ending WriteFault rest state end = (ending ≡ AtEnd) × (rest ≡ []) × (end ≡ state)
OwesStorm tells suite ending Memory rest state end = (end ≡ state) ⊎ EndsNext tells suite Memory rest state end
OwesStorm tells suite ending (Foreign node shard area at) rest state end = EndsNext tells suite (Foreign node shard area at) rest state end
OwesStorm tells suite ending (OtherShape node shard stored asked) rest state end = EndsNext tells suite (OtherShape node shard stored asked) rest state end
OwesStorm tells suite ending (NoKey epoch) rest state end =
    ((ending ≡ Keyless epoch) × (rest ≡ []) × (end ≡ state)) ⊎ EndsNext tells suite (NoKey epoch) rest state end
OwesStorm tells suite ending _ rest state end = ⊥

-- the summary of the report was given: whole after Done, a front of it where the sink failed or wanted memory, else nothing
abbrev pub IsSummaryGiven : ℕ → Status → List Line → List ℕ → Type 0
IsSummaryGiven count Done said given = given ≡ summary count said
IsSummaryGiven count WriteFault said given = (length : ℕ) × (given ≡ take length (summary count said))
IsSummaryGiven count Memory said given = (length : ℕ) × (given ≡ take length (summary count said))
IsSummaryGiven count _ said given = given ≡ []

-- memory ran out before the node stood: nothing was given, and the disks are as they were
pub record NoStorm (status : Status) (before after : Option (List ℕ)) (old new : List RackState) : Type 0 where
  pub memory : status ≡ Memory
  pub given : Gave before after (λ bytes. bytes ≡ [])
  pub racks : new ≡ old

-- nothing is given before all acts were done
abbrev pub GivesAtEnd : Option (List ℕ) → Option (List ℕ) → List Act → Type 0
GivesAtEnd before after rest = (before ≡ after → ⊥) → rest ≡ []

-- the node of a storm did the first of its acts: the promise of `drive` on these, with the summary for the text
abbrev pub StormHeadline : Type 0 → SuiteMeaning → NodeSetup → ℕ → Status → Option (List ℕ) → Option (List ℕ) → List RackState → List RackState → Type 0
StormHeadline tells suite setup count status before after old new =
    let course = course_of suite setup count in
    Headline tells suite setup (storm_acts setup course)
    (λ rest state end. OwesStorm tells suite course.ending status rest state end × GivesAtEnd before after rest)
    (λ said. Gave before after (λ bytes. IsSummaryGiven count status said bytes)) old new

abbrev pub AnswersStorm : Type 0 → Storm → Status → Option (List ℕ) → Option (List ℕ) → List RackState → List RackState → Type 0
AnswersStorm tells storm status before after old new =
    NoStorm status before after old new
    ⊎ StormHeadline tells (meaning_for storm.ntru) (setup_of (storm_line storm)) storm.count status before after old new
