-- From events that were answered to the promise of the script, with its disks.
use Rattle.std.proofs.Common.{◌≡◌, ℕ, ◌+◌, ◌≤◌, List, ◌++◌, length, take, drop, map, inl, inr, refl, ap, ◌∙◌, sym, subst, Option, Some, None, IfSome, option_map, arith}
use Rattle.std.specs.List.{Contains, slice_get}
use Rattle.std.proofs.Math.Seq.{drop-append_seam, take-append_seam}
use Rattle.std.proofs.lemmas.List.{drop-map, length-append, length-map, length-take-le, map-append, take-append-drop, take-map}
use Rattle.std.proofs.lemmas.List.Elements.{All-weaker}
use Rattle.mix_base.specs.Suites.{SuiteMeaning}
use Rattle.mix_base.specs.declared.reading.Source.{Ghosts}
use Rattle.replay_disk.specs.Disk.{RackState}
use Rattle.lab_text.specs.Given.{Gave}
use Rattle.lab_text.specs.Lines.{lines_from}
use Rattle.lab_text.specs.Readers.{coming, lines_given}
use Rattle.lab_text.specs.Outcomes.{EndsReading}
use Rattle.lab_text.specs.Script.{Ending, AtEnd, Outside, Events}
use Rattle.lab_text.specs.declared.lines.LineReader.{LineReader}
use Rattle.lab_text.specs.declared.node_lines.NodeLine.{NodeLine}
use Rattle.lab_text.specs.declared.statuses.Status.{Status}
use Rattle.lab_text.specs.declared.statuses.Status.TheVariants.{Done, Words, Line, Key, ReadFault, WriteFault, Foreign, OtherShape, Memory, NoThread, NoKey, NoLine, Disk}
use Rattle.mix_shard.specs.Laws.{AllCover}
use Rattle.mix_shard.specs.Shards.{ShardState}
use Rattle.node_core.specs.Nodes.{AreShardsOf, IsNewNode, NodeState}
use Rattle.node_core.specs.Steps.{place_of}
use Rattle.node_core.specs.declared.setup.NodeSetup.{NodeSetup}
use Rattle.mix_tools.specs.Suites.{meaning_for}
use Rattle.mix_top.specs.Acts.{Act, acts_of_all, first_acts}
use Rattle.mix_top.specs.Headline.{AnswersScript, AreKnown, EachShard, EndsBefore, Headline, IsGiven, WasHeld}
use Rattle.mix_top.specs.Program.{Program, no_node, program_from, set_up, setup_of}
use Rattle.mix_top.specs.Progress.{Answered, Answers, Driven, EndsAs, IsServed, Made, SetsUp, program_to_come}
use Rattle.mix_top.specs.Report as report
use Rattle.mix_top.specs.Report.{handed}
use Rattle.mix_top.specs.Run.{Owes, Runs}
use Rattle.mix_top.proofs.Covered.{covers_all}
use Rattle.mix_top.proofs.Disks.{Follows, disks_of_all, known_first, owed_follows, run_arms, run_books, run_count, run_crashes, run_failures}
use Rattle.mix_top.specs.ReceivingLaws.{gave_nothing}
use Rattle.mix_top.proofs.HonestLines.{run_honest}
use Rattle.mix_top.proofs.Once.{ended_covered, run_covered, run_fresh, run_once, was_held_front}

module _ (tells : Type 0) (suite : SuiteMeaning) (setup : NodeSetup) (old new : List RackState) (start end : NodeState) where
  -- of a run that ended where its acts led, or within the next
  pub headline : (ciphertext : ℕ) (acts done rest : List Act) (said : List report.Line) (state : NodeState) (owes : List Act → NodeState → NodeState → Type 0)
      (gives : List report.Line → Type 0) → setup.shards ≤ length old → IsServed setup ciphertext → IsNewNode setup (take setup.shards old) start → acts ≡ done ++ rest
      → Runs tells suite start done said state → owes rest state end → Follows tells suite state end → gives said → AreShardsOf tells suite setup end.shards
      → take setup.shards new ≡ map (λ shard. shard.rack) end.shards → drop setup.shards new ≡ drop setup.shards old
      → Headline tells suite setup acts owes gives old new
  headline ciphertext acts done rest said state owes gives enough served is_new all runs owed follows given kept racks unused =
      let first = take setup.shards old in
      let count = run_count tells suite setup first start is_new done said state end runs follows (length-take-le setup.shards old enough) in
      let books : AreKnown tells old → EachShard end _ =
      λ known. run_books tells suite setup first start is_new done said state end runs follows (known_first tells setup.shards old known) kept in
      record {
        start = start;
        is_new = is_new;
        done = done;
        rest = rest;
        all = all;
        said = said;
        state = state;
        runs = runs;
        end = end;
        owed = owed;
        given = given;
        once = λ known. run_once tells known.0 suite setup first start is_new (known_first tells setup.shards old known).1 done said state runs;
        fresh = λ known. All-weaker (λ pair. ¬ WasHeld setup first pair) (λ pair. ¬ WasHeld setup old pair)
            (λ pair no held. no (was_held_front setup old pair served.allowed.some held)) (handed said)
            (run_fresh tells known.0 suite setup first start is_new (known_first tells setup.shards old known).1 done said state runs);
        honest = run_honest tells suite setup start first is_new served.times done said state runs;
        racks = racks;
        books = books;
        lasting = λ known index shard there. covers_all setup index shard (handed said) (books known index shard there)
            (covered_in known follows index shard there);
        failures = disks_of_all end setup.shards old _ count (run_failures tells suite setup first start is_new done said state end runs follows);
        arms = disks_of_all end setup.shards old _ count (run_arms tells suite setup first start is_new done said state end runs follows);
        crashes = disks_of_all end setup.shards old _ count (run_crashes tells suite setup first start is_new done said state end runs follows);
        unused = unused;
      }
    where
      -- what was handed on is covered where the run came to
      covered_in : AreKnown tells old → Follows tells suite state end → (index : ℕ) (shard : ShardState) → slice_get end.shards index ≡ Some shard
          → (pair : ℕ × List ℕ) → Contains (handed said) pair → place_of setup pair.1 ≡ index → AllCover shard.state.journal pair
      covered_in known (inl same) index shard there =
          run_covered tells known.0 suite setup (take setup.shards old) start is_new (known_first tells setup.shards old known).1 done said state runs
          index shard (subst (λ (node : NodeState). slice_get node.shards index ≡ Some shard) same there)
      covered_in known (inr (act, stopped, ends)) index shard there =
          ended_covered tells known.0 suite setup (take setup.shards old) start is_new (known_first tells setup.shards old known).1 done said state runs
          act stopped end ends index shard there

  -- of events that were answered
  pub events_headline : (ciphertext : ℕ) (events : Option Events) (status : Status) (before after : Option (List ℕ)) → setup.shards ≤ length old → IsServed setup ciphertext
      → IsNewNode setup (take setup.shards old) start → (answers : Answers tells suite events status start end before after)
      → AreShardsOf tells suite setup end.shards → take setup.shards new ≡ map (λ shard. shard.rack) end.shards → drop setup.shards new ≡ drop setup.shards old
      → Headline tells suite setup (first_acts setup.shards ++ acts_of_all setup.shards answers.whole.list) (Owes tells suite answers.whole.ending status)
      (λ said. Gave before after (λ bytes. IsGiven status said bytes)) old new
  events_headline ciphertext events status before after enough served is_new answers kept racks unused =
      headline ciphertext (first_acts setup.shards ++ acts_of_all setup.shards answers.whole.list) answers.done answers.rest answers.said answers.state _ _ enough served is_new
      (ap (λ (s : NodeSetup). first_acts s.shards ++ acts_of_all s.shards answers.whole.list) (sym is_new.setup_is) ∙ answers.all)
      answers.runs answers.owed (owed_follows tells suite answers.whole.ending status answers.rest answers.state end answers.owed) answers.given kept racks unused

-- ---- the disks at return

-- the disks of the node come back in front of the others
pub record Returned (count : ℕ) (old new back : List RackState) : Type 0 where
  pub enough : count ≤ length old
  pub size : length back ≡ count
  pub whole : new ≡ back ++ drop count old

-- those that were taken from the front, and others that were put back there
pub returned : {X : Type 0} (state : X → RackState) (count : ℕ) (old new taken others back : List X) → count ≤ length old → taken ≡ take count old
    → others ≡ drop count old → length back ≡ length taken → new ≡ back ++ others → Returned count (map state old) (map state new) (map state back)
returned state count old new taken others back enough is_first is_rest size is_new = record {
  enough = omega (arith, enough, length-map old state);
  size = length-map back state ∙ size ∙ ap length is_first ∙ length-take-le count old enough;
  whole = ap (map state) is_new ∙ map-append state back others ∙ ap (λ (rest : List RackState). map state back ++ rest) (ap (map state) is_rest ∙ sym (drop-map state count old));
}

-- the states of those that were taken are the first
pub taken_states : {X : Type 0} (state : X → RackState) (count : ℕ) (old taken : List X) → taken ≡ take count old → map state taken ≡ take count (map state old)
taken_states state count old taken is_first = ap (map state) is_first ∙ sym (take-map state count old)

pub first_back : (count : ℕ) (old new back : List RackState) → Returned count old new back → take count new ≡ back
first_back count old new back is =
    ap (take count) is.whole ∙ ap (λ (n : ℕ). take n (back ++ drop count old)) (sym is.size) ∙ take-append_seam back (drop count old)

pub others_back : (count : ℕ) (old new back : List RackState) → Returned count old new back → drop count new ≡ drop count old
others_back count old new back is =
    ap (drop count) is.whole ∙ ap (λ (n : ℕ). drop n (back ++ drop count old)) (sym is.size) ∙ drop-append_seam back (drop count old)

pub all_back : (count : ℕ) (old new back : List RackState) → Returned count old new back → back ≡ take count old → new ≡ old
all_back count old new back is same = is.whole ∙ ap (λ (first : List RackState). first ++ drop count old) same ∙ take-append-drop count old

-- as many as there were
pub all_returned : {X : Type 0} (count : ℕ) (old new taken others back : List X) → taken ≡ take count old → others ≡ drop count old → length back ≡ length taken
    → new ≡ back ++ others → length new ≡ length old
all_returned {X = X} count old new taken others back is_first is_rest size is_new =
    let whole : taken ++ others ≡ old =
    ap (λ (first : List X). first ++ others) is_first ∙ ap (λ (rest : List X). take count old ++ rest) is_rest ∙ take-append-drop count old in
    omega (arith, ap length is_new, length-append back others, size, length-append taken others, ap length whole)

-- ---- a script as a whole

-- no node stood when the script ended
ends_before : (program : Program) (status : Status) → EndsReading status → EndsAs no_node program status → EndsBefore program status
ends_before program (Line number) kind ended = ended
ends_before program ReadFault kind ended = tt
ends_before program Memory kind ended = tt
ends_before program Done kind ended = absurd kind
ends_before program Words kind ended = absurd kind
ends_before program (Key key) kind ended = absurd kind
ends_before program NoThread kind ended = absurd kind
ends_before program NoLine kind ended = absurd kind
ends_before program (Disk node shard) kind ended = absurd kind
ends_before program WriteFault kind ended = absurd kind
ends_before program (Foreign node shard area at) kind ended = absurd kind
ends_before program (OtherShape node shard stored asked) kind ended = absurd kind
ends_before program (NoKey epoch) kind ended = absurd kind

-- a script that ends so before its node is set up, where the source doesn't tell
abbrev ending_before : Status → Ending
ending_before (Line number) = Outside number
ending_before Done = AtEnd
ending_before Words = AtEnd
ending_before (Key key) = AtEnd
ending_before NoThread = AtEnd
ending_before NoLine = AtEnd
ending_before (Disk node shard) = AtEnd
ending_before ReadFault = AtEnd
ending_before WriteFault = AtEnd
ending_before (Foreign node shard area at) = AtEnd
ending_before (OtherShape node shard stored asked) = AtEnd
ending_before Memory = AtEnd
ending_before (NoKey epoch) = AtEnd

ends_unset : (status : Status) → EndsReading status → EndsAs no_node (no_node (ending_before status)) status
ends_unset (Line number) kind = refl
ends_unset ReadFault kind = tt
ends_unset Memory kind = tt
ends_unset Done kind = absurd kind
ends_unset Words kind = absurd kind
ends_unset (Key key) kind = absurd kind
ends_unset NoThread kind = absurd kind
ends_unset NoLine kind = absurd kind
ends_unset (Disk node shard) kind = absurd kind
ends_unset WriteFault kind = absurd kind
ends_unset (Foreign node shard area at) kind = absurd kind
ends_unset (OtherShape node shard stored asked) kind = absurd kind
ends_unset (NoKey epoch) kind = absurd kind

module _ (tells : Type 0) where
  unset : (coming : Option Program) (program : Program) (status : Status) (given : Option (List ℕ)) (racks : List RackState) → IfSome coming (λ told. program ≡ told)
      → EndsBefore program status → Answered tells coming status given given racks racks
  unset coming program status given racks is why = record {
    program = program;
    of_source = is;
    answered = inl (record { why = why; given = gave_nothing given; racks = refl });
  }

  -- the node line wasn't read
  pub answered_unset : (coming : Option Program) (status : Status) (given : Option (List ℕ)) (racks : List RackState) → EndsReading status
      → IfSome coming (λ program. EndsAs no_node program status) → Answered tells coming status given given racks racks
  answered_unset None status given racks kind ended =
      unset None (no_node (ending_before status)) status given racks tt (ends_before (no_node (ending_before status)) status kind (ends_unset status kind))
  answered_unset (Some program) status given racks kind ended = unset (Some program) program status given racks refl (ends_before program status kind ended)

  -- memory ran out before there was a node
  pub answered_unmade : (coming : Option Program) (given : Option (List ℕ)) (racks : List RackState) → Answered tells coming Memory given given racks racks
  answered_unmade None given racks = unset None (no_node AtEnd) Memory given racks tt tt
  answered_unmade (Some program) given racks = unset (Some program) program Memory given racks refl tt

  program_is : (node : NodeLine) (coming : Option Program) (events : Option Events) (whole : Events) → SetsUp node coming events → IfSome events (λ told. whole ≡ told)
      → IfSome coming (λ told. set_up node whole ≡ told)
  program_is node None events whole sets is = tt
  program_is node (Some program) None whole sets is = absurd sets
  program_is node (Some program) (Some events) whole sets is = ap (set_up node) is ∙ sym sets

  answered_made : (node : NodeLine) (ciphertext : ℕ) (coming : Option Program) (events : Option Events) (status : Status) (before after : Option (List ℕ)) (old new back : List RackState)
      → IsServed (setup_of node) ciphertext → SetsUp node coming events → Returned node.shards old new back
      → Made tells (meaning_for node.ntru) (setup_of node) events status before after (take node.shards old) back
      → Answered tells coming status before after old new
  answered_made node ciphertext coming events status before after old new back served sets returned made = record {
    program = set_up node made.answers.whole;
    of_source = program_is node coming events made.answers.whole sets made.answers.of_source;
    answered = inr (
      node,
      refl,
      events_headline tells (meaning_for node.ntru) (setup_of node) old new made.start made.end ciphertext events status before after returned.enough served made.is_new made.answers
          made.kept (first_back node.shards old new back returned ∙ made.racks) (others_back node.shards old new back returned),
    );
  }

  answered_driven : (node : NodeLine) (ciphertext : ℕ) (coming : Option Program) (events : Option Events) (status : Status) (before after : Option (List ℕ)) (old new back : List RackState)
      → IsServed (setup_of node) ciphertext → SetsUp node coming events → Returned node.shards old new back
      → Driven tells (meaning_for node.ntru) (setup_of node) events status before after (take node.shards old) back
      → Answered tells coming status before after old new
  answered_driven node ciphertext coming events status before after old new back served sets returned (inl unmade) =
      subst (λ (s : Status). Answered tells coming s before after old new) (sym unmade.memory)
      (subst (λ (g : Option (List ℕ)). Answered tells coming Memory before g old new) (sym unmade.given)
      (subst (λ (racks : List RackState). Answered tells coming Memory before before old racks) (sym (all_back node.shards old new back returned unmade.racks))
      (answered_unmade coming before old)))
  answered_driven node ciphertext coming events status before after old new back served sets returned (inr made) =
      answered_made node ciphertext coming events status before after old new back served sets returned made

  -- the node was driven over the first of the disks, and these were put back in front of the others
  pub answered_over : {X : Type 0} (state : X → RackState) (node : NodeLine) (ciphertext : ℕ) (coming : Option Program) (events : Option Events) (status : Status) (before after : Option (List ℕ))
      (old new taken others back : List X) → IsServed (setup_of node) ciphertext → SetsUp node coming events → node.shards ≤ length old → taken ≡ take node.shards old
      → others ≡ drop node.shards old → length back ≡ length taken → new ≡ back ++ others
      → Driven tells (meaning_for node.ntru) (setup_of node) events status before after (map state taken) (map state back)
      → Answered tells coming status before after (map state old) (map state new)
  answered_over state node ciphertext coming events status before after old new taken others back served sets enough is_first is_rest size is_new driven =
      answered_driven node ciphertext coming events status before after (map state old) (map state new) (map state back) served sets
      (returned state node.shards old new taken others back enough is_first is_rest size is_new)
      (subst (λ (racks : List RackState). Driven tells (meaning_for node.ntru) (setup_of node) events status before after racks (map state back))
      (taken_states state node.shards old taken is_first) driven)

-- the script that a source told was answered
pub script_answered : (tells : Type 0) (left : Option (List ℕ)) (status : Status) (before after : Option (List ℕ)) (old new : List RackState)
    → Answered tells (option_map (program_from 1) (option_map (lines_from 0) left)) status before after old new
    → AnswersScript tells left status before after old new
script_answered tells None status before after old new is = record { program = is.program; of_source = tt; answered = is.answered }
script_answered tells (Some script) status before after old new is = record { program = is.program; of_source = is.of_source; answered = is.answered }

-- at the start of a script the program to come is that of the whole script
pub program_at_start : {I : Type 0} {G : Ghosts I} (reader : LineReader I G) (left : Option (List ℕ))
    → lines_given reader ≡ 0 → coming reader ≡ option_map (lines_from 0) left
    → program_to_come reader ≡ option_map (program_from 1) (option_map (lines_from 0) left)
program_at_start reader left first lines =
    ap (λ (number : ℕ). option_map (program_from (number + 1)) (coming reader)) first ∙ ap (option_map (program_from 1)) lines
