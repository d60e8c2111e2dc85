-- How far the events of a script have been answered: at first, by each event, and where the run ends.
use Rattle.std.proofs.Common.{◌≡◌, ℕ, zero, suc, List, [], ◌∷◌, ◌++◌, inl, inr, refl, ap, ◌∙◌, sym, subst, append_assoc, Option, Some, None, IsSome, IfSome, IsSomeAnd, arith, rules}
use Rattle.std.proofs.lemmas.List.{append-nil}
use Rattle.std.proofs.lemmas.Grind.{flat_map-append}
use Rattle.mix_base.specs.Suites.{SuiteMeaning}
use Rattle.mix_base.specs.declared.reading.Source.{Ghosts}
use Rattle.lab_text.specs.Given.{Gave}
use Rattle.lab_text.specs.Readers.{ReachesEnd, SourceGoesOn, source_of}
use Rattle.lab_text.specs.Script.{Ending, AtEnd, Outside, Events, ends, in_front}
use Rattle.lab_text.specs.declared.events.Event.{Event}
use Rattle.lab_text.specs.declared.lines.LineReader.{LineReader}
use Rattle.lab_text.specs.declared.statuses.Status.{Status}
use Rattle.lab_text.specs.declared.statuses.Status.TheVariants.{Done, Words, Line, Key, ReadFault, WriteFault, Foreign, OtherShape, Memory, NoThread, NoKey, NoLine, Disk}
use Rattle.node_core.specs.Nodes.{NodeState}
use Rattle.node_core.specs.declared.setup.NodeSetup.{NodeSetup}
use Rattle.mix_top.specs.Acts.{Act, Opens, acts_of, acts_of_all, first_acts, of_each}
use Rattle.mix_top.specs.declared.serving.Round.TheVariants as rounds
use Rattle.mix_top.specs.Headline.{IsGiven}
use Rattle.mix_top.specs.Progress.{Answers, Breaks, EndsAs, EndsEvents, Follows, Goes, IsNext, Progress, Stops, TakenOf, act_at}
use Rattle.mix_top.specs.Receiving.{GaveFront, GaveText, TakesInTurn}
use Rattle.mix_top.specs.ReceivingLaws.{sink_takes}
use Rattle.mix_top.specs.Report as report
use Rattle.mix_top.specs.Run.{Owes}
use Rattle.mix_top.proofs.ServedActs.{breaks_then, ends_more, goes_then}
use Rattle.mix_top.proofs.Taking.{taken_whole}

-- ---- the first round, and events and those behind them

open_acts : (first count : ℕ) → of_each (act_at rounds.Open) first count ≡ of_each Opens first count
open_acts first zero = refl
open_acts first (suc count) = ap (λ (acts : List Act). Opens first ∷ acts) (open_acts (suc first) count)

pub first_round : (setup : NodeSetup) (start : NodeState) → start.setup ≡ setup → of_each (act_at rounds.Open) 0 setup.shards ≡ first_acts start.setup.shards
first_round setup start same = open_acts 0 setup.shards ∙ ap (λ (s : NodeSetup). first_acts s.shards) (sym same)

-- the next of the events to come goes behind those that were done
pub follows_next : (whole rest more : Events) (done : List (ℕ × Event)) (event : ℕ × Event) → Follows whole rest done → rest ≡ in_front event more
    → Follows whole more (done ++ event ∷ [])
follows_next whole rest more done event follows next = record {
  list = follows.list ∙ ap (λ (events : Events). done ++ events.list) next ∙ sym (append_assoc done (event ∷ []) more.list);
  ending = follows.ending ∙ ap (λ (events : Events). events.ending) next;
}

module _ (shards : ℕ) where
  acts_behind : (first : List Act) (done others : List (ℕ × Event)) → first ++ acts_of_all shards (done ++ others) ≡ (first ++ acts_of_all shards done) ++ acts_of_all shards others
  acts_behind first done others =
      ap (λ (acts : List Act). first ++ acts) (flat_map-append (λ (event : ℕ × Event). acts_of shards event.1) done others)
      ∙ sym (append_assoc first (acts_of_all shards done) (acts_of_all shards others))

  -- those of one event behind others, and before others
  acts_pushed : (first : List Act) (done : List (ℕ × Event)) (event : ℕ × Event)
      → first ++ acts_of_all shards (done ++ event ∷ []) ≡ (first ++ acts_of_all shards done) ++ acts_of shards event.1
  acts_pushed first done event =
      acts_behind first done (event ∷ []) ∙ ap (λ (acts : List Act). (first ++ acts_of_all shards done) ++ acts) (append-nil (acts_of shards event.1))

  acts_between : (first : List Act) (done : List (ℕ × Event)) (event : ℕ × Event) (others : List (ℕ × Event))
      → first ++ acts_of_all shards (done ++ event ∷ others) ≡ ((first ++ acts_of_all shards done) ++ acts_of shards event.1) ++ acts_of_all shards others
  acts_between first done event others =
      acts_behind first done (event ∷ others) ∙ sym (append_assoc (first ++ acts_of_all shards done) (acts_of shards event.1) (acts_of_all shards others))

-- ---- what a status says

-- where the acts of an event ended the run, it owes the same of the script, whatever acts follow
owed_at_break : (tells : Type 0) (suite : SuiteMeaning) (ending : Ending) (status : Status) (rest others : List Act) (state end : NodeState)
    → Stops tells suite status rest state end → Owes tells suite ending status (rest ++ others) state end
owed_at_break tells suite ending WriteFault rest others state end stops = stops
owed_at_break tells suite ending Memory rest others state end (inl same) = inl same
owed_at_break tells suite ending Memory rest others state end (inr next) = inr (ends_more tells suite Memory rest others state end next)
owed_at_break tells suite ending (Foreign node shard area at) rest others state end stops = ends_more tells suite (Foreign node shard area at) rest others state end stops
owed_at_break tells suite ending (OtherShape node shard stored asked) rest others state end stops = ends_more tells suite (OtherShape node shard stored asked) rest others state end stops
owed_at_break tells suite ending (NoKey epoch) rest others state end stops = ends_more tells suite (NoKey epoch) rest others state end stops
owed_at_break tells suite ending Done rest others state end stops = absurd stops
owed_at_break tells suite ending Words rest others state end stops = absurd stops
owed_at_break tells suite ending (Key key) rest others state end stops = absurd stops
owed_at_break tells suite ending NoThread rest others state end stops = absurd stops
owed_at_break tells suite ending NoLine rest others state end stops = absurd stops
owed_at_break tells suite ending (Disk node shard) rest others state end stops = absurd stops
owed_at_break tells suite ending (Line number) rest others state end stops = absurd stops
owed_at_break tells suite ending ReadFault rest others state end stops = absurd stops

-- where no further event was read
owed_at_stop : (tells : Type 0) (suite : SuiteMeaning) (shards : ℕ) (status : Status) (rest : Events) (state : NodeState) → EndsEvents status → EndsAs ends rest status
    → Owes tells suite rest.ending status (acts_of_all shards rest.list) state state
owed_at_stop tells suite shards Done rest state kind ended =
    (ap (λ (events : Events). events.ending) ended, ap (λ (events : Events). acts_of_all shards events.list) ended, refl)
owed_at_stop tells suite shards (Line number) rest state kind ended =
    (ap (λ (events : Events). events.ending) ended, ap (λ (events : Events). acts_of_all shards events.list) ended, refl)
owed_at_stop tells suite shards ReadFault rest state kind ended = refl
owed_at_stop tells suite shards Memory rest state kind ended = inl refl
owed_at_stop tells suite shards WriteFault rest state kind ended = absurd kind
owed_at_stop tells suite shards (Foreign node shard area at) rest state kind ended = absurd kind
owed_at_stop tells suite shards (OtherShape node shard stored asked) rest state kind ended = absurd kind
owed_at_stop tells suite shards (NoKey epoch) rest state kind ended = absurd kind
owed_at_stop tells suite shards Words rest state kind ended = absurd kind
owed_at_stop tells suite shards (Key key) rest state kind ended = absurd kind
owed_at_stop tells suite shards NoThread rest state kind ended = absurd kind
owed_at_stop tells suite shards NoLine rest state kind ended = absurd kind
owed_at_stop tells suite shards (Disk node shard) rest state kind ended = absurd kind

-- a sink takes lines in turn
on_sink : TakesInTurn GaveText GaveFront
on_sink = sink_takes {R = Option (List ℕ)} (λ given. given)

-- what a sink took of a report, as what it was given
given_of : (status : Status) (said : List report.Line) (before after : Option (List ℕ)) → TakenOf (GaveText before after) (GaveFront before after) status said
    → Gave before after (λ bytes. IsGiven status said bytes)
given_of WriteFault said before after taken = taken
given_of Memory said before after taken = taken
given_of Done said before after taken = taken
given_of Words said before after taken = taken
given_of (Key key) said before after taken = taken
given_of NoThread said before after taken = taken
given_of NoLine said before after taken = taken
given_of (Disk node shard) said before after taken = taken
given_of (Line number) said before after taken = taken
given_of ReadFault said before after taken = taken
given_of (Foreign node shard area at) said before after taken = taken
given_of (OtherShape node shard stored asked) said before after taken = taken
given_of (NoKey epoch) said before after taken = taken

-- how a script ends that a source doesn't tell, by the status
abbrev ending_for : Status → Ending
ending_for (Line number) = Outside number
ending_for Done = AtEnd
ending_for Words = AtEnd
ending_for (Key key) = AtEnd
ending_for NoThread = AtEnd
ending_for NoLine = AtEnd
ending_for (Disk node shard) = AtEnd
ending_for ReadFault = AtEnd
ending_for WriteFault = AtEnd
ending_for (Foreign node shard area at) = AtEnd
ending_for (OtherShape node shard stored asked) = AtEnd
ending_for Memory = AtEnd
ending_for (NoKey epoch) = AtEnd

ends_so : (status : Status) → EndsEvents status → EndsAs ends (ends (ending_for status)) status
ends_so Done kind = refl
ends_so (Line number) kind = refl
ends_so ReadFault kind = tt
ends_so Memory kind = tt
ends_so WriteFault kind = absurd kind
ends_so (Foreign node shard area at) kind = absurd kind
ends_so (OtherShape node shard stored asked) kind = absurd kind
ends_so (NoKey epoch) kind = absurd kind
ends_so Words kind = absurd kind
ends_so (Key key) kind = absurd kind
ends_so NoThread kind = absurd kind
ends_so NoLine kind = absurd kind
ends_so (Disk node shard) kind = absurd kind

-- ---- progress

module _ (tells : Type 0) (suite : SuiteMeaning) (start : NodeState) where
  abbrev acts_for : List (ℕ × Event) → List Act
  acts_for done = first_acts start.setup.shards ++ acts_of_all start.setup.shards done

  -- the journals were opened
  pub progress_begins : (whole : Option Events) (node : NodeState) (before after : Option (List ℕ)) → Goes tells suite (first_acts start.setup.shards) start node (GaveText before after)
      → Progress tells suite whole whole start node before after
  progress_begins whole node before after goes = record {
    done = [];
    follows = all_to_come whole;
    goes = subst (λ (acts : List Act). Goes tells suite acts start node (GaveText before after)) (sym (append-nil (first_acts start.setup.shards))) goes;
  }
    where
      all_to_come : (whole : Option Events) → IfSome whole (λ all. IsSomeAnd whole (λ more. Follows all more []))
      all_to_come None = tt
      all_to_come (Some all) = record { list = refl; ending = refl }

  -- an event was answered
  pub progress_goes_on : (whole rest more : Option Events) (node new : NodeState) (event : ℕ × Event) (before after last : Option (List ℕ))
      → Progress tells suite whole rest start node before after → IsNext event rest more
      → Goes tells suite (acts_of start.setup.shards event.1) node new (GaveText after last) → Progress tells suite whole more start new before last
  progress_goes_on whole rest more node new event before after last so_far next goes = record {
    done = so_far.done ++ event ∷ [];
    follows = pushed whole rest more so_far.follows next;
    goes = subst (λ (acts : List Act). Goes tells suite acts start new (GaveText before last))
        (sym (acts_pushed start.setup.shards (first_acts start.setup.shards) so_far.done event))
        (goes_then tells suite on_sink (acts_for so_far.done) (acts_of start.setup.shards event.1) start node new before after last so_far.goes goes);
  }
    where
      pushed : (whole rest more : Option Events) → IfSome whole (λ all. IsSomeAnd rest (λ others. Follows all others so_far.done)) → IsNext event rest more
          → IfSome whole (λ all. IsSomeAnd more (λ others. Follows all others (so_far.done ++ event ∷ [])))
      pushed None rest more follows next = tt
      pushed (Some all) None more follows next = absurd follows
      pushed (Some all) (Some others) None follows next = absurd next
      pushed (Some all) (Some others) (Some fewer) follows next = follows_next all others fewer so_far.done event follows next

  -- no further event was read
  stopped : (whole : Events) (told : Option Events) (rest : Events) (done : List (ℕ × Event)) (node : NodeState) (before after : Option (List ℕ)) (status : Status)
      → IfSome told (λ all. whole ≡ all) → Follows whole rest done → Goes tells suite (acts_for done) start node (GaveText before after) → EndsEvents status → EndsAs ends rest status
      → Answers tells suite told status start node before after
  stopped whole told rest done node before after status is follows goes kind ended = record {
    whole = whole;
    of_source = is;
    done = acts_for done;
    rest = acts_of_all start.setup.shards rest.list;
    all = ap (λ (events : List (ℕ × Event)). acts_for events) follows.list ∙ acts_behind start.setup.shards (first_acts start.setup.shards) done rest.list;
    said = goes.said;
    state = node;
    runs = goes.runs;
    owed = subst (λ (e : Ending). Owes tells suite e status (acts_of_all start.setup.shards rest.list) node node) (sym follows.ending)
        (owed_at_stop tells suite start.setup.shards status rest node kind ended);
    given = given_of status goes.said before after (taken_whole on_sink status before after goes.said goes.taken);
  }

  pub answers_stop : (whole rest : Option Events) (node : NodeState) (before after : Option (List ℕ)) (status : Status)
      → Progress tells suite whole rest start node before after → EndsEvents status → IfSome rest (λ events. EndsAs ends events status)
      → Answers tells suite whole status start node before after
  answers_stop whole rest node before after status so_far kind ended = by_told whole rest so_far.follows ended
    where
      by_told : (whole rest : Option Events) → IfSome whole (λ all. IsSomeAnd rest (λ others. Follows all others so_far.done)) → IfSome rest (λ events. EndsAs ends events status)
          → Answers tells suite whole status start node before after
      by_told None rest follows ended =
          stopped (record { list = so_far.done; ending = ending_for status }) None (ends (ending_for status)) so_far.done node before after status tt
          (record { list = sym (append-nil so_far.done); ending = refl }) so_far.goes kind (ends_so status kind)
      by_told (Some all) None follows ended = absurd follows
      by_told (Some all) (Some others) follows ended = stopped all (Some all) others so_far.done node before after status refl follows so_far.goes kind ended

  -- an event ended the run
  broken : (whole : Events) (told : Option Events) (others : List Act) (acts : List Act) (node : NodeState) (before after : Option (List ℕ)) (status : Status)
      → IfSome told (λ all. whole ≡ all) → acts_for whole.list ≡ acts ++ others → Breaks tells suite acts status start node (GaveText before after) (GaveFront before after)
      → Answers tells suite told status start node before after
  broken whole told others acts node before after status is all breaks = record {
    whole = whole;
    of_source = is;
    done = breaks.done;
    rest = breaks.rest ++ others;
    all = all ∙ ap (λ (list : List Act). list ++ others) breaks.all ∙ append_assoc breaks.done breaks.rest others;
    said = breaks.said;
    state = breaks.state;
    runs = breaks.runs;
    owed = owed_at_break tells suite whole.ending status breaks.rest others breaks.state node breaks.stops;
    given = given_of status breaks.said before after breaks.taken;
  }

  -- the first round did
  pub answers_unopened : (whole : Option Events) (node : NodeState) (before after : Option (List ℕ)) (status : Status)
      → Breaks tells suite (first_acts start.setup.shards) status start node (GaveText before after) (GaveFront before after) → Answers tells suite whole status start node before after
  answers_unopened None node before after status breaks =
      broken (ends AtEnd) None [] (first_acts start.setup.shards) node before after status tt refl breaks
  answers_unopened (Some all) node before after status breaks =
      broken all (Some all) (acts_of_all start.setup.shards all.list) (first_acts start.setup.shards) node before after status refl refl breaks

  pub answers_broken : (whole rest more : Option Events) (node new : NodeState) (event : ℕ × Event) (before after last : Option (List ℕ)) (status : Status)
      → Progress tells suite whole rest start node before after → IsNext event rest more
      → Breaks tells suite (acts_of start.setup.shards event.1) status node new (GaveText after last) (GaveFront after last) → Answers tells suite whole status start new before last
  answers_broken whole rest more node new event before after last status so_far next breaks = by_told whole rest more so_far.follows next
    where
      acts : List Act
      acts = acts_for so_far.done ++ acts_of start.setup.shards event.1

      both : Breaks tells suite acts status start new (GaveText before last) (GaveFront before last)
      both = breaks_then tells suite on_sink (acts_for so_far.done) (acts_of start.setup.shards event.1) status start node new before after last so_far.goes breaks

      by_told : (whole rest more : Option Events) → IfSome whole (λ all. IsSomeAnd rest (λ others. Follows all others so_far.done)) → IsNext event rest more
          → Answers tells suite whole status start new before last
      by_told None rest more follows next =
          broken (record { list = so_far.done ++ event ∷ []; ending = AtEnd }) None [] acts new before last status tt
          (acts_pushed start.setup.shards (first_acts start.setup.shards) so_far.done event ∙ sym (append-nil acts)) both
      by_told (Some all) None more follows next = absurd follows
      by_told (Some all) (Some others) None follows next = absurd next
      by_told (Some all) (Some others) (Some fewer) follows next =
          broken all (Some all) (acts_of_all start.setup.shards fewer.list) acts new before last status refl
          (ap (λ (events : List (ℕ × Event)). acts_for events) (follows.list ∙ ap (λ (e : Events). so_far.done ++ e.list) next)
          ∙ acts_between start.setup.shards (first_acts start.setup.shards) so_far.done event fewer.list) both

-- ---- the source

-- a source that told goes on telling
tells_on : (first now next : Option (List ℕ)) → IfSome first (λ _. IsSome now) → IfSome now (λ _. IsSome next) → IfSome first (λ _. IsSome next)
tells_on None now next told tells = tt
tells_on (Some bytes) (Some left) next told tells = tells
tells_on (Some bytes) None next told tells = absurd (search rules)

told_still : (left : Option (List ℕ)) → IfSome left (λ _. IsSome left)
told_still None = tt
told_still (Some bytes) = search rules

pub source_stays : {I : Type 0} {G : Ghosts I} (reader : LineReader I G) → SourceGoesOn reader reader
source_stays {G = G} reader = record { tells = told_still (G.left (source_of reader)); faults = omega arith; same_reference = refl }

-- it is at its end
pub reaches_end : (first now next : Option (List ℕ)) → IfSome first (λ _. IsSome now) → ReachesEnd now next → ReachesEnd first next
reaches_end None now next told ended = tt
reaches_end (Some bytes) (Some left) next told ended = ended
reaches_end (Some bytes) None next told ended = absurd (search rules)

pub source_goes_on : {I : Type 0} {G : Ghosts I} (first now next : LineReader I G) → SourceGoesOn first now → SourceGoesOn now next → SourceGoesOn first next
source_goes_on {G = G} first now next was is = record {
  tells = tells_on (G.left (source_of first)) (G.left (source_of now)) (G.left (source_of next)) was.tells is.tells;
  faults = omega (arith, was.faults, is.faults);
  same_reference = is.same_reference ∙ was.same_reference;
}
