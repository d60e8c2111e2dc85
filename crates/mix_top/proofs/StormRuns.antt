-- How far the events of a storm have come: at first, by each packet, where the run ends, and at the end.
use Rattle.std.proofs.Common.{◌≡◌, ℕ, zero, suc, ◌+◌, ◌-◌, ◌<◌, ◌≤◌, List, [], ◌∷◌, ◌++◌, inl, inr, refl, ap, ◌∙◌, sym, subst, append_assoc, replicate, Option, Some, None, Result, Ok, Err, arith}
use Rattle.std.proofs.lemmas.List.{append-nil}
use Rattle.std.proofs.lemmas.Grind.{flat_map-append}
use Rattle.mix_base.specs.Faults.{Rose}
use Rattle.mix_base.specs.Suites.{SuiteMeaning}
use Rattle.epoch_keys.specs.Faults.{IfNoKey}
use Rattle.epoch_keys.specs.declared.faults.KeyFault.{KeyFault}
use Rattle.epoch_keys.specs.declared.faults.KeyFault.TheVariants as faults
use Rattle.lab_text.specs.declared.events.Event.{Event}
use Rattle.lab_text.specs.declared.events.Event.TheVariants.{Send}
use Rattle.lab_text.specs.declared.statuses.Status.{Status}
use Rattle.lab_text.specs.declared.statuses.Status.TheVariants.{Done, Words, Line, Key, ReadFault, WriteFault, Foreign, OtherShape, Memory, NoThread, NoKey, NoLine, Disk}
use Rattle.node_core.specs.Nodes.{NodeState}
use Rattle.node_core.specs.declared.setup.NodeSetup.{NodeSetup}
use Rattle.mix_top.specs.declared.serving.Round.TheVariants as rounds
use Rattle.mix_top.specs.Acts.{Act, Opens, Sends, acts_of, first_acts, of_each}
use Rattle.mix_top.specs.Progress.{Breaks, Goes, GoesOn, Serves, Stops, act_at}
use Rattle.mix_top.specs.Receiving.{TakesInTurn}
use Rattle.mix_top.specs.Report as report
use Rattle.mix_top.specs.Storm.{AtEnd, Course, Keyless, Making, StormEnding, before_course, course_from, course_of, epoch_of, events_of, moment_of, next_packet, storm_acts}
use Rattle.mix_top.specs.StormHeadline.{OwesStorm}
use Rattle.mix_top.specs.Storming.{AllServed, IsAtFirst, IsStop, LacksKey, StormEnds, StormProgress, StormStops, Storms, acts_of_events, keyless_status, making_at}
use Rattle.mix_top.proofs.ServedActs.{breaks_before, breaks_then, ends_more, goes_then, serves_behind}

-- ---- acts of events

pub acts_of_events-append : (shards : ℕ) (done events : List Event) → acts_of_events shards (done ++ events) ≡ acts_of_events shards done ++ acts_of_events shards events
acts_of_events-append shards done events = flat_map-append (acts_of shards) done events

-- so many hand-ons at one moment
pub acts_of_sends : (shards count first moment : ℕ) → acts_of_events shards (replicate count (Send moment)) ≡ of_each (λ place. Sends moment) first count
acts_of_sends shards zero first moment = refl
acts_of_sends shards (suc count) first moment = ap (λ (acts : List Act). Sends moment ∷ acts) (acts_of_sends shards count (suc first) moment)

-- ---- what a status says

-- where acts ended the run, but for a sink, of which a storm has none yet
owed_at_break : (tells : Type 0) (suite : SuiteMeaning) (ending : StormEnding) (status : Status) (rest others : List Act) (state end : NodeState)
    → (status ≡ WriteFault → ⊥) → Stops tells suite status rest state end → OwesStorm tells suite ending status (rest ++ others) state end
owed_at_break tells suite ending WriteFault rest others state end never stops = absurd (never refl)
owed_at_break tells suite ending Memory rest others state end never (inl same) = inl same
owed_at_break tells suite ending Memory rest others state end never (inr next) = inr (ends_more tells suite Memory rest others state end next)
owed_at_break tells suite ending (Foreign node shard area at) rest others state end never stops = ends_more tells suite (Foreign node shard area at) rest others state end stops
owed_at_break tells suite ending (OtherShape node shard stored asked) rest others state end never stops = ends_more tells suite (OtherShape node shard stored asked) rest others state end stops
owed_at_break tells suite ending (NoKey epoch) rest others state end never stops = inr (ends_more tells suite (NoKey epoch) rest others state end stops)
owed_at_break tells suite ending Done rest others state end never stops = absurd stops
owed_at_break tells suite ending Words rest others state end never stops = absurd stops
owed_at_break tells suite ending (Key key) rest others state end never stops = absurd stops
owed_at_break tells suite ending NoThread rest others state end never stops = absurd stops
owed_at_break tells suite ending NoLine rest others state end never stops = absurd stops
owed_at_break tells suite ending (Disk node shard) rest others state end never stops = absurd stops
owed_at_break tells suite ending (Line number) rest others state end never stops = absurd stops
owed_at_break tells suite ending ReadFault rest others state end never stops = absurd stops

stop_kind : (tells : Type 0) (suite : SuiteMeaning) (status : Status) (rest : List Act) (state end : NodeState)
    → (status ≡ WriteFault → ⊥) → Stops tells suite status rest state end → IsStop status
stop_kind tells suite WriteFault rest state end never stops = absurd (never refl)
stop_kind tells suite Memory rest state end never stops = tt
stop_kind tells suite (Foreign node shard area at) rest state end never stops = tt
stop_kind tells suite (OtherShape node shard stored asked) rest state end never stops = tt
stop_kind tells suite (NoKey epoch) rest state end never stops = tt
stop_kind tells suite Done rest state end never stops = absurd stops
stop_kind tells suite Words rest state end never stops = absurd stops
stop_kind tells suite (Key key) rest state end never stops = absurd stops
stop_kind tells suite NoThread rest state end never stops = absurd stops
stop_kind tells suite NoLine rest state end never stops = absurd stops
stop_kind tells suite (Disk node shard) rest state end never stops = absurd stops
stop_kind tells suite (Line number) rest state end never stops = absurd stops
stop_kind tells suite ReadFault rest state end never stops = absurd stops

-- ---- one packet more

module _ (suite : SuiteMeaning) (setup : NodeSetup) where
  -- its events come in front of those behind it
  course_goes_on : (more number : ℕ) (making next : Making) (packet : List ℕ) → next_packet suite setup number making ≡ Some (packet, next)
      → course_from suite setup (suc more) number making ≡ before_course (events_of number packet) (course_from suite setup more (number + 1) next)
  course_goes_on more number making next packet made = rw made refl

  course_stops : (more number : ℕ) (making : Making) → next_packet suite setup number making ≡ None
      → course_from suite setup (suc more) number making ≡ record { events = []; ending = Keyless (epoch_of setup number) }
  course_stops more number making none = rw none refl

-- the acts of a storm whose first events are these
acts_behind : (setup : NodeSetup) (course rest : Course) (done : List Event) → course ≡ before_course done rest
    → storm_acts setup course ≡ (first_acts setup.shards ++ acts_of_events setup.shards done) ++ acts_of_events setup.shards rest.events
acts_behind setup course rest done same =
    ap (storm_acts setup) same ∙ ap (λ (acts : List Act). first_acts setup.shards ++ acts) (acts_of_events-append setup.shards done rest.events)
    ∙ sym (append_assoc (first_acts setup.shards) (acts_of_events setup.shards done) (acts_of_events setup.shards rest.events))

module _ (tells : Type 0) (suite : SuiteMeaning) (setup : NodeSetup) (count : ℕ) (start : NodeState) {R : Type 0} {took took_front : R → R → List report.Line → Type 0} (in_turn : TakesInTurn took took_front) where
  abbrev acts_done : List Event → List Act
  acts_done done = first_acts setup.shards ++ acts_of_events setup.shards done

  -- the journals were opened
  pub storm_begins : (words : ℕ → ℕ) (last : Option (List ℕ)) (node : NodeState) (before after : R) → IsAtFirst setup.seed words last
      → Goes tells suite (first_acts setup.shards) start node (took before after)
      → StormProgress tells suite setup count count 0 (making_at words last) start node (took before after)
  storm_begins words last node before after first goes = record {
    done = [];
    course = ap (course_from suite setup count 0) (λ i. making_at (λ place. sym (first.words_are place) i) (sym first.last_is i));
    goes = subst (λ (acts : List Act). Goes tells suite acts start node (took before after)) (sym (append-nil (first_acts setup.shards))) goes;
  }

  -- a packet's events were answered
  pub storm_goes_on : (more number : ℕ) (making next : Making) (packet : List ℕ) (node new : NodeState) (before middle after : R)
      → StormProgress tells suite setup count (suc more) number making start node (took before middle)
      → next_packet suite setup number making ≡ Some (packet, next)
      → Goes tells suite (acts_of_events setup.shards (events_of number packet)) node new (took middle after)
      → StormProgress tells suite setup count more (number + 1) next start new (took before after)
  storm_goes_on more number making next packet node new before middle after so_far made goes = record {
    done = so_far.done ++ events_of number packet;
    course = so_far.course ∙ ap (before_course so_far.done) (course_goes_on suite setup more number making next packet made)
        ∙ ap (λ (events : List Event). record { events = events; ending = (course_from suite setup more (number + 1) next).ending })
        (sym (append_assoc so_far.done (events_of number packet) (course_from suite setup more (number + 1) next).events));
    goes = subst (λ (acts : List Act). Goes tells suite acts start new (took before after))
        (append_assoc (first_acts setup.shards) (acts_of_events setup.shards so_far.done) (acts_of_events setup.shards (events_of number packet))
        ∙ ap (λ (acts : List Act). first_acts setup.shards ++ acts) (sym (acts_of_events-append setup.shards so_far.done (events_of number packet))))
        (goes_then tells suite in_turn (acts_done so_far.done) (acts_of_events setup.shards (events_of number packet)) start node new before middle after so_far.goes goes);
  }

  -- ---- where the run ends

  -- within acts, the first of those that are still to come
  broken : (status : Status) (acts others : List Act) (end : NodeState) (before after : R) → (status ≡ WriteFault → ⊥)
      → storm_acts setup (course_of suite setup count) ≡ acts ++ others → Breaks tells suite acts status start end (took before after) (took_front before after)
      → StormStops tells suite setup (course_of suite setup count) status start end
  broken status acts others end before after never all breaks = record {
    done = breaks.done;
    rest = breaks.rest ++ others;
    all = all ∙ ap (λ (list : List Act). list ++ others) breaks.all ∙ append_assoc breaks.done breaks.rest others;
    said = breaks.said;
    state = breaks.state;
    runs = breaks.runs;
    owed = owed_at_break tells suite (course_of suite setup count).ending status breaks.rest others breaks.state end never breaks.stops;
    kind = stop_kind tells suite status breaks.rest breaks.state end never breaks.stops;
  }

  pub storm_unopened : (status : Status) (end : NodeState) (before after : R) → (status ≡ WriteFault → ⊥)
      → Breaks tells suite (first_acts setup.shards) status start end (took before after) (took_front before after)
      → StormStops tells suite setup (course_of suite setup count) status start end
  storm_unopened status end before after never breaks =
      broken status (first_acts setup.shards) (acts_of_events setup.shards (course_of suite setup count).events) end before after never refl breaks

  pub storm_broken : (more number : ℕ) (making next : Making) (packet : List ℕ) (status : Status) (node end : NodeState) (before middle after : R)
      → (status ≡ WriteFault → ⊥) → StormProgress tells suite setup count (suc more) number making start node (took before middle)
      → next_packet suite setup number making ≡ Some (packet, next)
      → Breaks tells suite (acts_of_events setup.shards (events_of number packet)) status node end (took middle after) (took_front middle after)
      → StormStops tells suite setup (course_of suite setup count) status start end
  storm_broken more number making next packet status node end before middle after never so_far made breaks =
      let others = course_from suite setup more (number + 1) next in
      let of_packet = acts_of_events setup.shards (events_of number packet) in
      broken status (acts_done so_far.done ++ of_packet) (acts_of_events setup.shards others.events) end before after never
      (acts_behind setup (course_of suite setup count) (course_from suite setup (suc more) number making) so_far.done so_far.course
      ∙ ap (λ (rest : Course). acts_done so_far.done ++ acts_of_events setup.shards rest.events) (course_goes_on suite setup more number making next packet made)
      ∙ ap (λ (acts : List Act). acts_done so_far.done ++ acts) (acts_of_events-append setup.shards (events_of number packet) others.events)
      ∙ sym (append_assoc (acts_done so_far.done) of_packet (acts_of_events setup.shards others.events)))
      (breaks_then tells suite in_turn (acts_done so_far.done) of_packet status start node end before middle after so_far.goes breaks)

  -- before a packet whose epoch has no key pair
  pub storm_keyless : (more number epoch : ℕ) (making : Making) (node : NodeState) (before after : R)
      → StormProgress tells suite setup count (suc more) number making start node (took before after)
      → LacksKey suite setup number epoch → next_packet suite setup number making ≡ None
      → StormStops tells suite setup (course_of suite setup count) (NoKey epoch) start node
  storm_keyless more number epoch making node before after so_far lacks none = record {
    done = acts_done so_far.done;
    rest = [];
    all = acts_behind setup (course_of suite setup count) (course_from suite setup (suc more) number making) so_far.done so_far.course
        ∙ ap (λ (rest : Course). acts_done so_far.done ++ acts_of_events setup.shards rest.events) (course_stops suite setup more number making none);
    said = so_far.goes.said;
    state = node;
    runs = so_far.goes.runs;
    owed = inl (
      ap (λ (course : Course). course.ending) (so_far.course ∙ ap (before_course so_far.done) (course_stops suite setup more number making none)) ∙ ap Keyless (sym lacks.named),
      refl,
      refl,
    );
    kind = tt;
  }

  -- by want of memory, between acts
  pub storm_starved : (more number : ℕ) (making : Making) (node : NodeState) (before after : R)
      → StormProgress tells suite setup count more number making start node (took before after)
      → StormStops tells suite setup (course_of suite setup count) Memory start node
  storm_starved more number making node before after so_far = record {
    done = acts_done so_far.done;
    rest = acts_of_events setup.shards (course_from suite setup more number making).events;
    all = acts_behind setup (course_of suite setup count) (course_from suite setup more number making) so_far.done so_far.course;
    said = so_far.goes.said;
    state = node;
    runs = so_far.goes.runs;
    owed = inl refl;
    kind = tt;
  }

  -- ---- the hand-ons at the end

  abbrev sends : List Act
  sends = of_each (λ place. Sends (moment_of count)) 0 count

  all_acts : (making : Making) (node : NodeState) (before after : R) → (served : StormProgress tells suite setup count 0 count making start node (took before after))
      → storm_acts setup (course_of suite setup count) ≡ acts_done served.done ++ sends
  all_acts making node before after served =
      acts_behind setup (course_of suite setup count) (course_from suite setup 0 count making) served.done served.course
      ∙ ap (λ (acts : List Act). acts_done served.done ++ acts) (acts_of_sends setup.shards count 0 (moment_of count))

  pub storm_served : (result : Result (Unit {0}) Status) (node end : NodeState) (before middle after : R)
      → ((status : Status) → result ≡ Err status → status ≡ WriteFault → ⊥)
      → AllServed tells suite setup count start node (took before middle) → Serves tells suite sends result node end (took middle after) (took_front middle after)
      → Storms tells suite setup (course_of suite setup count) result start end (took before after)
  storm_served (Ok done) node end before middle after never (making, served) serves = record {
    ending = ap (λ (course : Course). course.ending) served.course;
    goes = subst (λ (acts : List Act). Goes tells suite acts start end (took before after)) (sym (all_acts making node before middle served))
        (goes_then tells suite in_turn (acts_done served.done) sends start node end before middle after served.goes serves);
  }
  storm_served (Err status) node end before middle after never (making, served) serves =
      broken status (acts_done served.done ++ sends) [] end before after (never status refl)
      (all_acts making node before middle served ∙ sym (append-nil (acts_done served.done ++ sends)))
      (breaks_then tells suite in_turn (acts_done served.done) sends status start node end before middle after served.goes serves)

-- ---- the events of a packet

-- what stays of a node, through one call and another
pub goes_further : (tells : Type 0) (suite : SuiteMeaning) (few more : ℕ) (old between new : NodeState) → GoesOn tells suite few old between → GoesOn tells suite more between new
    → GoesOn tells suite (few + more) old new
goes_further tells suite few more old between new first second = record {
  node = record { setup = second.node.setup ∙ first.node.setup; kept = second.node.kept };
  next = omega (arith, first.next, second.next);
}

pub goes_at_most : (tells : Type 0) (suite : SuiteMeaning) (few many : ℕ) (old new : NodeState) → few ≤ many → GoesOn tells suite few old new → GoesOn tells suite many old new
goes_at_most tells suite few many old new less goes = record { node = goes.node; next = omega (arith, less, goes.next) }

module _ (tells : Type 0) (suite : SuiteMeaning) (shards : ℕ) {R : Type 0} {took took_front : R → R → List report.Line → Type 0} (in_turn : TakesInTurn took took_front) where
  abbrev Served : List Event → NodeState → NodeState → R → R → Type 0
  Served events old new before after = Goes tells suite (acts_of_events shards events) old new (took before after)

  -- an event more was answered
  pub served_next : (done next : List Event) (old between new : NodeState) (before middle after : R) → Served done old between before middle
      → Served next between new middle after → Served (done ++ next) old new before after
  served_next done next old between new before middle after first second =
      subst (λ (acts : List Act). Goes tells suite acts old new (took before after)) (sym (acts_of_events-append shards done next))
      (goes_then tells suite in_turn (acts_of_events shards done) (acts_of_events shards next) old between new before middle after first second)

  -- the next one ended the run, whatever follows
  pub served_until : (done next others : List Event) (status : Status) (old between new : NodeState) (before middle after : R) → Served done old between before middle
      → Breaks tells suite (acts_of_events shards next) status between new (took middle after) (took_front middle after)
      → Breaks tells suite (acts_of_events shards (done ++ next ++ others)) status old new (took before after) (took_front before after)
  served_until done next others status old between new before middle after first second =
      subst (λ (acts : List Act). Breaks tells suite acts status old new (took before after) (took_front before after))
      (sym (acts_of_events-append shards (done ++ next) others ∙ ap (λ (acts : List Act). acts ++ acts_of_events shards others) (acts_of_events-append shards done next)))
      (breaks_before tells suite in_turn (acts_of_events shards done ++ acts_of_events shards next) (acts_of_events shards others) status old new before after
      (breaks_then tells suite in_turn (acts_of_events shards done) (acts_of_events shards next) status old between new before middle after first second))

  -- a call answered the last of them
  pub served_last : (done next : List Event) (result : Result (Unit {0}) Status) (old between new : NodeState) (before middle after : R) → Served done old between before middle
      → Serves tells suite (acts_of_events shards next) result between new (took middle after) (took_front middle after)
      → Serves tells suite (acts_of_events shards (done ++ next)) result old new (took before after) (took_front before after)
  served_last done next result old between new before middle after first second =
      subst (λ (acts : List Act). Serves tells suite acts result old new (took before after) (took_front before after)) (sym (acts_of_events-append shards done next))
      (serves_behind tells suite in_turn (acts_of_events shards done) (acts_of_events shards next) result old between new before middle after first second)

-- ---- how it begins, and how a key ends it

-- a tally never fails
pub tally_never_fails : (status : Status) → (status ≡ WriteFault → Rose 0 0) → status ≡ WriteFault → ⊥
tally_never_fails status rises same = let rose = rises same in omega (arith, rose)

-- the first round opens the journals
pub opened_first : (setup : NodeSetup) → of_each (act_at rounds.Open) 0 setup.shards ≡ first_acts setup.shards
opened_first setup = from 0 setup.shards
  where
    from : (first count : ℕ) → of_each (act_at rounds.Open) first count ≡ of_each Opens first count
    from first zero = refl
    from first (suc count) = ap (λ (acts : List Act). Opens first ∷ acts) (from (suc first) count)

module _ (tells : Type 0) (suite : SuiteMeaning) (setup : NodeSetup) (count : ℕ) where
  -- as many packets are still to come
  pub progress_at : (more other number : ℕ) (making : Making) (start node : NodeState) (took : List report.Line → Type 0) → more ≡ other
      → StormProgress tells suite setup count more number making start node took → StormProgress tells suite setup count other number making start node took
  progress_at more other number making start node took same progress =
      subst (λ (n : ℕ). StormProgress tells suite setup count n number making start node took) same progress

  -- the next packet wasn't made
  pub keyless_stops : (start : NodeState) {R : Type 0} {took took_front : R → R → List report.Line → Type 0} (in_turn : TakesInTurn took took_front)
      (more number : ℕ) (fault : KeyFault) (making : Making) (node : NodeState) (before after : R)
      → StormProgress tells suite setup count (suc more) number making start node (took before after)
      → IfNoKey fault (LacksKey suite setup number) → IfNoKey fault (λ epoch. next_packet suite setup number making ≡ None)
      → StormStops tells suite setup (course_of suite setup count) (keyless_status fault) start node
  keyless_stops start in_turn more number (faults.NoKey epoch) making node before after so_far lacks none =
      storm_keyless tells suite setup count start in_turn more number epoch making node before after so_far lacks none
  keyless_stops start in_turn more number faults.Memory making node before after so_far lacks none =
      storm_starved tells suite setup count start in_turn (suc more) number making node before after so_far

  -- none is
  pub progress_ended : (more number : ℕ) (making : Making) (start node : NodeState) (took : List report.Line → Type 0) → more ≡ 0 → number ≡ count
      → StormProgress tells suite setup count more number making start node took → StormProgress tells suite setup count 0 count making start node took
  progress_ended more number making start node took none all progress =
      subst (λ (n : ℕ). StormProgress tells suite setup count 0 n making start node took) all (progress_at more 0 number making start node took none progress)
