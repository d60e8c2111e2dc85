-- A tally of the lines of a storm is just its counts: they are too few for a count to stand at its end.
use Rattle.std.proofs.Common.{◌≡◌, ℕ, zero, suc, ◌+◌, ◌-◌, ◌*◌, ◌%◌, ◌^◌, ◌<◌, ◌≤◌, Bool, true, false, cond, List, [], ◌∷◌, ◌++◌, length, fold, replicate, Option, Some, None, refl, ap, ◌∙◌, sym, subst, arith}
use Rattle.std.specs.List.{count_by, flat_map}
use Rattle.std.specs.Option.{option_map_or}
use Rattle.std.specs.Prelude.{◌==◌}
use Rattle.std.proofs.lemmas.List.{length-append, length-replicate}
use Rattle.std.proofs.lemmas.List.Sums.{sum_by-cons}
use Rattle.mix_base.specs.Faults.{one_more}
use Rattle.mix_base.specs.Suites.{SuiteMeaning}
use Rattle.lab_text.specs.declared.events.Event.{Event}
use Rattle.lab_text.specs.declared.events.Event.TheVariants.{Recv, Peel, Claim, Send, Rotate, Arm, Crash, Skip}
use Rattle.node_core.specs.Nodes.{NodeState}
use Rattle.node_core.specs.declared.setup.NodeSetup.{NodeSetup}
use Rattle.mix_top.specs.Acts.{Act, Opens, Reopens, Rotates, acts_of, first_acts, of_each}
use Rattle.mix_top.specs.Report.{Line}
use Rattle.mix_top.specs.Run.{Runs}
use Rattle.mix_top.specs.Storm.{Keyless, Making, before_course, course_from, course_of, crashes_of, epoch_of, events_of, first_making, moment_of, next_packet, rotations_of, storm_acts}
use Rattle.mix_top.specs.Summary.{is_handed, is_length, is_other, is_sealed, is_spent, summary}
use Rattle.mix_top.specs.Tallies.{raised_where, summary_line, tallied}
use Rattle.mix_top.specs.declared.storm.tally.Tally.{Tally}
use Rattle.mix_top.proofs.Brevity.{run_brief}

-- ---- counts

-- one column of a tally, where it doesn't come to its end
column : (get : Tally → ℕ) (is : Line → Bool) → ((tally : Tally) (line : Line) → get (tallied tally line) ≡ raised_where (is line) (get tally))
    → (lines : List Line) (tally : Tally) → get tally + length lines < 2 ^ 64 → get (fold tallied tally lines) ≡ get tally + count_by is lines
column get is raises [] tally room = omega arith
column get is raises (line ∷ lines) tally room =
    let first = raises tally line ∙ raised (is line) (get tally) (omega (arith, room)) in
    let rest = column get is raises lines (tallied tally line) (room_left (is line) (get tally) (get (tallied tally line)) (length lines) room first) in
    let counted = sum_by-cons (λ (l : Line). cond (is l) 1 0) line lines in
    omega (arith, first, rest, counted)
  where
    raised : (here : Bool) (count : ℕ) → count + 1 < 2 ^ 64 → raised_where here count ≡ count + cond here 1 0
    raised true count room = omega (arith, room)
    raised false count room = omega arith

    room_left : (here : Bool) (count next others : ℕ) → count + suc others < 2 ^ 64 → next ≡ count + cond here 1 0 → next + others < 2 ^ 64
    room_left true count next others room is = omega (arith, room, is)
    room_left false count next others room is = omega (arith, room, is)

abbrev pub none_yet : Tally
none_yet = record { handed = 0; spent = 0; sealed = 0; length = 0; other = 0 }

pub counted : (count : ℕ) (lines : List Line) → length lines < 2 ^ 64 → summary_line count (fold tallied none_yet lines) ≡ summary count lines
counted count lines less =
    let few : 0 + length lines < 2 ^ 64 = omega (arith, less) in
    let handed : (fold tallied none_yet lines).handed ≡ count_by is_handed lines = column (λ (t : Tally). t.handed) is_handed (λ t line. refl) lines none_yet few ∙ omega arith in
    let spent : (fold tallied none_yet lines).spent ≡ count_by is_spent lines = column (λ (t : Tally). t.spent) is_spent (λ t line. refl) lines none_yet few ∙ omega arith in
    let sealed : (fold tallied none_yet lines).sealed ≡ count_by is_sealed lines = column (λ (t : Tally). t.sealed) is_sealed (λ t line. refl) lines none_yet few ∙ omega arith in
    let long : (fold tallied none_yet lines).length ≡ count_by is_length lines = column (λ (t : Tally). t.length) is_length (λ t line. refl) lines none_yet few ∙ omega arith in
    let other : (fold tallied none_yet lines).other ≡ count_by is_other lines = column (λ (t : Tally). t.other) is_other (λ t line. refl) lines none_yet few ∙ omega arith in
    rw (handed, spent, sealed, long, other) refl

-- ---- how many acts a storm has

of_each_length : (act : ℕ → Act) (first count : ℕ) → length (of_each act first count) ≡ count
of_each_length act first zero = refl
of_each_length act first (suc count) = let others = of_each_length act (suc first) count in omega (arith, others)

event_acts : (event : Event) → length (acts_of 4 event) ≤ 5
event_acts (Recv moment packet) = omega arith
event_acts (Peel worker) = omega arith
event_acts (Claim worker) = omega arith
event_acts (Send moment) = omega arith
event_acts (Rotate moment) = let four = of_each_length (Rotates moment) 0 4 in omega (arith, four)
event_acts (Arm shard calls) = omega arith
event_acts (Crash pick) = let four = of_each_length Reopens 0 4 in omega (arith, four)
event_acts Skip = omega arith

events_acts : (events : List Event) → length (flat_map (acts_of 4) events) ≤ 5 * length events
events_acts [] = omega arith
events_acts (event ∷ events) =
    let parts = length-append (acts_of 4 event) (flat_map (acts_of 4) events) in
    let first = event_acts event in
    let others = events_acts events in
    omega (arith, parts, first, others)

-- of a packet there are four events, and up to two more
one_at_most : (here : Bool) (event : Event) → length (cond here (event ∷ []) []) ≤ 1
one_at_most true event = omega arith
one_at_most false event = omega arith

packet_events : (number : ℕ) (packet : List ℕ) → length (events_of number packet) ≤ 6
packet_events number packet =
    let four = Recv (moment_of number) packet ∷ Peel (number % 4) ∷ Claim (number % 4) ∷ Send (moment_of number) ∷ [] in
    let whole = length-append (four ++ rotations_of number) (crashes_of number) in
    let front = length-append four (rotations_of number) in
    let rotation = one_at_most (number % 1000 == 999) (Rotate (moment_of number)) in
    let crash = one_at_most (number % 5000 == 4999) (Crash 0) in
    omega (arith, whole, front, rotation, crash)

course_step : (suite : SuiteMeaning) (setup : NodeSetup) (more number : ℕ) (made : Option (List ℕ × Making))
    → ((next : Making) → length (course_from suite setup more (number + 1) next).events ≤ 6 * more + (number + 1 + more))
    → length (option_map_or (λ made. before_course (events_of number made.0) (course_from suite setup more (number + 1) made.1)) made (record { events = []; ending = Keyless (epoch_of setup number) })).events
    ≤ 6 * suc more + (number + suc more)
course_step suite setup more number None behind = omega arith
course_step suite setup more number (Some made) behind =
    let parts = length-append (events_of number made.0) (course_from suite setup more (number + 1) made.1).events in
    let first = packet_events number made.0 in
    let others = behind made.1 in
    omega (arith, parts, first, others)

course_events : (suite : SuiteMeaning) (setup : NodeSetup) (more number : ℕ) (making : Making) → length (course_from suite setup more number making).events ≤ 6 * more + (number + more)
course_events suite setup zero number making = let sends = length-replicate number (Send (moment_of number)) in omega (arith, sends)
course_events suite setup (suc more) number making =
    course_step suite setup more number (next_packet suite setup number making) (λ next. course_events suite setup more (number + 1) next)

storm_length : (suite : SuiteMeaning) (setup : NodeSetup) (count : ℕ) → setup.shards ≡ 4 → length (storm_acts setup (course_of suite setup count)) ≤ 4 + 35 * count
storm_length suite setup count four =
    let course = course_of suite setup count in
    let parts = length-append (of_each Opens 0 4) (flat_map (acts_of 4) course.events) in
    let opened = of_each_length Opens 0 4 in
    let acts = events_acts course.events in
    let events = course_events suite setup count 0 (first_making setup.seed) in
    let fixed : length (of_each Opens 0 4 ++ flat_map (acts_of 4) course.events) ≤ 4 + 35 * count = omega (arith, parts, opened, acts, events) in
    subst (λ (shards : ℕ). length (of_each Opens 0 shards ++ flat_map (acts_of shards) course.events) ≤ 4 + 35 * count) (sym four) fixed

-- so the lines of a whole storm are counted
pub storm_counted : (tells : Type 0) (suite : SuiteMeaning) (setup : NodeSetup) (count : ℕ) (start end : NodeState) (said : List Line) → setup.shards ≡ 4 → count ≤ 100000
    → Runs tells suite start (storm_acts setup (course_of suite setup count)) said end → summary_line count (fold tallied none_yet said) ≡ summary count said
storm_counted tells suite setup count start end said four few runs =
    let lines = run_brief tells suite (storm_acts setup (course_of suite setup count)) start end said runs in
    let acts = storm_length suite setup count four in
    counted count said (omega (arith, lines, acts, few))
