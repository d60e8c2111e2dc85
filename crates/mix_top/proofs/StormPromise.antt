-- From events that a storm went through to its promise, with its disks and its summary.
use Rattle.std.proofs.Common.{◌≡◌, ℕ, ◌≤◌, List, [], ◌∷◌, ◌++◌, length, take, drop, map, fold, ◌⊎◌, inl, inr, refl, ap, ◌∙◌, sym, subst, Option, Result, Ok, Err, arith}
use Rattle.std.proofs.lemmas.List.{append-nil}
use Rattle.mix_base.specs.Suites.{SuiteMeaning}
use Rattle.mix_base.specs.declared.writing.PutFault.{PutFault}
use Rattle.mix_base.specs.declared.writing.PutFault.TheVariants as puts
use Rattle.replay_disk.specs.Disk.{RackState}
use Rattle.lab_text.specs.Given.{Gave}
use Rattle.lab_text.specs.declared.node_lines.NodeLine.{NodeLine}
use Rattle.lab_text.specs.declared.statuses.Status.{Status}
use Rattle.lab_text.specs.declared.statuses.Status.TheVariants.{Done, Words, Line, Key, ReadFault, WriteFault, Foreign, OtherShape, Memory, NoThread, NoKey, NoLine, Disk}
use Rattle.node_core.specs.Nodes.{NodeState}
use Rattle.node_core.specs.declared.setup.NodeSetup.{NodeSetup}
use Rattle.mix_tools.specs.Suites.{meaning_for}
use Rattle.mix_top.specs.Acts.{Act}
use Rattle.mix_top.specs.Program.{setup_of}
use Rattle.mix_top.specs.Progress.{IsServed}
use Rattle.mix_top.specs.ReceivingLaws.{gave_nothing, gave_weaker}
use Rattle.mix_top.specs.Report as report
use Rattle.mix_top.specs.Run.{EndsNext}
use Rattle.mix_top.specs.Storm.{AtEnd, StormEnding, course_of, storm_acts, storm_line}
use Rattle.mix_top.specs.StormHeadline.{AnswersStorm, GivesAtEnd, IsSummaryGiven, NoStorm, OwesStorm, StormHeadline}
use Rattle.mix_top.specs.Storming.{GaveSummary, IsStop, StormDriven, status_of_put}
use Rattle.mix_top.specs.Summary.{summary}
use Rattle.mix_top.specs.Tallies.{summary_line, tallied}
use Rattle.mix_top.specs.declared.storm.tally.Tally.{Tally}
use Rattle.mix_top.specs.declared.storm.words.Storm.{Storm}
use Rattle.mix_top.proofs.Disks.{Follows}
use Rattle.mix_top.proofs.Promise.{Returned, all_back, first_back, headline, others_back, returned, taken_states}
use Rattle.mix_top.proofs.StormCounts.{none_yet, storm_counted}

-- ---- what a status says

-- the run ended within the next act
next_follows : (tells : Type 0) (suite : SuiteMeaning) (status : Status) (rest : List Act) (state end : NodeState) → EndsNext tells suite status rest state end
    → Follows tells suite state end
next_follows tells suite status [] state end ends = absurd ends
next_follows tells suite status (act ∷ others) state end ends = inr (act, status, ends)

-- where its acts led, or within the next
storm_follows : (tells : Type 0) (suite : SuiteMeaning) (ending : StormEnding) (status : Status) (rest : List Act) (state end : NodeState)
    → OwesStorm tells suite ending status rest state end → Follows tells suite state end
storm_follows tells suite ending Done rest state end owed = inl owed.2
storm_follows tells suite ending WriteFault rest state end owed = inl owed.2
storm_follows tells suite ending Memory rest state end (inl same) = inl same
storm_follows tells suite ending Memory rest state end (inr next) = next_follows tells suite Memory rest state end next
storm_follows tells suite ending (Foreign node shard area at) rest state end owed = next_follows tells suite (Foreign node shard area at) rest state end owed
storm_follows tells suite ending (OtherShape node shard stored asked) rest state end owed = next_follows tells suite (OtherShape node shard stored asked) rest state end owed
storm_follows tells suite ending (NoKey epoch) rest state end (inl keyless) = inl keyless.2
storm_follows tells suite ending (NoKey epoch) rest state end (inr next) = next_follows tells suite (NoKey epoch) rest state end next
storm_follows tells suite ending Words rest state end owed = absurd owed
storm_follows tells suite ending (Key key) rest state end owed = absurd owed
storm_follows tells suite ending NoThread rest state end owed = absurd owed
storm_follows tells suite ending NoLine rest state end owed = absurd owed
storm_follows tells suite ending (Disk node shard) rest state end owed = absurd owed
storm_follows tells suite ending (Line number) rest state end owed = absurd owed
storm_follows tells suite ending ReadFault rest state end owed = absurd owed

-- where all acts were done and the summary was put
owed_behind : (tells : Type 0) (suite : SuiteMeaning) (ending : StormEnding) (put : Result (Unit {0}) PutFault) (end : NodeState) → ending ≡ AtEnd
    → OwesStorm tells suite ending (status_of_put put) [] end end
owed_behind tells suite ending (Ok done) end at = (at, refl, refl)
owed_behind tells suite ending (Err puts.WriteFault) end at = (at, refl, refl)
owed_behind tells suite ending (Err puts.Memory) end at = inl refl

front_behind : (count : ℕ) (tally : Tally) (said : List report.Line) (before after : Option (List ℕ)) → summary_line count tally ≡ summary count said
    → Gave before after (λ bytes. (length : ℕ) × (bytes ≡ take length (summary_line count tally)))
    → Gave before after (λ bytes. (length : ℕ) × (bytes ≡ take length (summary count said)))
front_behind count tally said before after same gave =
    gave_weaker before after (λ bytes. (length : ℕ) × (bytes ≡ take length (summary_line count tally))) (λ bytes. (length : ℕ) × (bytes ≡ take length (summary count said))) gave
    (λ bytes front. (front.0, front.1 ∙ ap (take front.0) same))

given_behind : (count : ℕ) (tally : Tally) (said : List report.Line) (put : Result (Unit {0}) PutFault) (before after : Option (List ℕ))
    → summary_line count tally ≡ summary count said → GaveSummary count tally put before after
    → Gave before after (λ bytes. IsSummaryGiven count (status_of_put put) said bytes)
given_behind count tally said (Ok done) before after same gave =
    gave_weaker before after (λ bytes. bytes ≡ summary_line count tally) (λ bytes. bytes ≡ summary count said) gave (λ bytes is. is ∙ same)
given_behind count tally said (Err puts.WriteFault) before after same gave = front_behind count tally said before after same gave
given_behind count tally said (Err puts.Memory) before after same gave = front_behind count tally said before after same gave

-- where the run ended before
given_nothing : (count : ℕ) (status : Status) (said : List report.Line) (given : Option (List ℕ)) → IsStop status
    → Gave given given (λ bytes. IsSummaryGiven count status said bytes)
given_nothing count status said given kind =
    gave_weaker given given (λ bytes. bytes ≡ []) (λ bytes. IsSummaryGiven count status said bytes) (gave_nothing given) (λ bytes none. by status kind bytes none)
  where
    by : (status : Status) → IsStop status → (bytes : List ℕ) → bytes ≡ [] → IsSummaryGiven count status said bytes
    by Memory kind bytes none = (0, none)
    by (Foreign node shard area at) kind bytes none = none
    by (OtherShape node shard stored asked) kind bytes none = none
    by (NoKey epoch) kind bytes none = none
    by Done kind bytes none = absurd kind
    by WriteFault kind bytes none = absurd kind
    by Words kind bytes none = absurd kind
    by (Key key) kind bytes none = absurd kind
    by NoThread kind bytes none = absurd kind
    by NoLine kind bytes none = absurd kind
    by (Disk node shard) kind bytes none = absurd kind
    by (Line number) kind bytes none = absurd kind
    by ReadFault kind bytes none = absurd kind

-- ---- the promise

module _ (tells : Type 0) (suite : SuiteMeaning) (setup : NodeSetup) (ciphertext count : ℕ) (old new back : List RackState) where
  abbrev Answered : Status → Option (List ℕ) → Option (List ℕ) → Type 0
  Answered status before after = NoStorm status before after old new ⊎ StormHeadline tells suite setup count status before after old new

  unmade : (given : Option (List ℕ)) → Returned setup.shards old new back → back ≡ take setup.shards old → Answered Memory given given
  unmade given is same = inl (record { memory = refl; given = gave_nothing given; racks = all_back setup.shards old new back is same })

  -- all acts were done, and the summary was put
  pub storm_ended : (tally : Tally) (put : Result (Unit {0}) PutFault) (before after : Option (List ℕ)) → IsServed setup ciphertext → setup.shards ≡ 4 → count ≤ 100000
      → Returned setup.shards old new back → StormDriven tells suite setup count (Ok tt) (take setup.shards old) back (λ lines. tally ≡ fold tallied none_yet lines)
      → GaveSummary count tally put before after → Answered (status_of_put put) before after
  storm_ended tally put before after served four few is (inl not) gave = let no = not.memory in absurd (cc)
  storm_ended tally put before after served four few is (inr made) gave =
      let course = course_of suite setup count in
      let goes = made.storms.goes in
      let same = ap (summary_line count) goes.taken ∙ storm_counted tells suite setup count made.start made.end goes.said four few goes.runs in
      inr (headline tells suite setup old new made.start made.end ciphertext (storm_acts setup course) (storm_acts setup course) [] goes.said made.end
      (λ rest state end. OwesStorm tells suite course.ending (status_of_put put) rest state end × GivesAtEnd before after rest)
      (λ said. Gave before after (λ bytes. IsSummaryGiven count (status_of_put put) said bytes))
      is.enough served made.is_new (sym (append-nil (storm_acts setup course))) goes.runs (owed_behind tells suite course.ending put made.end made.storms.ending, λ told. refl)
      (inl refl) (given_behind count tally goes.said put before after same gave) made.kept (first_back setup.shards old new back is ∙ made.racks) (others_back setup.shards old new back is))

  -- the run ended before
  pub storm_stopped : {took : List report.Line → Type 0} (status : Status) (given : Option (List ℕ)) → IsServed setup ciphertext
      → Returned setup.shards old new back → StormDriven tells suite setup count (Err status) (take setup.shards old) back took
      → Answered status given given
  storm_stopped status given served is (inl not) =
      let ended = not.memory in
      let same : Memory ≡ status = cc in
      subst (λ (s : Status). Answered s given given) same (unmade given is not.racks)
  storm_stopped status given served is (inr made) =
      let course = course_of suite setup count in
      let stops = made.storms in
      inr (headline tells suite setup old new made.start made.end ciphertext (storm_acts setup course) stops.done stops.rest stops.said stops.state
      (λ rest state end. OwesStorm tells suite course.ending status rest state end × GivesAtEnd given given rest) (λ said. Gave given given (λ bytes. IsSummaryGiven count status said bytes))
      is.enough served made.is_new stops.all stops.runs (stops.owed, λ told. absurd (told refl))
      (storm_follows tells suite course.ending status stops.rest stops.state made.end stops.owed)
      (given_nothing count status stops.said given stops.kind) made.kept (first_back setup.shards old new back is ∙ made.racks) (others_back setup.shards old new back is))

-- ---- the call as a whole

-- the node was driven over the first of the disks, and these were put back in front of the others
module _ (tells : Type 0) {X : Type 0} (state : X → RackState) (storm : Storm) (node : NodeLine) (ciphertext : ℕ) (old new taken others back : List X) where
  pub record IsOver : Type 0 where
    pub line : node ≡ storm_line storm
    pub served : IsServed (setup_of node) ciphertext
    pub enough : 16 ≤ length old
    pub is_first : taken ≡ take node.shards old
    pub is_rest : others ≡ drop node.shards old
    pub size : length back ≡ length taken
    pub is_new : new ≡ back ++ others

  four_shards : IsOver → node.shards ≡ 4
  four_shards is = ap (λ (n : NodeLine). n.shards) is.line

  came_back : IsOver → Returned node.shards (map state old) (map state new) (map state back)
  came_back is =
      let four = four_shards is in
      returned state node.shards old new taken others back (omega (arith, four, is.enough)) is.is_first is.is_rest is.size is.is_new

  abbrev AnswersAt : NodeLine → Status → Option (List ℕ) → Option (List ℕ) → Type 0
  AnswersAt n status before after =
      NoStorm status before after (map state old) (map state new)
      ⊎ StormHeadline tells (meaning_for n.ntru) (setup_of n) storm.count status before after (map state old) (map state new)

  pub storm_done : (ran : Result (Unit {0}) Status) (first tally : Tally) (put : Result (Unit {0}) PutFault) (before after : Option (List ℕ)) → IsOver → storm.count ≤ 100000
      → first ≡ none_yet → ran ≡ Ok tt
      → StormDriven tells (meaning_for node.ntru) (setup_of node) storm.count ran (map state taken) (map state back) (λ lines. tally ≡ fold tallied first lines)
      → GaveSummary storm.count tally put before after → AnswersStorm tells storm (status_of_put put) before after (map state old) (map state new)
  storm_done ran first tally put before after is few none ok driven gave =
      subst (λ (n : NodeLine). AnswersAt n (status_of_put put) before after) is.line
      (storm_ended tells (meaning_for node.ntru) (setup_of node) ciphertext storm.count (map state old) (map state new) (map state back) tally put before after
      is.served (four_shards is) few (came_back is)
      (subst (λ (racks : List RackState). StormDriven tells (meaning_for node.ntru) (setup_of node) storm.count (Ok tt) racks (map state back) (λ lines. tally ≡ fold tallied none_yet lines))
      (taken_states state node.shards old taken is.is_first)
      (subst (λ (t : Tally). StormDriven tells (meaning_for node.ntru) (setup_of node) storm.count (Ok tt) (map state taken) (map state back) (λ lines. tally ≡ fold tallied t lines)) none
      (subst (λ (r : Result (Unit {0}) Status). StormDriven tells (meaning_for node.ntru) (setup_of node) storm.count r (map state taken) (map state back) (λ lines. tally ≡ fold tallied first lines)) ok driven)))
      gave)

  pub storm_undone : {took : List report.Line → Type 0} (ran : Result (Unit {0}) Status) (status : Status) (given : Option (List ℕ)) → IsOver → ran ≡ Err status
      → StormDriven tells (meaning_for node.ntru) (setup_of node) storm.count ran (map state taken) (map state back) took
      → AnswersStorm tells storm status given given (map state old) (map state new)
  storm_undone {took = took} ran status given is err driven =
      subst (λ (n : NodeLine). AnswersAt n status given given) is.line
      (storm_stopped tells (meaning_for node.ntru) (setup_of node) ciphertext storm.count (map state old) (map state new) (map state back) status given is.served (came_back is)
      (subst (λ (racks : List RackState). StormDriven tells (meaning_for node.ntru) (setup_of node) storm.count (Err status) racks (map state back) took)
      (taken_states state node.shards old taken is.is_first)
      (subst (λ (r : Result (Unit {0}) Status). StormDriven tells (meaning_for node.ntru) (setup_of node) storm.count r (map state taken) (map state back) took) err driven)))
