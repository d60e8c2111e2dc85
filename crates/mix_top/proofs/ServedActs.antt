-- Acts that were done, or that ended a run, one list behind the other.
use Rattle.std.proofs.Common.{◌≡◌, ℕ, zero, suc, ◌+◌, ◌-◌, ◌<◌, List, [], ◌∷◌, ◌++◌, inl, inr, refl, ap, ◌∙◌, sym, subst, append_assoc, Option, Some, Result, Ok, Err, arith}
use Rattle.std.specs.Bool.{⊤}
use Rattle.mix_base.specs.Suites.{SuiteMeaning}
use Rattle.mix_base.specs.declared.writing.PutFault.{PutFault}
use Rattle.mix_base.specs.declared.writing.PutFault.TheVariants as puts
use Rattle.spent_store.specs.declared.faults.OpenStore.{OpenStore}
use Rattle.spent_store.specs.declared.faults.OpenStore.TheVariants as open_store
use Rattle.mix_shard.specs.declared.faults.Denied.{Denied}
use Rattle.mix_shard.specs.declared.faults.Denied.TheVariants as denied
use Rattle.mix_shard.specs.declared.faults.RotateFault.{RotateFault}
use Rattle.mix_shard.specs.declared.faults.RotateFault.TheVariants as rotation
use Rattle.lab_text.specs.Statuses.{put_status}
use Rattle.lab_text.specs.declared.statuses.Status.{Status}
use Rattle.lab_text.specs.declared.statuses.Status.TheVariants.{Done, Words, Line, Key, ReadFault, WriteFault, Foreign, OtherShape, Memory, NoThread, NoKey, NoLine, Disk}
use Rattle.node_core.specs.Nodes.{NodeState, shape_at}
use Rattle.node_core.specs.declared.answers.Claimed.{Claimed}
use Rattle.node_core.specs.declared.answers.Claimed.TheVariants as claimed
use Rattle.node_core.specs.declared.answers.NodePeel.{NodePeel}
use Rattle.node_core.specs.declared.answers.NodePeel.TheVariants as node_peel
use Rattle.node_core.specs.declared.setup.NodeSetup.{NodeSetup}
use Rattle.mix_top.specs.Acts.{Act, Opens, Reopens, Receives, Peels, Claims, Sends, Rotates, Arms, Crashes, of_each}
use Rattle.mix_top.specs.Progress.{Breaks, Goes, Serves, Stops, TakenOf}
use Rattle.mix_top.specs.Receiving.{TakesInTurn}
use Rattle.mix_top.specs.Report as report
use Rattle.mix_top.specs.Run.{EndsNext}
use Rattle.mix_top.specs.Steps.{Does, Ends, ends_claim, ends_denied, ends_opening, ends_peeling, ends_rotation}
use Rattle.mix_top.proofs.Runs.{Runs-append, Runs-one}
use Rattle.mix_top.proofs.Taking.{taken_behind, taken_whole}

-- ---- how an act may end a run: by a journal, a key, or want of memory

abbrev IsEnd : Status → Type 0
IsEnd Memory = ⊤
IsEnd (Foreign node shard area at) = ⊤
IsEnd (OtherShape node shard stored asked) = ⊤
IsEnd (NoKey epoch) = ⊤
IsEnd _ = ⊥

opening_end : (setup : NodeSetup) (shard : ℕ) (fault : OpenStore) (status : Status) → ends_opening setup shard fault ≡ Some status → IsEnd status
opening_end setup shard (open_store.Foreign area at) status is = let same : Foreign 0 shard area at ≡ status = cc in subst IsEnd same tt
opening_end setup shard (open_store.OtherShape stored) status is = let same : OtherShape 0 shard stored (shape_at setup shard) ≡ status = cc in subst IsEnd same tt
opening_end setup shard open_store.Failed status is = absurd (cc)
opening_end setup shard open_store.Memory status is = let same : Memory ≡ status = cc in subst IsEnd same tt

denied_end : (setup : NodeSetup) (shard : ℕ) (why : Denied) (status : Status) → ends_denied setup shard why ≡ Some status → IsEnd status
denied_end setup shard (denied.Journal why) status is = opening_end setup shard why status is
denied_end setup shard denied.Memory status is = let same : Memory ≡ status = cc in subst IsEnd same tt
denied_end setup shard (denied.Retired floor) status is = absurd (cc)
denied_end setup shard denied.Spent status is = absurd (cc)
denied_end setup shard denied.ShardFull status is = absurd (cc)
denied_end setup shard denied.Disk status is = absurd (cc)

claim_end : (setup : NodeSetup) (answer : Claimed) (status : Status) → ends_claim setup answer ≡ Some status → IsEnd status
claim_end setup (claimed.Denied number shard why) status is = denied_end setup shard why status is
claim_end setup (claimed.Accepted number) status is = absurd (cc)
claim_end setup claimed.Empty status is = absurd (cc)

rotation_end : (setup : NodeSetup) (shard : ℕ) (fault : RotateFault) (status : Status) → ends_rotation setup shard fault ≡ Some status → IsEnd status
rotation_end setup shard (rotation.Journal why) status is = opening_end setup shard why status is
rotation_end setup shard rotation.Memory status is = let same : Memory ≡ status = cc in subst IsEnd same tt
rotation_end setup shard rotation.RootFull status is = absurd (cc)
rotation_end setup shard rotation.Disk status is = absurd (cc)

peeling_end : (fault : NodePeel) → IsEnd (ends_peeling fault)
peeling_end (node_peel.NoKey epoch) = tt
peeling_end node_peel.Memory = tt

-- an act and those that follow it: of each of so many
pub of_each_more : (act : ℕ → Act) (first count others : ℕ) → of_each act first (count + others) ≡ of_each act first count ++ of_each act (first + count) others
of_each_more act first zero others =
    let none : 0 + others ≡ others = omega arith in
    let same : first ≡ first + 0 = omega arith in
    ap (of_each act first) none ∙ ap (λ (n : ℕ). of_each act n others) same
of_each_more act first (suc count) others =
    let one_more : suc count + others ≡ suc (count + others) = omega arith in
    let same : suc first + count ≡ first + suc count = omega arith in
    ap (of_each act first) one_more
    ∙ ap (λ (acts : List Act). act first ∷ acts)
    (of_each_more act (suc first) count others ∙ ap (λ (n : ℕ). of_each act (suc first) count ++ of_each act n others) same)

round_more : (act : ℕ → Act) (count : ℕ) → of_each act 0 (count + 1) ≡ of_each act 0 count ++ act count ∷ []
round_more act count =
    let same : 0 + count ≡ count = omega arith in
    of_each_more act 0 count 1 ∙ ap (λ (n : ℕ). of_each act 0 count ++ act n ∷ []) same

round_split : (act : ℕ → Act) (count shards : ℕ) → count < shards → of_each act 0 shards ≡ of_each act 0 count ++ act count ∷ of_each act (suc count) (shards - suc count)
round_split act count shards within =
    let whole : shards ≡ count + suc (shards - suc count) = omega (arith, within) in
    let same : 0 + count ≡ count = omega arith in
    ap (of_each act 0) whole ∙ of_each_more act 0 count (suc (shards - suc count))
    ∙ ap (λ (n : ℕ). of_each act 0 count ++ act n ∷ of_each act (suc n) (shards - suc count)) same

module _ (tells : Type 0) (suite : SuiteMeaning) where
  act_end : (act : Act) (status : Status) (old new : NodeState) → Ends tells suite act status old new → IsEnd status
  act_end (Opens shard) status old new ends = opening_end old.setup shard ends.0 status ends.2
  act_end (Reopens shard) status old new ends = opening_end old.setup shard ends.0 status ends.2
  act_end (Receives moment packet) status old new ends = subst IsEnd (sym ends.0) tt
  act_end (Peels worker) status old new ends = subst IsEnd (sym ends.2) (peeling_end ends.0)
  act_end (Claims worker) status old new ends = claim_end old.setup ends.0 status ends.2
  act_end (Sends moment) status old new ends = absurd ends
  act_end (Rotates moment shard) status old new ends = rotation_end old.setup shard ends.0 status ends.2
  act_end (Arms shard calls) status old new ends = absurd ends
  act_end (Crashes pick) status old new ends = absurd ends

  stops_at : (status : Status) (act : Act) (others : List Act) (old new : NodeState) → IsEnd status → Ends tells suite act status old new
      → Stops tells suite status (act ∷ others) old new
  stops_at Memory act others old new is ends = inr ends
  stops_at (Foreign node shard area at) act others old new is ends = ends
  stops_at (OtherShape node shard stored asked) act others old new is ends = ends
  stops_at (NoKey epoch) act others old new is ends = ends
  stops_at Done act others old new is ends = absurd is
  stops_at Words act others old new is ends = absurd is
  stops_at (Key key) act others old new is ends = absurd is
  stops_at NoThread act others old new is ends = absurd is
  stops_at NoLine act others old new is ends = absurd is
  stops_at (Disk node shard) act others old new is ends = absurd is
  stops_at (Line number) act others old new is ends = absurd is
  stops_at ReadFault act others old new is ends = absurd is
  stops_at WriteFault act others old new is ends = absurd is

  -- before further acts too
  pub ends_more : (status : Status) (rest others : List Act) (state end : NodeState) → EndsNext tells suite status rest state end
      → EndsNext tells suite status (rest ++ others) state end
  ends_more status [] others state end ends = absurd ends
  ends_more status (act ∷ rest) others state end ends = ends

  stops_more : (status : Status) (rest others : List Act) (state end : NodeState) → Stops tells suite status rest state end
      → Stops tells suite status (rest ++ others) state end
  stops_more WriteFault rest others state end stops = stops
  stops_more Memory rest others state end (inl same) = inl same
  stops_more Memory rest others state end (inr ends) = inr (ends_more Memory rest others state end ends)
  stops_more (Foreign node shard area at) rest others state end stops = ends_more (Foreign node shard area at) rest others state end stops
  stops_more (OtherShape node shard stored asked) rest others state end stops = ends_more (OtherShape node shard stored asked) rest others state end stops
  stops_more (NoKey epoch) rest others state end stops = ends_more (NoKey epoch) rest others state end stops
  stops_more Done rest others state end stops = absurd stops
  stops_more Words rest others state end stops = absurd stops
  stops_more (Key key) rest others state end stops = absurd stops
  stops_more NoThread rest others state end stops = absurd stops
  stops_more NoLine rest others state end stops = absurd stops
  stops_more (Disk node shard) rest others state end stops = absurd stops
  stops_more (Line number) rest others state end stops = absurd stops
  stops_more ReadFault rest others state end stops = absurd stops

  -- ---- one act, whose line a receiver takes

  module _ {R : Type 0} {took took_front : R → R → List report.Line → Type 0} (in_turn : TakesInTurn took took_front) where
    pub goes_one : (act : Act) (lines : List report.Line) (old new : NodeState) (before after : R) → Does tells suite act lines old new
        → took before after lines → Goes tells suite (act ∷ []) old new (took before after)
    goes_one act lines old new before after does taken = record { said = lines; runs = Runs-one tells suite act old new lines does; taken = taken }

    -- it gives none
    pub goes_silent : (act : Act) (old new : NodeState) (receiver : R) → Does tells suite act [] old new → Goes tells suite (act ∷ []) old new (took receiver receiver)
    goes_silent act old new receiver does = goes_one act [] old new receiver receiver does (in_turn.nothing receiver)

    -- its line was taken in part, or not at all
    pub breaks_cut : (act : Act) (lines : List report.Line) (fault : PutFault) (old new : NodeState) (before after : R) → Does tells suite act lines old new
        → took_front before after lines → Breaks tells suite (act ∷ []) (put_status fault) old new (took before after) (took_front before after)
    breaks_cut act lines puts.WriteFault old new before after does front =
        record { done = act ∷ []; rest = []; all = refl; said = lines; state = new; runs = Runs-one tells suite act old new lines does; stops = refl; taken = front }
    breaks_cut act lines puts.Memory old new before after does front =
        record { done = act ∷ []; rest = []; all = refl; said = lines; state = new; runs = Runs-one tells suite act old new lines does; stops = inl refl; taken = front }

    -- it ended the run
    pub breaks_ended : (act : Act) (status : Status) (old new : NodeState) (receiver : R) → Ends tells suite act status old new
        → Breaks tells suite (act ∷ []) status old new (took receiver receiver) (took_front receiver receiver)
    breaks_ended act status old new receiver ends = record {
      done = [];
      rest = act ∷ [];
      all = refl;
      said = [];
      state = old;
      runs = (refl, refl);
      stops = stops_at status act [] old new (act_end act status old new ends) ends;
      taken = taken_whole in_turn status receiver receiver [] (in_turn.nothing receiver);
    }

    -- ---- acts behind others

    pub goes_nowhere : (node : NodeState) (receiver : R) → Goes tells suite [] node node (took receiver receiver)
    goes_nowhere node receiver = record { said = []; runs = (refl, refl); taken = in_turn.nothing receiver }

    pub goes_then : (acts others : List Act) (old between new : NodeState) (before middle after : R) → Goes tells suite acts old between (took before middle)
        → Goes tells suite others between new (took middle after) → Goes tells suite (acts ++ others) old new (took before after)
    goes_then acts others old between new before middle after first second = record {
      said = first.said ++ second.said;
      runs = Runs-append tells suite acts others old between new first.said second.said first.runs second.runs;
      taken = in_turn.behind before middle after first.said second.said first.taken second.taken;
    }

    pub breaks_then : (acts others : List Act) (status : Status) (old between new : NodeState) (before middle after : R) → Goes tells suite acts old between (took before middle)
        → Breaks tells suite others status between new (took middle after) (took_front middle after)
        → Breaks tells suite (acts ++ others) status old new (took before after) (took_front before after)
    breaks_then acts others status old between new before middle after first second = record {
      done = acts ++ second.done;
      rest = second.rest;
      all = ap (λ (list : List Act). acts ++ list) second.all ∙ sym (append_assoc acts second.done second.rest);
      said = first.said ++ second.said;
      state = second.state;
      runs = Runs-append tells suite acts second.done old between second.state first.said second.said first.runs second.runs;
      stops = second.stops;
      taken = taken_behind in_turn status before middle after first.said second.said first.taken second.taken;
    }

    -- a call's acts behind others that were done
    pub serves_behind : (acts others : List Act) (result : Result (Unit {0}) Status) (old between new : NodeState) (before middle after : R)
        → Goes tells suite acts old between (took before middle) → Serves tells suite others result between new (took middle after) (took_front middle after)
        → Serves tells suite (acts ++ others) result old new (took before after) (took_front before after)
    serves_behind acts others (Ok done) old between new before middle after first second = goes_then acts others old between new before middle after first second
    serves_behind acts others (Err status) old between new before middle after first second = breaks_then acts others status old between new before middle after first second

    -- the run ends before further acts
    pub breaks_before : (acts others : List Act) (status : Status) (old new : NodeState) (before after : R)
        → Breaks tells suite acts status old new (took before after) (took_front before after)
        → Breaks tells suite (acts ++ others) status old new (took before after) (took_front before after)
    breaks_before acts others status old new before after breaks = record {
      done = breaks.done;
      rest = breaks.rest ++ others;
      all = ap (λ (list : List Act). list ++ others) breaks.all ∙ append_assoc breaks.done breaks.rest others;
      said = breaks.said;
      state = breaks.state;
      runs = breaks.runs;
      stops = stops_more status breaks.rest others breaks.state new breaks.stops;
      taken = breaks.taken;
    }

    -- ---- a round of the shards

    -- one shard more was visited
    pub round_goes_on : (act : ℕ → Act) (count : ℕ) (old between new : NodeState) (before middle after : R)
        → Goes tells suite (of_each act 0 count) old between (took before middle) → Goes tells suite (act count ∷ []) between new (took middle after)
        → Goes tells suite (of_each act 0 (count + 1)) old new (took before after)
    round_goes_on act count old between new before middle after first second =
        subst (λ (acts : List Act). Goes tells suite acts old new (took before after)) (sym (round_more act count))
        (goes_then (of_each act 0 count) (act count ∷ []) old between new before middle after first second)

    -- a shard ended the run
    pub round_breaks : (act : ℕ → Act) (count shards : ℕ) (status : Status) (old between new : NodeState) (before middle after : R) → count < shards
        → Goes tells suite (of_each act 0 count) old between (took before middle)
        → Breaks tells suite (act count ∷ []) status between new (took middle after) (took_front middle after)
        → Breaks tells suite (of_each act 0 shards) status old new (took before after) (took_front before after)
    round_breaks act count shards status old between new before middle after within first second =
        subst (λ (acts : List Act). Breaks tells suite acts status old new (took before after) (took_front before after)) (sym (round_split act count shards within))
        (breaks_then (of_each act 0 count) (act count ∷ of_each act (suc count) (shards - suc count)) status old between new before middle after first
        (breaks_before (act count ∷ []) (of_each act (suc count) (shards - suc count)) status between new middle after second))
