-- What a run leaves of each shard and its disk: as many shards under the same setup, each charted where it was; a failure of
-- its disk for each line that says one; and no arming and no crash but those of the acts.
use Rattle.std.proofs.Common.{◌≡◌, ◌≢◌, ◌⊎◌, ℕ, zero, suc, ◌+◌, ◌-◌, ◌^◌, ◌<◌, ◌≤◌, min, eqb, cond, ◌||◌, Bool, true, false, List, [], ◌∷◌, ◌++◌, length, take, get_or, set, Option, Some, None, option_map, Result, Ok, Err, refl, sym, ap, subst, ◌∙◌, inl, inr, arith}
use Rattle.std.specs.List.{list_any, slice_get}
use Rattle.std.proofs.lemmas.Bool.Decides.{eqb_tells}
use Rattle.std.proofs.lemmas.List.{append_assoc, append-nil, length-set}
use Rattle.std.proofs.lemmas.List.Elements.{All-take}
use Rattle.std.proofs.lemmas.List.Folds.{list_any-append}
use Rattle.std.proofs.lemmas.List.Sums.{sum_by-append}
use Rattle.std.proofs.lemmas.Option.{slice_get-get_or, slice_get_within}
use Rattle.mix_base.specs.Suites.{SuiteMeaning}
use Rattle.replay_disk.specs.Disk.{AreAtRest, RackState}
use Rattle.sphinx_unwrap.specs.declared.faults.Refused.{Refused}
use Rattle.spent_store.specs.Stores.{OpensToOneOf}
use Rattle.spent_store.specs.declared.faults.OpenStore.{OpenStore}
use Rattle.spent_store.specs.declared.faults.OpenStore.TheVariants as open_store
use Rattle.spent_store.specs.declared.summary.Book.{Book}
use Rattle.mix_shard.specs.Entries.{has_opened, is_opening}
use Rattle.mix_shard.specs.Items.{Item}
use Rattle.mix_shard.specs.Shards.{Adds, BeganAlike, IsCharted, OwesFor, ShardState, new_shard}
use Rattle.mix_shard.specs.declared.entries.Told.{Told}
use Rattle.mix_shard.specs.declared.faults.Denied.{Denied}
use Rattle.mix_shard.specs.declared.faults.Denied.TheVariants as denied
use Rattle.mix_shard.specs.declared.faults.RotateFault.{RotateFault}
use Rattle.mix_shard.specs.declared.faults.RotateFault.TheVariants as rotate
use Rattle.mix_shard.specs.declared.terms.Terms.{Terms}
use Rattle.node_core.specs.Nodes.{AreShardsOf, AtShard, IsNewNode, NodeState, shape_at, terms_at}
use Rattle.node_core.specs.Steps.{Admits, ClaimsFor, CrashesShard, GivesUp, Readies, Retires, SendsItem, peeled, place_of, received, settled, taken, taken_by, worker_at}
use Rattle.node_core.specs.Steps as node
use Rattle.node_core.specs.declared.answers.Claimed.{Claimed}
use Rattle.node_core.specs.declared.answers.Peeled.{Peeled}
use Rattle.node_core.specs.declared.answers.Peeled.TheVariants as peels
use Rattle.node_core.specs.declared.arrivals.Arrival.{Arrival}
use Rattle.node_core.specs.declared.setup.NodeSetup.{NodeSetup}
use Rattle.node_core.proofs.Places.{other_place, same_place}
use Rattle.mix_top.specs.Acts.{Act, Opens, Reopens, Receives, Peels, Claims, Sends, Rotates, Arms, Crashes}
use Rattle.mix_top.specs.Headline.{AreKnown, EachDisk, EachShard, armed_by, arms_at, pick_of, picks}
use Rattle.mix_top.specs.Report.{HandsOn, Line, Says, disk_lines, is_disk_line, says_failed}
use Rattle.mix_top.specs.Run.{Owes, Runs}
use Rattle.mix_top.specs.Steps.{Does, Ends, ends_claim, ends_opening, ends_rotation, says_claimed, says_opened, says_peeled, says_reopened, says_rotated}
use Rattle.mix_top.specs.declared.report.ReportLine.{ReportLine}
use Rattle.mix_top.specs.declared.report.ReportLine.TheVariants as line
use Rattle.lab_text.specs.Script.{Ending}
use Rattle.lab_text.specs.declared.statuses.Status.{Status}
use Rattle.lab_text.specs.declared.statuses.Status.TheVariants as statuses

-- ---- one shard

-- its disk failed so often or more, was armed with these numbers and crashed with these, and it is charted where it was
record Moves (tells : Type 0) (failed : ℕ) (arms crashes : List ℕ) (old new : ShardState) : Type 0 where
  pub faults : min (old.rack.faults + failed) (2 ^ 64 - 1) ≤ new.rack.faults
  pub arms_are : new.rack.arms ≡ old.rack.arms ++ arms
  pub crashes_are : new.rack.crashes ≡ old.rack.crashes ++ crashes
  pub charted : tells → IsCharted old → IsCharted new

-- a tale that goes on from the same beginning is charted where it was
charted_on : (old new : ShardState) (more : List Told) → new.first ≡ old.first → new.told ≡ old.told ++ more → IsCharted old → IsCharted new
charted_on old new more first told (inl rest) = inl (subst (λ (r : RackState). AreAtRest r.areas) (sym first) rest)
charted_on old new more first told (inr some) =
    inr (ap has_opened told ∙ list_any-append is_opening old.told more ∙ ap (λ (b : Bool). b || list_any is_opening more) some)

-- so is one to which nothing was told
untold : (old new : ShardState) → BeganAlike old new → new.told ≡ old.told → IsCharted old → IsCharted new
untold old new began told was = charted_on old new [] began.first (told ∙ sym (append-nil old.told)) was

module _ (tells : Type 0) where
  -- nothing is done, and one after the other
  moves_none : (shard : ShardState) → Moves tells 0 [] [] shard shard
  moves_none shard = record {
    faults = omega arith;
    arms_are = sym (append-nil shard.rack.arms);
    crashes_are = sym (append-nil shard.rack.crashes);
    charted = λ t was. was;
  }

  moves_then : (a b c : ShardState) (failed more : ℕ) (arms others crashes picked : List ℕ) → Moves tells failed arms crashes a b → Moves tells more others picked b c
      → Moves tells (failed + more) (arms ++ others) (crashes ++ picked) a c
  moves_then a b c failed more arms others crashes picked first second = record {
    faults = omega (arith, first.faults, second.faults);
    arms_are = second.arms_are ∙ ap (λ (l : List ℕ). l ++ others) first.arms_are ∙ append_assoc a.rack.arms arms others;
    crashes_are = second.crashes_are ∙ ap (λ (l : List ℕ). l ++ picked) first.crashes_are ∙ append_assoc a.rack.crashes crashes picked;
    charted = λ t was. second.charted t (first.charted t was);
  }

  -- a call in which the disk failed, and one in which it didn't
  moves_failed : (old new : ShardState) (most : ℕ) (failed : Type 0) → OwesFor most failed old new → (tells → IsCharted old → IsCharted new) → failed
      → Moves tells 1 [] [] old new
  moves_failed old new most failed owes charted is = record {
    faults = (let rose = owes.rose is in grind (arith, rose));
    arms_are = owes.arms ∙ sym (append-nil old.rack.arms);
    crashes_are = owes.crashes ∙ sym (append-nil old.rack.crashes);
    charted = charted;
  }

  moves_quiet : (old new : ShardState) (most : ℕ) (failed : Type 0) → OwesFor most failed old new → (tells → IsCharted old → IsCharted new) → ¬ failed
      → Moves tells 0 [] [] old new
  moves_quiet old new most failed owes charted not = record {
    faults = (let same = owes.no_fault not in omega (arith, same));
    arms_are = owes.arms ∙ sym (append-nil old.rack.arms);
    crashes_are = owes.crashes ∙ sym (append-nil old.rack.crashes);
    charted = charted;
  }

  module _ (suite : SuiteMeaning) (old new : ShardState) where
    told_charted : (Own : List Told → Type 0) → Adds tells suite 0 Own old new → IsCharted old → IsCharted new
    told_charted Own adds was = charted_on old new (adds.opening ++ adds.own) adds.began.first adds.told was

    -- each call of a shard leaves it charted
    ready_charted : (result : Result Book OpenStore) → Readies tells suite result old new → IsCharted old → IsCharted new
    ready_charted (Ok book) readies was = told_charted (λ own. own ≡ []) readies.ok.adds was
    ready_charted (Err open_store.Failed) readies was = untold old new readies.refused.began readies.refused.told was
    ready_charted (Err (open_store.Foreign area at)) readies was = untold old new readies.refused.began readies.refused.told was
    ready_charted (Err (open_store.OtherShape stored)) readies was = untold old new readies.refused.began readies.refused.told was
    ready_charted (Err open_store.Memory) readies was = untold old new readies.refused.began readies.refused.told was

    -- what each call of a shard does to its disk
    ready_failed : Readies tells suite (Err open_store.Failed) old new → Moves tells 1 [] [] old new
    ready_failed readies = moves_failed old new _ _ readies.owes (λ t was. ready_charted (Err open_store.Failed) readies was) refl

    ready_quiet : (result : Result Book OpenStore) → result ≢ Err open_store.Failed → Readies tells suite result old new → Moves tells 0 [] [] old new
    ready_quiet result not readies = moves_quiet old new _ _ readies.owes (λ t was. ready_charted result readies was) not

    admit_failed : (item : Item) → Admits tells suite item (Err denied.Disk) old new → Moves tells 1 [] [] old new
    admit_failed item admits = moves_failed old new _ _ admits.owes (λ t was. told_charted _ admits.told was) refl

    admit_quiet : (item : Item) (result : Result (Unit {0}) Denied) → result ≢ Err denied.Disk → Admits tells suite item result old new → Moves tells 0 [] [] old new
    admit_quiet item result not admits = moves_quiet old new _ _ admits.owes (λ t was. told_charted _ admits.told was) not

    retire_failed : (moment : ℕ) → Retires tells suite moment (Err rotate.Disk) old new → Moves tells 1 [] [] old new
    retire_failed moment retires = moves_failed old new _ _ retires.owes (λ t was. told_charted _ retires.told was) refl

    retire_quiet : (moment : ℕ) (result : Result (Unit {0}) RotateFault) → result ≢ Err rotate.Disk → Retires tells suite moment result old new
        → Moves tells 0 [] [] old new
    retire_quiet moment result not retires = moves_quiet old new _ _ retires.owes (λ t was. told_charted _ retires.told was) not

    gives_moves : (moment : ℕ) (item : Item) → GivesUp tells suite moment item old new → Moves tells 0 [] [] old new
    gives_moves moment item gives = record {
      faults = (let same = ap (λ (r : RackState). r.faults) gives.rack in omega (arith, same));
      arms_are = ap (λ (r : RackState). r.arms) gives.rack ∙ sym (append-nil old.rack.arms);
      crashes_are = ap (λ (r : RackState). r.crashes) gives.rack ∙ sym (append-nil old.rack.crashes);
      charted = λ t was. told_charted _ gives.told was;
    }

    arms_moves : (calls : ℕ) → node.Arms calls old new → Moves tells 0 (calls ∷ []) [] old new
    arms_moves calls same = record {
      faults = (let faults = ap (λ (s : ShardState). s.rack.faults) same in omega (arith, faults));
      arms_are = ap (λ (s : ShardState). s.rack.arms) same;
      crashes_are = ap (λ (s : ShardState). s.rack.crashes) same ∙ sym (append-nil old.rack.crashes);
      charted = λ t was. charted_on old new [] (ap (λ (s : ShardState). s.first) same) (ap (λ (s : ShardState). s.told) same ∙ sym (append-nil old.told)) was;
    }

    crash_moves : (pick : ℕ) → CrashesShard tells pick old new → Moves tells 0 [] (pick ∷ []) old new
    crash_moves pick crashes = record {
      faults = (let same = crashes.rack.faults in omega (arith, same));
      arms_are = crashes.rack.arms ∙ sym (append-nil old.rack.arms);
      crashes_are = crashes.rack.crashes;
      charted = λ t was. crashes.charted t;
    }

-- ---- all shards of a node

-- as many shards under the same setup, and each moved so
record MovesAll (tells : Type 0) (failed : ℕ → ℕ) (arms : ℕ → List ℕ) (crashes : List ℕ) (old new : NodeState) : Type 0 where
  pub setup : new.setup ≡ old.setup
  pub count : length new.shards ≡ length old.shards
  pub each : (index : ℕ) (before after : ShardState) → slice_get old.shards index ≡ Some before → slice_get new.shards index ≡ Some after
      → Moves tells (failed index) (arms index) crashes before after

equal_itself : (n : ℕ) → eqb n n ≡ true
equal_itself n = elim (eqb_tells n n) [ inl same ↦ same.0 | inr differ ↦ absurd (differ.1 refl) ]

unequal : (n index : ℕ) → index ≢ n → eqb n index ≡ false
unequal n index other = elim (eqb_tells n index) [ inl same ↦ absurd (other (sym same.1)) | inr differ ↦ differ.0 ]

injected : (one two : ShardState) → Some one ≡ Some two → one ≡ two
injected one two is = cc

module _ (tells : Type 0) where
  -- the shards stay
  all_stay : (old new : NodeState) → new.setup ≡ old.setup → new.shards ≡ old.shards → MovesAll tells (λ index. 0) (λ index. []) [] old new
  all_stay old new setup shards = record {
    setup = setup;
    count = ap length shards;
    each = λ index before after was is.
        subst (λ (s : ShardState). Moves tells 0 [] [] before s)
        (injected before after (sym was ∙ sym (ap (λ (l : List ShardState). slice_get l index) shards) ∙ is)) (moves_none tells before);
  }

  -- one after the other
  all_then : (a b c : NodeState) (failed more : ℕ → ℕ) (arms others : ℕ → List ℕ) (crashes picked : List ℕ) → MovesAll tells failed arms crashes a b
      → MovesAll tells more others picked b c → MovesAll tells (λ index. failed index + more index) (λ index. arms index ++ others index) (crashes ++ picked) a c
  all_then a b c failed more arms others crashes picked first second = record {
    setup = second.setup ∙ first.setup;
    count = second.count ∙ first.count;
    each = λ index before after was is.
        let within : index < length b.shards = subst (λ (n : ℕ). index < n) (sym first.count) (slice_get_within a.shards index before was) in
        let between = get_or b.shards index before in
        let there = slice_get-get_or b.shards index before within in
        moves_then tells before between after (failed index) (more index) (arms index) (others index) crashes picked
        (first.each index before between was there) (second.each index between after there is);
  }

  -- the same in other words
  all_alike : (old new : NodeState) (failed other : ℕ → ℕ) (arms others : ℕ → List ℕ) (crashes picked : List ℕ) → ((index : ℕ) → failed index ≡ other index)
      → ((index : ℕ) → arms index ≡ others index) → crashes ≡ picked → MovesAll tells failed arms crashes old new → MovesAll tells other others picked old new
  all_alike old new failed other arms others crashes picked same_failed same_arms same_crashes moves = record {
    setup = moves.setup;
    count = moves.count;
    each = λ index before after was is.
        subst (λ (n : ℕ). Moves tells n (others index) picked before after) (same_failed index)
        (subst (λ (l : List ℕ). Moves tells (failed index) l picked before after) (same_arms index)
        (subst (λ (l : List ℕ). Moves tells (failed index) (arms index) l before after) same_crashes (moves.each index before after was is)));
  }

  module _ (place : ℕ) (failed : ℕ → ℕ) (arms : ℕ → List ℕ) (shards : List ShardState) (before after : ShardState) where
    -- by whether it is the shard that changed
    moves_by_place : (index : ℕ) (was is : ShardState) → slice_get shards place ≡ Some before → Moves tells (failed place) (arms place) [] before after
        → (index ≢ place → (failed index ≡ 0) × (arms index ≡ [])) → slice_get shards index ≡ Some was → slice_get (set shards place after) index ≡ Some is
        → ((eqb index place ≡ true) × (index ≡ place)) ⊎ ((eqb index place ≡ false) × (index ≢ place)) → Moves tells (failed index) (arms index) [] was is
    moves_by_place index was is there moves elsewhere found_was found_is (inl (equal, same)) =
        let before_is : before ≡ was = injected before was (sym there ∙ ap (slice_get shards) (sym same) ∙ found_was) in
        let after_is : after ≡ is = same_place shards place index before after is there same found_is in
        subst (λ (i : ℕ). Moves tells (failed i) (arms i) [] was is) (sym same)
        (subst (λ (s : ShardState). Moves tells (failed place) (arms place) [] s is) before_is
        (subst (λ (s : ShardState). Moves tells (failed place) (arms place) [] before s) after_is moves))
    moves_by_place index was is there moves elsewhere found_was found_is (inr (unequal, other)) =
        let is_was : was ≡ is = injected was is (sym found_was ∙ other_place shards place index after is other found_is) in
        let none = elsewhere other in
        subst (λ (n : ℕ). Moves tells n (arms index) [] was is) (sym none.0)
        (subst (λ (l : List ℕ). Moves tells 0 l [] was is) (sym none.1)
        (subst (λ (s : ShardState). Moves tells 0 [] [] was s) is_was (moves_none tells was)))

  -- one shard changes
  all_at : (Changes : ShardState → ShardState → Type 0) (place : ℕ) (failed : ℕ → ℕ) (arms : ℕ → List ℕ) (old new : NodeState) → AtShard Changes place old new
      → ((before after : ShardState) → Changes before after → Moves tells (failed place) (arms place) [] before after)
      → ((index : ℕ) → index ≢ place → (failed index ≡ 0) × (arms index ≡ [])) → MovesAll tells failed arms [] old new
  all_at Changes place failed arms old new at moves elsewhere = record {
    setup = ap (λ (n : NodeState). n.setup) at.new_is;
    count = ap (λ (n : NodeState). length n.shards) at.new_is ∙ length-set old.shards place at.after;
    each = λ index was is found_was found_is.
        moves_by_place place failed arms old.shards at.before at.after index was is at.there (moves at.before at.after at.changes) (elsewhere index) found_was
        (sym (ap (λ (n : NodeState). slice_get n.shards index) at.new_is) ∙ found_is) (eqb_tells index place);
  }

  -- one shard changes, in nothing that counts here
  all_quiet : (Changes : ShardState → ShardState → Type 0) (place : ℕ) (old new : NodeState) → AtShard Changes place old new
      → ((before after : ShardState) → Changes before after → Moves tells 0 [] [] before after) → MovesAll tells (λ index. 0) (λ index. []) [] old new
  all_quiet Changes place old new at moves = all_at Changes place (λ index. 0) (λ index. []) old new at moves (λ index other. (refl, refl))

  -- one shard changes, with lines that say of no disk that it failed
  quiet : (Changes : ShardState → ShardState → Type 0) (place : ℕ) (made lines : List Line) (old new : NodeState) → AtShard Changes place old new
      → ((before after : ShardState) → Changes before after → Moves tells 0 [] [] before after) → ((index : ℕ) → 0 ≡ disk_lines index made) → Some made ≡ Some lines
      → MovesAll tells (λ index. disk_lines index lines) (λ index. []) [] old new
  quiet Changes place made lines old new at moves none said =
      let same : made ≡ lines = cc in
      all_alike old new (λ index. 0) (λ index. disk_lines index lines) (λ index. []) (λ index. []) [] []
      (λ index. none index ∙ ap (disk_lines index) same) (λ index. refl) refl
      (all_quiet Changes place old new at moves)

  -- one shard changes, with the line that its disk failed
  loud : (Changes : ShardState → ShardState → Type 0) (place : ℕ) (one : ReportLine) (lines : List Line) (old new : NodeState) → AtShard Changes place old new
      → ((before after : ShardState) → Changes before after → Moves tells 1 [] [] before after) → ((index : ℕ) → says_failed index one ≡ eqb place index)
      → Some (Says one ∷ []) ≡ Some lines → MovesAll tells (λ index. disk_lines index lines) (λ index. []) [] old new
  loud Changes place one lines old new at moves says said =
      let same : Says one ∷ [] ≡ lines = cc in
      let here : disk_lines place (Says one ∷ []) ≡ 1 = says_one place (says place ∙ equal_itself place) in
      subst (λ (said : List Line). MovesAll tells (λ index. disk_lines index said) (λ index. []) [] old new) same
      (all_at Changes place (λ index. disk_lines index (Says one ∷ [])) (λ index. []) old new at
      (λ before after changes. subst (λ (n : ℕ). Moves tells n [] [] before after) (sym here) (moves before after changes))
      (λ index other. (says_none index (says index ∙ unequal place index other), refl)))
    where
      says_one : (index : ℕ) → says_failed index one ≡ true → disk_lines index (Says one ∷ []) ≡ 1
      says_one index says = rw says refl

      says_none : (index : ℕ) → says_failed index one ≡ false → disk_lines index (Says one ∷ []) ≡ 0
      says_none index says = rw says refl

-- ---- each act

module _ (tells : Type 0) (suite : SuiteMeaning) where
  -- an opening at the node line, and one after a crash
  opened_moves : (shard : ℕ) (result : Result Book OpenStore) (lines : List Line) (old new : NodeState) → AtShard (Readies tells suite result) shard old new
      → says_opened shard result ≡ Some lines → MovesAll tells (λ index. disk_lines index lines) (λ index. []) [] old new
  opened_moves shard (Ok book) lines old new at said =
      quiet tells _ shard [] lines old new at (λ before after. ready_quiet tells suite before after (Ok book) (λ same. absurd (cc))) (λ index. refl) said
  opened_moves shard (Err open_store.Failed) lines old new at said =
      loud tells _ shard (line.Unopened shard) lines old new at (ready_failed tells suite) (λ index. refl) said
  opened_moves shard (Err (open_store.Foreign area at_byte)) lines old new at said = absurd (cc)
  opened_moves shard (Err (open_store.OtherShape stored)) lines old new at said = absurd (cc)
  opened_moves shard (Err open_store.Memory) lines old new at said = absurd (cc)

  reopened_moves : (shard : ℕ) (result : Result Book OpenStore) (lines : List Line) (old new : NodeState) → AtShard (Readies tells suite result) shard old new
      → says_reopened shard result ≡ Some lines → MovesAll tells (λ index. disk_lines index lines) (λ index. []) [] old new
  reopened_moves shard (Ok book) lines old new at said =
      quiet tells _ shard (Says (line.Restarted shard book.floor book.spent) ∷ []) lines old new at
      (λ before after. ready_quiet tells suite before after (Ok book) (λ same. absurd (cc))) (λ index. refl) said
  reopened_moves shard (Err open_store.Failed) lines old new at said =
      loud tells _ shard (line.Unopened shard) lines old new at (ready_failed tells suite) (λ index. refl) said
  reopened_moves shard (Err (open_store.Foreign area at_byte)) lines old new at said = absurd (cc)
  reopened_moves shard (Err (open_store.OtherShape stored)) lines old new at said = absurd (cc)
  reopened_moves shard (Err open_store.Memory) lines old new at said = absurd (cc)

  -- a claim that a shard answered
  admitted_moves : (number place : ℕ) (item : Item) (result : Result (Unit {0}) Denied) (worker : ℕ) (lines : List Line) (old new : NodeState)
      → AtShard (Admits tells suite item result) place old new → says_claimed worker (node.claimed_by number place result) ≡ Some lines
      → MovesAll tells (λ index. disk_lines index lines) (λ index. []) [] old new
  admitted_moves number place item (Ok done) worker lines old new at said =
      quiet tells _ place [] lines old new at (λ before after. admit_quiet tells suite before after item (Ok done) (λ same. absurd (cc))) (λ index. refl) said
  admitted_moves number place item (Err denied.Disk) worker lines old new at said =
      loud tells _ place (line.Failed number place) lines old new at (λ before after. admit_failed tells suite before after item) (λ index. refl) said
  admitted_moves number place item (Err (denied.Retired floor)) worker lines old new at said =
      quiet tells _ place (Says (line.Retired number floor) ∷ []) lines old new at
      (λ before after. admit_quiet tells suite before after item (Err (denied.Retired floor)) (λ same. absurd (cc))) (λ index. refl) said
  admitted_moves number place item (Err denied.Spent) worker lines old new at said =
      quiet tells _ place (Says (line.Spent number) ∷ []) lines old new at
      (λ before after. admit_quiet tells suite before after item (Err denied.Spent) (λ same. absurd (cc))) (λ index. refl) said
  admitted_moves number place item (Err denied.ShardFull) worker lines old new at said =
      quiet tells _ place (Says (line.Full number) ∷ []) lines old new at
      (λ before after. admit_quiet tells suite before after item (Err denied.ShardFull) (λ same. absurd (cc))) (λ index. refl) said
  admitted_moves number place item (Err (denied.Journal why)) worker lines old new at said = absurd (cc)
  admitted_moves number place item (Err denied.Memory) worker lines old new at said = absurd (cc)

  -- a node that differs in what its workers hold has the same shards
  emptied : (failed : ℕ → ℕ) (old new : NodeState) (workers : List (Option Item)) → MovesAll tells failed (λ index. []) [] (record old { workers = workers }) new
      → MovesAll tells failed (λ index. []) [] old new
  emptied failed old new workers moves = record { setup = moves.setup; count = moves.count; each = moves.each }

  -- a worker's claim, with what it holds
  claim_moves : (worker : ℕ) (holds : Option Item) (answer : Claimed) (lines : List Line) (old new : NodeState) → ClaimsFor tells suite worker holds answer old new
      → says_claimed worker answer ≡ Some lines → MovesAll tells (λ index. disk_lines index lines) (λ index. []) [] old new
  claim_moves worker None answer lines old new (empty, same) said =
      let is : Says (line.Empty worker) ∷ [] ≡ lines = cc in
      subst (λ (said : List Line). MovesAll tells (λ index. disk_lines index said) (λ index. []) [] old new) is
      (all_stay tells old new (ap (λ (n : NodeState). n.setup) same) (ap (λ (n : NodeState). n.shards) same))
  claim_moves worker (Some item) answer lines old new claims said =
      emptied (λ index. disk_lines index lines) old new _
      (admitted_moves item.number (place_of old.setup item.tag) item claims.result worker lines _ new claims.asks (ap (says_claimed worker) (sym claims.answer_is) ∙ said))

  rotated_moves : (moment shard : ℕ) (result : Result (Unit {0}) RotateFault) (lines : List Line) (old new : NodeState)
      → AtShard (Retires tells suite moment result) shard old new → says_rotated shard result ≡ Some lines
      → MovesAll tells (λ index. disk_lines index lines) (λ index. []) [] old new
  rotated_moves moment shard (Ok done) lines old new at said =
      quiet tells _ shard [] lines old new at (λ before after. retire_quiet tells suite before after moment (Ok done) (λ same. absurd (cc))) (λ index. refl) said
  rotated_moves moment shard (Err rotate.Disk) lines old new at said =
      loud tells _ shard (line.NotRotated shard) lines old new at (λ before after. retire_failed tells suite before after moment) (λ index. refl) said
  rotated_moves moment shard (Err rotate.RootFull) lines old new at said =
      quiet tells _ shard (Says (line.RootFull shard) ∷ []) lines old new at
      (λ before after. retire_quiet tells suite before after moment (Err rotate.RootFull) (λ same. absurd (cc))) (λ index. refl) said
  rotated_moves moment shard (Err (rotate.Journal why)) lines old new at said = absurd (cc)
  rotated_moves moment shard (Err rotate.Memory) lines old new at said = absurd (cc)

  -- an unwrapping leaves the shards
  settled_stays : (old new : NodeState) (worker number : ℕ) (result : Result Item Refused) (answer : Peeled) → settled old worker number result ≡ (answer, new)
      → (new.setup ≡ old.setup) × (new.shards ≡ old.shards)
  settled_stays old new worker number (Ok item) answer same =
      (sym (ap (λ (p : Peeled × NodeState). p.1.setup) same), sym (ap (λ (p : Peeled × NodeState). p.1.shards) same))
  settled_stays old new worker number (Err why) answer same =
      (sym (ap (λ (p : Peeled × NodeState). p.1.setup) same), sym (ap (λ (p : Peeled × NodeState). p.1.shards) same))

  unwrapped_stays : (old new : NodeState) (worker number : ℕ) (opened : Option (Result Item Refused)) (answer : Peeled)
      → option_map (settled old worker number) opened ≡ Some (answer, new) → (new.setup ≡ old.setup) × (new.shards ≡ old.shards)
  unwrapped_stays old new worker number None answer same = absurd (cc)
  unwrapped_stays old new worker number (Some result) answer same =
      let made : settled old worker number result ≡ (answer, new) = cc in
      settled_stays old new worker number result answer made

  taken_stays : (old new : NodeState) (worker : ℕ) (arrivals : List Arrival) (answer : Peeled) → taken suite old worker arrivals ≡ Some (answer, new)
      → (new.setup ≡ old.setup) × (new.shards ≡ old.shards)
  taken_stays old new worker [] answer same =
      let made : (peels.Idle, old) ≡ (answer, new) = cc in
      (sym (ap (λ (p : Peeled × NodeState). p.1.setup) made), sym (ap (λ (p : Peeled × NodeState). p.1.shards) made))
  taken_stays old new worker (arrival ∷ others) answer same = unwrapped_stays (record old { arrivals = others }) new worker arrival.number _ answer same

  peeled_stays : (old new : NodeState) (worker : ℕ) (holds : Option Item) (answer : Peeled) → taken_by suite old worker holds ≡ Some (answer, new)
      → (new.setup ≡ old.setup) × (new.shards ≡ old.shards)
  peeled_stays old new worker (Some item) answer same =
      let made : (peels.Busy, old) ≡ (answer, new) = cc in
      (sym (ap (λ (p : Peeled × NodeState). p.1.setup) made), sym (ap (λ (p : Peeled × NodeState). p.1.shards) made))
  peeled_stays old new worker None answer same = taken_stays old new worker old.arrivals answer same

  -- no line of an unwrapping says that a disk failed
  peel_is_quiet : (worker : ℕ) (answer : Peeled) (index : ℕ) → 0 ≡ disk_lines index (says_peeled worker answer)
  peel_is_quiet worker (peels.Holding number) index = refl
  peel_is_quiet worker (peels.Refused number why) index = refl
  peel_is_quiet worker peels.Idle index = refl
  peel_is_quiet worker peels.Busy index = refl

  -- the shards stay, and no line says that a disk failed
  nothing_moves : (made lines : List Line) (old new : NodeState) → new.setup ≡ old.setup → new.shards ≡ old.shards → ((index : ℕ) → 0 ≡ disk_lines index made)
      → lines ≡ made → MovesAll tells (λ index. disk_lines index lines) (λ index. []) [] old new
  nothing_moves made lines old new setup shards none same =
      all_alike tells old new (λ index. 0) (λ index. disk_lines index lines) (λ index. []) (λ index. []) [] []
      (λ index. none index ∙ ap (disk_lines index) (sym same)) (λ index. refl) refl (all_stay tells old new setup shards)

  -- a shard gives an item up, is armed, or crashes with the others
  sent_moves : (moment : ℕ) (item : Item) (lines : List Line) (old new : NodeState) → SendsItem tells suite moment item old new → lines ≡ HandsOn item ∷ []
      → MovesAll tells (λ index. disk_lines index lines) (λ index. []) [] old new
  sent_moves moment item lines old new sends same =
      quiet tells _ sends.place (HandsOn item ∷ []) lines old new sends.gives (λ before after. gives_moves tells suite before after moment item) (λ index. refl)
      (ap (λ (l : List Line). Some l) (sym same))

  armed_moves : (shard calls : ℕ) (lines : List Line) (old new : NodeState) → AtShard (node.Arms calls) shard old new → lines ≡ []
      → MovesAll tells (λ index. disk_lines index lines) (λ index. armed_by index (Arms shard calls)) [] old new
  armed_moves shard calls lines old new at same =
      all_alike tells old new (λ index. 0) (λ index. disk_lines index lines) _ (λ index. armed_by index (Arms shard calls)) [] []
      (λ index. ap (disk_lines index) (sym same)) (λ index. refl) refl
      (all_at tells (node.Arms calls) shard (λ index. 0) (λ index. armed_by index (Arms shard calls)) old new at
      (λ before after is. subst (λ (l : List ℕ). Moves tells 0 l [] before after) (sym here) (arms_moves tells suite before after calls is))
      (λ index other. (refl, elsewhere index other)))
    where
      here : armed_by shard (Arms shard calls) ≡ calls ∷ []
      here = rw (equal_itself shard) refl

      elsewhere : (index : ℕ) → index ≢ shard → armed_by index (Arms shard calls) ≡ []
      elsewhere index other = rw (unequal shard index other) refl

  crashed_moves : (pick : ℕ) (lines : List Line) (old new : NodeState) → node.Crashes tells pick old new → lines ≡ []
      → MovesAll tells (λ index. disk_lines index lines) (λ index. []) (pick ∷ []) old new
  crashed_moves pick lines old new crashes same =
      all_alike tells old new (λ index. 0) (λ index. disk_lines index lines) (λ index. []) (λ index. []) (pick ∷ []) (pick ∷ [])
      (λ index. ap (disk_lines index) (sym same)) (λ index. refl) refl
      (record {
        setup = ap (λ (n : NodeState). n.setup) crashes.new_is;
        count = crashes.shards_are.count;
        each = λ index before after was is. crash_moves tells suite before after pick (crashes.shards_are.each index before after was is);
      })

  -- what each act does to the shards, by its line
  act_moves : (act : Act) (lines : List Line) (old new : NodeState) → Does tells suite act lines old new
      → MovesAll tells (λ index. disk_lines index lines) (λ index. armed_by index act) (pick_of act) old new
  act_moves (Opens shard) lines old new (result, at, said) = opened_moves shard result lines old new at said
  act_moves (Reopens shard) lines old new (result, at, said) = reopened_moves shard result lines old new at said
  act_moves (Receives moment packet) lines old new (same, none) =
      nothing_moves [] lines old new (ap (λ (n : NodeState). n.setup) same) (ap (λ (n : NodeState). n.shards) same) (λ index. refl) none
  act_moves (Peels worker) lines old new (answer, is, said) =
      let stays = peeled_stays old new worker (worker_at old worker) answer is in
      nothing_moves (says_peeled worker answer) lines old new stays.0 stays.1 (peel_is_quiet worker answer) said
  act_moves (Claims worker) lines old new (answer, claims, said) = claim_moves worker (worker_at old worker) answer lines old new claims said
  act_moves (Sends moment) lines old new (inl (none, same, said)) =
      nothing_moves (Says line.NoneDue ∷ []) lines old new (ap (λ (n : NodeState). n.setup) same) (ap (λ (n : NodeState). n.shards) same) (λ index. refl) said
  act_moves (Sends moment) lines old new (inr (item, sends, said)) = sent_moves moment item lines old new sends said
  act_moves (Rotates moment shard) lines old new (result, at, said) = rotated_moves moment shard result lines old new at said
  act_moves (Arms shard calls) lines old new (at, none) = armed_moves shard calls lines old new at none
  act_moves (Crashes pick) lines old new (crashes, none) = crashed_moves pick lines old new crashes none

  -- ---- an act that ends the run

  -- a call that ended it wasn't one in which the disk failed
  ends_ready : (shard : ℕ) (fault : OpenStore) (status : Status) (old new : NodeState) → AtShard (Readies tells suite (Err fault)) shard old new
      → ends_opening old.setup shard fault ≡ Some status → MovesAll tells (λ index. 0) (λ index. []) [] old new
  ends_ready shard open_store.Failed status old new at ended = absurd (cc)
  ends_ready shard (open_store.Foreign area at_byte) status old new at ended = all_quiet tells _ shard old new at (λ before after. ready_quiet tells suite before after _ (λ same. absurd (cc)))
  ends_ready shard (open_store.OtherShape stored) status old new at ended = all_quiet tells _ shard old new at (λ before after. ready_quiet tells suite before after _ (λ same. absurd (cc)))
  ends_ready shard open_store.Memory status old new at ended = all_quiet tells _ shard old new at (λ before after. ready_quiet tells suite before after _ (λ same. absurd (cc)))

  ends_admit : (number place : ℕ) (item : Item) (result : Result (Unit {0}) Denied) (status : Status) (setup : NodeSetup) (old new : NodeState)
      → AtShard (Admits tells suite item result) place old new → ends_claim setup (node.claimed_by number place result) ≡ Some status
      → MovesAll tells (λ index. 0) (λ index. []) [] old new
  ends_admit number place item (Err denied.Disk) status setup old new at ended = absurd (cc)
  ends_admit number place item (Ok done) status setup old new at ended = absurd (cc)
  ends_admit number place item (Err (denied.Retired floor)) status setup old new at ended = absurd (cc)
  ends_admit number place item (Err denied.Spent) status setup old new at ended = absurd (cc)
  ends_admit number place item (Err denied.ShardFull) status setup old new at ended = absurd (cc)
  ends_admit number place item (Err (denied.Journal why)) status setup old new at ended =
      all_quiet tells _ place old new at (λ before after. admit_quiet tells suite before after item (Err (denied.Journal why)) (λ same. absurd (cc)))
  ends_admit number place item (Err denied.Memory) status setup old new at ended =
      all_quiet tells _ place old new at (λ before after. admit_quiet tells suite before after item (Err denied.Memory) (λ same. absurd (cc)))

  ends_claiming : (worker : ℕ) (holds : Option Item) (answer : Claimed) (status : Status) (old new : NodeState) → ClaimsFor tells suite worker holds answer old new
      → ends_claim old.setup answer ≡ Some status → MovesAll tells (λ index. 0) (λ index. []) [] old new
  ends_claiming worker None answer status old new (empty, same) ended = all_stay tells old new (ap (λ (n : NodeState). n.setup) same) (ap (λ (n : NodeState). n.shards) same)
  ends_claiming worker (Some item) answer status old new claims ended =
      emptied (λ index. 0) old new _
      (ends_admit item.number (place_of old.setup item.tag) item claims.result status old.setup _ new claims.asks (ap (ends_claim old.setup) (sym claims.answer_is) ∙ ended))

  ends_retire : (moment shard : ℕ) (fault : RotateFault) (status : Status) (old new : NodeState) → AtShard (Retires tells suite moment (Err fault)) shard old new
      → ends_rotation old.setup shard fault ≡ Some status → MovesAll tells (λ index. 0) (λ index. []) [] old new
  ends_retire moment shard rotate.Disk status old new at ended = absurd (cc)
  ends_retire moment shard rotate.RootFull status old new at ended = absurd (cc)
  ends_retire moment shard (rotate.Journal why) status old new at ended =
      all_quiet tells _ shard old new at (λ before after. retire_quiet tells suite before after moment _ (λ same. absurd (cc)))
  ends_retire moment shard rotate.Memory status old new at ended =
      all_quiet tells _ shard old new at (λ before after. retire_quiet tells suite before after moment _ (λ same. absurd (cc)))

  end_moves : (act : Act) (status : Status) (old new : NodeState) → Ends tells suite act status old new → MovesAll tells (λ index. 0) (λ index. []) [] old new
  end_moves (Opens shard) status old new (fault, at, ended) = ends_ready shard fault status old new at ended
  end_moves (Reopens shard) status old new (fault, at, ended) = ends_ready shard fault status old new at ended
  end_moves (Receives moment packet) status old new (ended, same) = all_stay tells old new (ap (λ (n : NodeState). n.setup) same) (ap (λ (n : NodeState). n.shards) same)
  end_moves (Peels worker) status old new (fault, names, ended, holds, waits, same) =
      all_stay tells old new (ap (λ (n : NodeState). n.setup) same) (ap (λ (n : NodeState). n.shards) same)
  end_moves (Claims worker) status old new (answer, claims, ended) = ends_claiming worker (worker_at old worker) answer status old new claims ended
  end_moves (Sends moment) status old new none = absurd none
  end_moves (Rotates moment shard) status old new (fault, at, ended) = ends_retire moment shard fault status old new at ended
  end_moves (Arms shard calls) status old new none = absurd none
  end_moves (Crashes pick) status old new none = absurd none

  -- ---- a run

  run_moves : (acts : List Act) (said : List Line) (old new : NodeState) → Runs tells suite old acts said new
      → MovesAll tells (λ index. disk_lines index said) (λ index. arms_at index acts) (picks acts) old new
  run_moves [] said old new (none, same) =
      nothing_moves [] said old new (ap (λ (n : NodeState). n.setup) same) (ap (λ (n : NodeState). n.shards) same) (λ index. refl) none
  run_moves (act ∷ acts) said old new (between, lines, others, does, runs, same) =
      all_alike tells old new _ (λ index. disk_lines index said) _ (λ index. arms_at index (act ∷ acts)) _ (picks (act ∷ acts))
      (λ index. sym (ap (disk_lines index) same ∙ sum_by-append (λ (l : Line). cond (is_disk_line index l) 1 0) lines others)) (λ index. refl) refl
      (all_then tells old between new _ (λ index. disk_lines index others) _ (λ index. arms_at index acts) _ (picks acts)
      (act_moves act lines old between does) (run_moves acts others between new runs))

-- ---- a run over a new node

-- the run goes on to where it ended: nowhere, or through the act that ended it
abbrev pub Follows : Type 0 → SuiteMeaning → NodeState → NodeState → Type 0
Follows tells suite state end = (end ≡ state) ⊎ ((act : Act) × (status : Status) × Ends tells suite act status state end)

-- it is so by what a status says
pub owed_follows : (tells : Type 0) (suite : SuiteMeaning) (ending : Ending) (status : Status) (rest : List Act) (state end : NodeState)
    → Owes tells suite ending status rest state end → Follows tells suite state end
owed_follows tells suite ending statuses.Done rest state end owed = inl owed.2
owed_follows tells suite ending (statuses.Line number) rest state end owed = inl owed.2
owed_follows tells suite ending statuses.ReadFault rest state end owed = inl owed
owed_follows tells suite ending statuses.WriteFault rest state end owed = inl owed
owed_follows tells suite ending statuses.Memory rest state end (inl same) = inl same
owed_follows tells suite ending statuses.Memory (act ∷ others) state end (inr ends) = inr (act, statuses.Memory, ends)
owed_follows tells suite ending statuses.Memory [] state end (inr ends) = absurd ends
owed_follows tells suite ending (statuses.Foreign node shard area at) (act ∷ others) state end ends = inr (act, statuses.Foreign node shard area at, ends)
owed_follows tells suite ending (statuses.Foreign node shard area at) [] state end ends = absurd ends
owed_follows tells suite ending (statuses.OtherShape node shard stored asked) (act ∷ others) state end ends = inr (act, statuses.OtherShape node shard stored asked, ends)
owed_follows tells suite ending (statuses.OtherShape node shard stored asked) [] state end ends = absurd ends
owed_follows tells suite ending (statuses.NoKey epoch) (act ∷ others) state end ends = inr (act, statuses.NoKey epoch, ends)
owed_follows tells suite ending (statuses.NoKey epoch) [] state end ends = absurd ends
owed_follows tells suite ending statuses.Words rest state end owed = absurd owed
owed_follows tells suite ending (statuses.Key key) rest state end owed = absurd owed
owed_follows tells suite ending statuses.NoThread rest state end owed = absurd owed
owed_follows tells suite ending statuses.NoLine rest state end owed = absurd owed
owed_follows tells suite ending (statuses.Disk node shard) rest state end owed = absurd owed

-- what is known of all disks is known of the first of them
pub known_first : (tells : Type 0) (count : ℕ) (racks : List RackState) → AreKnown tells racks → AreKnown tells (take count racks)
known_first tells count racks (t, rest) = (t, All-take (λ (rack : RackState). AreAtRest rack.areas) count racks rest)

-- what stands among the first stands in the list
taken_there : {X : Type 0} (count : ℕ) (xs : List X) (index : ℕ) → index < count → slice_get (take count xs) index ≡ slice_get xs index
taken_there zero xs index below = absurd (omega (arith, below))
taken_there (suc count) [] index below = refl
taken_there (suc count) (x ∷ xs) zero below = refl
taken_there (suc count) (x ∷ xs) (suc index) below = taken_there count xs index (omega (arith, below))

-- what holds of the disks that the node uses holds of all, since it has no shard of the others
pub disks_of_all : (node : NodeState) (count : ℕ) (racks : List RackState) (fact : ℕ → RackState → RackState → Type 0) → length node.shards ≡ count
    → EachDisk node (take count racks) fact → EachDisk node racks fact
disks_of_all node count racks fact same each index shard found before there =
    let within : index < count = subst (λ (n : ℕ). index < n) same (slice_get_within node.shards index shard found) in
    each index shard found before (taken_there count racks index within ∙ there)

module _ (tells : Type 0) (suite : SuiteMeaning) (setup : NodeSetup) (racks : List RackState) (start : NodeState) (new : IsNewNode setup racks start) where
  -- the shard of a rack in the new node
  record IsFirst (index : ℕ) (rack : RackState) : Type 0 where
    pub shard : ShardState
    pub found : slice_get start.shards index ≡ Some shard
    pub rack_is : shard.rack ≡ rack
    pub first_is : shard.first ≡ rack

  -- each rack has one
  first_at : (index : ℕ) (rack : RackState) → slice_get racks index ≡ Some rack → IsFirst index rack
  first_at index rack there =
      let within : index < length start.shards = subst (λ (n : ℕ). index < n) (sym new.count) (slice_get_within racks index rack there) in
      let shard = get_or start.shards index (new_shard (terms_at setup index) rack 0) in
      let found = slice_get-get_or start.shards index (new_shard (terms_at setup index) rack 0) within in
      let is = new.each index rack shard there found in
      record { shard = shard; found = found; rack_is = ap (λ (s : ShardState). s.rack) is; first_is = ap (λ (s : ShardState). s.first) is }

  module _ (failed : ℕ → ℕ) (arms : ℕ → List ℕ) (crashes : List ℕ) (state : NodeState) (moves : MovesAll tells failed arms crashes start state) where
    -- what moves did to the shard of a rack
    moved_at : (index : ℕ) (shard : ShardState) (rack : RackState) → slice_get state.shards index ≡ Some shard → (there : slice_get racks index ≡ Some rack)
        → Moves tells (failed index) (arms index) crashes (first_at index rack there).shard shard
    moved_at index shard rack found there = let first = first_at index rack there in moves.each index first.shard shard first.found found

    moved_count : length racks ≡ setup.shards → length state.shards ≡ setup.shards
    moved_count count = moves.count ∙ new.count ∙ count

    moved_setup : state.setup ≡ setup
    moved_setup = moves.setup ∙ new.setup_is

    moved_charted : AreKnown tells racks → EachShard state (λ index shard. IsCharted shard)
    moved_charted known index shard found =
        let within : index < length racks = subst (λ (n : ℕ). index < n) (moves.count ∙ new.count) (slice_get_within state.shards index shard found) in
        let rack = get_or racks index shard.rack in
        let there = slice_get-get_or racks index shard.rack within in
        let first = first_at index rack there in
        let rests : AreAtRest rack.areas = known.1 index shard.rack within in
        (moved_at index shard rack found there).charted known.0 (inl (subst (λ (r : RackState). AreAtRest r.areas) (sym first.first_is) rests))

    moved_failures : EachDisk state racks (λ index was is. min (was.faults + failed index) (2 ^ 64 - 1) ≤ is.faults)
    moved_failures index shard found rack there =
        subst (λ (r : RackState). min (r.faults + failed index) (2 ^ 64 - 1) ≤ shard.rack.faults) (first_at index rack there).rack_is
        (moved_at index shard rack found there).faults

    moved_arms : EachDisk state racks (λ index was is. is.arms ≡ was.arms ++ arms index)
    moved_arms index shard found rack there =
        subst (λ (r : RackState). shard.rack.arms ≡ r.arms ++ arms index) (first_at index rack there).rack_is (moved_at index shard rack found there).arms_are

    moved_crashes : EachDisk state racks (λ index was is. is.crashes ≡ was.crashes ++ crashes)
    moved_crashes index shard found rack there =
        subst (λ (r : RackState). shard.rack.crashes ≡ r.crashes ++ crashes) (first_at index rack there).rack_is (moved_at index shard rack found there).crashes_are

  -- ---- what stays, and what is owed, where a run ended

  module _ (acts : List Act) (said : List Line) (state end : NodeState) (runs : Runs tells suite start acts said state) (follows : Follows tells suite state end) where
    -- what the acts did to all shards, and the one that ended the run did no more
    ended_moves : Follows tells suite state end → MovesAll tells (λ index. disk_lines index said) (λ index. arms_at index acts) (picks acts) start end
    ended_moves (inl same) =
        subst (λ (n : NodeState). MovesAll tells (λ index. disk_lines index said) (λ index. arms_at index acts) (picks acts) start n) (sym same)
        (run_moves tells suite acts said start state runs)
    ended_moves (inr (act, status, ends)) =
        all_alike tells start end (λ index. disk_lines index said + 0) (λ index. disk_lines index said) (λ index. arms_at index acts ++ []) (λ index. arms_at index acts)
        (picks acts ++ []) (picks acts) (λ index. omega (arith)) (λ index. append-nil (arms_at index acts)) (append-nil (picks acts))
        (all_then tells start state end (λ index. disk_lines index said) (λ index. 0) (λ index. arms_at index acts) (λ index. []) (picks acts) []
        (run_moves tells suite acts said start state runs) (end_moves tells suite act status state end ends))

    -- as many shards as the setup says, under this setup
    pub run_count : length racks ≡ setup.shards → length end.shards ≡ setup.shards
    run_count count = moved_count _ _ _ end (ended_moves follows) count

    pub run_setup : end.setup ≡ setup
    run_setup = moved_setup _ _ _ end (ended_moves follows)

    -- where the disks tell and were at rest, each shard is charted
    pub run_charted : AreKnown tells racks → EachShard end (λ index shard. IsCharted shard)
    run_charted known = moved_charted _ _ _ end (ended_moves follows) known

    -- and whatever a crash leaves of its disk opens to a book of its journal
    pub run_books : AreKnown tells racks → AreShardsOf tells suite setup end.shards
        → EachShard end (λ index shard. OpensToOneOf (shape_at setup index) setup.limit shard.state.journal.books shard.rack.areas)
    run_books known shards index shard found =
        let is = shards.each index shard found in
        subst (λ (terms : Terms). OpensToOneOf terms.shape terms.limit shard.state.journal.books shard.rack.areas) is.terms
        (is.kept.covers known.0 (run_charted known index shard found))

    -- a disk failed at least so often as lines say
    pub run_failures : EachDisk end racks (λ index was is. min (was.faults + disk_lines index said) (2 ^ 64 - 1) ≤ is.faults)
    run_failures = moved_failures _ _ _ end (ended_moves follows)

    -- nothing but the acts arms or crashes one
    pub run_arms : EachDisk end racks (λ index was is. is.arms ≡ was.arms ++ arms_at index acts)
    run_arms = moved_arms _ _ _ end (ended_moves follows)

    pub run_crashes : EachDisk end racks (λ index was is. is.crashes ≡ was.crashes ++ picks acts)
    run_crashes = moved_crashes _ _ _ end (ended_moves follows)
