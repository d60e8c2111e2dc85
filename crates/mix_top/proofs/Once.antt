-- At most once: a report hands on no pair of epoch and replay tag twice, over every crash, and none that a disk covered before; and
-- what was handed on stays covered.
use Rattle.std.proofs.Common.{◌≡◌, ◌≢◌, ℕ, ◌<◌, ◌≤◌, List, [], ◌∷◌, ◌++◌, length, take, set, inl, inr, Option, Some, None, option_map, Result, Ok, Err, refl, sym, ap, ◌∙◌, subst, arith}
use Rattle.std.specs.List.{All, Contains, slice_get}
use Rattle.std.proofs.Math.Nat.{mod-lt}
use Rattle.std.proofs.lemmas.Bool.Decides.{eqb_tells}
use Rattle.std.proofs.lemmas.Grind.{flat_map-append}
use Rattle.std.proofs.lemmas.List.{append_assoc, append-nil, length-set}
use Rattle.std.proofs.lemmas.List.Elements.{All-cons, All-nil}
use Rattle.std.proofs.lemmas.Option.{slice_get_within}
use Rattle.mix_base.specs.Suites.{SuiteMeaning}
use Rattle.mix_base.proofs.Members.{Contains-head, none_in_empty}
use Rattle.replay_disk.specs.Disk.{AreAtRest, RackState}
use Rattle.spent_store.specs.Books.{IsCovered, StoredBook}
use Rattle.spent_store.specs.Journals.{Journal}
use Rattle.spent_store.specs.Stores.{book_in}
use Rattle.spent_store.specs.declared.faults.Objection.{Objection}
use Rattle.spent_store.specs.declared.faults.OpenStore.{OpenStore}
use Rattle.spent_store.specs.declared.summary.Book.{Book}
use Rattle.sphinx_unwrap.specs.declared.faults.Refused.{Refused}
use Rattle.mix_shard.specs.Items as items
use Rattle.mix_shard.specs.Items.{Item}
use Rattle.mix_shard.specs.Laws.{AllCover, NoneTwice}
use Rattle.mix_shard.specs.Shards.{ShardState}
use Rattle.mix_shard.specs.Tale.{began}
use Rattle.mix_shard.specs.declared.faults.RotateFault.{RotateFault}
use Rattle.node_core.specs.Nodes.{AtShard, IsNewNode, IsNewShard, NodeState, packets_setup, shape_at, terms_at}
use Rattle.node_core.specs.Steps.{ClaimsFor, CrashesShard, Readies, Retires, SendsItem, place_of, settled, taken, taken_by, worker_at}
use Rattle.node_core.specs.Steps as node
use Rattle.node_core.specs.declared.answers.Claimed.{Claimed}
use Rattle.node_core.specs.declared.answers.Peeled.{Peeled}
use Rattle.node_core.specs.declared.answers.Peeled.TheVariants as peels
use Rattle.node_core.specs.declared.arrivals.Arrival.{Arrival}
use Rattle.node_core.specs.declared.setup.NodeSetup.{NodeSetup}
use Rattle.node_core.proofs.Places.{other_place, same_place}
use Rattle.lab_text.specs.declared.statuses.Status.{Status}
use Rattle.mix_top.specs.Acts.{Act, Opens, Reopens, Receives, Peels, Claims, Sends, Rotates, Arms, Crashes}
use Rattle.mix_top.specs.Headline.{WasHeld}
use Rattle.mix_top.specs.Report.{Line, handed, handed_by, pair_of}
use Rattle.mix_top.specs.Run.{Runs}
use Rattle.mix_top.specs.Steps.{Does, Ends}
use Rattle.mix_top.proofs.Covered.{Acts, Holds, IsTracked, Keeps, Empties, Takes, Gives, arms_acts, claims_acts, crash_acts, gives_acts, held_pairs, readies_acts, rotates_acts, sent_here, tracked_beside, tracked_on}
use Rattle.mix_top.proofs.Runs.{claimed_silent, opened_silent, peeled_silent, reopened_silent, rotated_silent}
use Rattle.mix_top.proofs.Members.{NoneTwice-push, all_at, all_within, at_front, at_within, none_more, times}

-- ---- a node through an act

-- what an act does to the shards, and the pairs that are handed on
data Moves (setup : NodeSetup) (old new : NodeState) (sent : List (ℕ × List ℕ)) : Type 0 where
  -- none changes
  Rests : new.setup ≡ old.setup → new.shards ≡ old.shards → sent ≡ [] → Moves setup old new sent
  -- one does
  Changes : (place : ℕ) → (before after : ShardState) → slice_get old.shards place ≡ Some before → new.setup ≡ old.setup
      → new.shards ≡ set old.shards place after → Acts setup place before after sent → Moves setup old new sent
  -- each does, and hands nothing on
  Each : new.setup ≡ old.setup → length new.shards ≡ length old.shards
      → ((index : ℕ) (before after : ShardState) → slice_get old.shards index ≡ Some before → slice_get new.shards index ≡ Some after → Acts setup index before after [])
      → sent ≡ [] → Moves setup old new sent

-- one shard changes
one_changes : (setup : NodeSetup) (Change : ShardState → ShardState → Type 0) (place : ℕ) (old state new : NodeState) (sent : List (ℕ × List ℕ)) → state.setup ≡ old.setup
    → state.shards ≡ old.shards → AtShard Change place state new → ((before after : ShardState) → Change before after → Acts setup place before after sent)
    → Moves setup old new sent
one_changes setup Change place old state new sent same shards at acts =
    Changes place at.before at.after (subst (λ (all : List ShardState). slice_get all place ≡ Some at.before) shards at.there)
    (ap (λ (n : NodeState). n.setup) at.new_is ∙ same)
    (ap (λ (n : NodeState). n.shards) at.new_is ∙ ap (λ (all : List ShardState). set all place at.after) shards)
    (acts at.before at.after at.changes)

-- an unwrapping changes no shard
settled_rests : (setup : NodeSetup) (old state new : NodeState) (worker number : ℕ) (result : Result Item Refused) (answer : Peeled) → state.setup ≡ old.setup
    → state.shards ≡ old.shards → settled state worker number result ≡ (answer, new) → Moves setup old new []
settled_rests setup old state new worker number (Ok item) answer same shards is =
    Rests (sym (ap (λ (r : Peeled × NodeState). r.1.setup) is) ∙ same) (sym (ap (λ (r : Peeled × NodeState). r.1.shards) is) ∙ shards) refl
settled_rests setup old state new worker number (Err why) answer same shards is =
    Rests (sym (ap (λ (r : Peeled × NodeState). r.1.setup) is) ∙ same) (sym (ap (λ (r : Peeled × NodeState). r.1.shards) is) ∙ shards) refl

opened_rests : (setup : NodeSetup) (old state new : NodeState) (worker number : ℕ) (found : Option (Result Item Refused)) (answer : Peeled) → state.setup ≡ old.setup
    → state.shards ≡ old.shards → option_map (settled state worker number) found ≡ Some (answer, new) → Moves setup old new []
opened_rests setup old state new worker number None answer same shards is = absurd (cc)
opened_rests setup old state new worker number (Some result) answer same shards is =
    let settles : settled state worker number result ≡ (answer, new) = cc in settled_rests setup old state new worker number result answer same shards settles

taken_rests : (suite : SuiteMeaning) (setup : NodeSetup) (old new : NodeState) (worker : ℕ) (arrivals : List Arrival) (answer : Peeled)
    → taken suite old worker arrivals ≡ Some (answer, new) → Moves setup old new []
taken_rests suite setup old new worker [] answer is =
    let settles : (peels.Idle, old) ≡ (answer, new) = cc in
    Rests (sym (ap (λ (r : Peeled × NodeState). r.1.setup) settles)) (sym (ap (λ (r : Peeled × NodeState). r.1.shards) settles)) refl
taken_rests suite setup old new worker (arrival ∷ others) answer is =
    opened_rests setup old (record old { arrivals = others }) new worker arrival.number
    (items.peeled suite (packets_setup old.setup) arrival.number arrival.at arrival.packet) answer refl refl is

peel_rests : (suite : SuiteMeaning) (setup : NodeSetup) (old new : NodeState) (worker : ℕ) (holds : Option Item) (answer : Peeled)
    → taken_by suite old worker holds ≡ Some (answer, new) → Moves setup old new []
peel_rests suite setup old new worker (Some item) answer is =
    let settles : (peels.Busy, old) ≡ (answer, new) = cc in
    Rests (sym (ap (λ (r : Peeled × NodeState). r.1.setup) settles)) (sym (ap (λ (r : Peeled × NodeState). r.1.shards) settles)) refl
peel_rests suite setup old new worker None answer is = taken_rests suite setup old new worker old.arrivals answer is

-- nothing changes
nothing_changes : (setup : NodeSetup) (old new : NodeState) → new ≡ old → Moves setup old new []
nothing_changes setup old new same = Rests (ap (λ (n : NodeState). n.setup) same) (ap (λ (n : NodeState). n.shards) same) refl

-- ---- each act

-- an act whose lines hand nothing on
nothing : (setup : NodeSetup) (old new : NodeState) (lines : List Line) → handed lines ≡ [] → Moves setup old new [] → Moves setup old new (handed lines)
nothing setup old new lines none moves = subst (λ (pairs : List (ℕ × List ℕ)). Moves setup old new pairs) (sym none) moves

module _ (tells : Type 0) (t : tells) (suite : SuiteMeaning) (setup : NodeSetup) where
  ready_moves : (shard : ℕ) (result : Result Book OpenStore) (old new : NodeState) → AtShard (Readies tells suite result) shard old new → Moves setup old new []
  ready_moves shard result old new at =
      one_changes setup (Readies tells suite result) shard old old new [] refl refl at (λ before after readies. readies_acts tells t suite setup shard result before after readies)

  rotate_moves : (shard moment : ℕ) (result : Result (Unit {0}) RotateFault) (old new : NodeState) → AtShard (Retires tells suite moment result) shard old new → Moves setup old new []
  rotate_moves shard moment result old new at =
      one_changes setup (Retires tells suite moment result) shard old old new [] refl refl at
      (λ before after retires. rotates_acts tells t suite setup shard moment result before after retires)

  claim_moves : (worker : ℕ) (holds : Option Item) (answer : Claimed) (old new : NodeState) → old.setup ≡ setup → ClaimsFor tells suite worker holds answer old new → Moves setup old new []
  claim_moves worker None answer old new same claims = nothing_changes setup old new claims.1
  claim_moves worker (Some item) answer old new same claims =
      let place : place_of old.setup item.tag ≡ place_of setup item.tag = ap (λ (s : NodeSetup). place_of s item.tag) same in
      one_changes setup (node.Admits tells suite item claims.result) (place_of old.setup item.tag) old (record old { workers = set old.workers worker None }) new [] refl refl claims.asks
      (λ before after admits. subst (λ (index : ℕ). Acts setup index before after []) (sym place) (claims_acts tells t suite setup item claims.result before after admits))

  send_moves : (moment : ℕ) (item : Item) (old new : NodeState) → SendsItem tells suite moment item old new → Moves setup old new (pair_of item ∷ [])
  send_moves moment item old new sends =
      one_changes setup (node.GivesUp tells suite moment item) sends.place old old new (pair_of item ∷ []) refl refl sends.gives
      (λ before after gives. gives_acts tells t suite setup sends.place moment item before after gives)

  -- each act moves the node so
  moves_sent : (act : Act) (lines : List Line) (old new : NodeState) → old.setup ≡ setup → Does tells suite act lines old new → Moves setup old new (handed lines)
  moves_sent (Opens shard) lines old new same does = nothing setup old new lines (opened_silent shard does.0 lines does.2) (ready_moves shard does.0 old new does.1)
  moves_sent (Reopens shard) lines old new same does = nothing setup old new lines (reopened_silent shard does.0 lines does.2) (ready_moves shard does.0 old new does.1)
  moves_sent (Receives moment packet) lines old new same does =
      nothing setup old new lines (ap handed does.1) (Rests (ap (λ (n : NodeState). n.setup) does.0) (ap (λ (n : NodeState). n.shards) does.0) refl)
  moves_sent (Peels worker) lines old new same does =
      nothing setup old new lines (ap handed does.2 ∙ peeled_silent worker does.0) (peel_rests suite setup old new worker (worker_at old worker) does.0 does.1)
  moves_sent (Claims worker) lines old new same does =
      nothing setup old new lines (claimed_silent worker does.0 lines does.2) (claim_moves worker (worker_at old worker) does.0 old new same does.1)
  moves_sent (Sends moment) lines old new same (inl none) = nothing setup old new lines (ap handed none.2) (nothing_changes setup old new none.1)
  moves_sent (Sends moment) lines old new same (inr sends) =
      subst (λ (pairs : List (ℕ × List ℕ)). Moves setup old new pairs) (sym (ap handed sends.2)) (send_moves moment sends.0 old new sends.1)
  moves_sent (Rotates moment shard) lines old new same does = nothing setup old new lines (rotated_silent shard does.0 lines does.2) (rotate_moves shard moment does.0 old new does.1)
  moves_sent (Arms shard calls) lines old new same does =
      nothing setup old new lines (ap handed does.1)
      (one_changes setup (node.Arms calls) shard old old new [] refl refl does.0 (λ before after arms. arms_acts tells t suite setup shard calls before after arms))
  moves_sent (Crashes pick) lines old new same does =
      nothing setup old new lines (ap handed does.1)
      (Each (ap (λ (n : NodeState). n.setup) does.0.new_is) does.0.shards_are.count
      (λ index before after was is. crash_acts tells t suite setup index pick before after (does.0.shards_are.each index before after was is)) refl)

  -- so does the act that ends a run, and hands nothing on
  moves_last : (act : Act) (status : Status) (old new : NodeState) → old.setup ≡ setup → Ends tells suite act status old new → Moves setup old new []
  moves_last (Opens shard) status old new same ends = ready_moves shard (Err ends.0) old new ends.1
  moves_last (Reopens shard) status old new same ends = ready_moves shard (Err ends.0) old new ends.1
  moves_last (Receives moment packet) status old new same ends = nothing_changes setup old new ends.1
  moves_last (Peels worker) status old new same ends = nothing_changes setup old new ends.5
  moves_last (Claims worker) status old new same ends = claim_moves worker (worker_at old worker) ends.0 old new same ends.1
  moves_last (Sends moment) status old new same ends = absurd ends
  moves_last (Rotates moment shard) status old new same ends = rotate_moves shard moment (Err ends.0) old new ends.1
  moves_last (Arms shard calls) status old new same ends = absurd ends
  moves_last (Crashes pick) status old new same ends = absurd ends

-- ---- what holds of a node through a run

-- the journal of a disk's shard at the beginning
abbrev begun_journal : NodeSetup → ℕ → RackState → Journal
begun_journal setup index rack = (began (terms_at setup index) rack.areas).journal

-- over disks, when these pairs were handed on: none of them twice, and each shard is as it should be
pub record IsOnce (setup : NodeSetup) (racks : List RackState) (out : List (ℕ × List ℕ)) (state : NodeState) : Type 0 where
  pub setup_is : state.setup ≡ setup
  pub count : length state.shards ≡ length racks
  pub each : (index : ℕ) (rack : RackState) (shard : ShardState) → slice_get racks index ≡ Some rack → slice_get state.shards index ≡ Some shard
      → IsTracked setup index (begun_journal setup index rack) out shard
  pub once : NoneTwice out

module _ (setup : NodeSetup) (racks : List RackState) where
  -- each shard has its disk, and each disk its shard
  rack_at : (out : List (ℕ × List ℕ)) (state : NodeState) → IsOnce setup racks out state → (index : ℕ) (shard : ShardState) → slice_get state.shards index ≡ Some shard
      → (rack : RackState) × (slice_get racks index ≡ Some rack)
  rack_at out state is index shard there = at_within racks index (subst (λ (n : ℕ). index < n) is.count (slice_get_within state.shards index shard there))

  shard_at : (out : List (ℕ × List ℕ)) (state : NodeState) → IsOnce setup racks out state → (index : ℕ) (rack : RackState) → slice_get racks index ≡ Some rack
      → (shard : ShardState) × (slice_get state.shards index ≡ Some shard)
  shard_at out state is index rack there = at_within state.shards index (subst (λ (n : ℕ). index < n) (sym is.count) (slice_get_within racks index rack there))

  -- nothing was done yet
  begins_once : (start : NodeState) → IsNewNode setup racks start → All (λ rack. AreAtRest rack.areas) racks → IsOnce setup racks [] start
  begins_once start is rest = record {
    setup_is = is.setup_is;
    count = is.count;
    each = λ index rack shard rack_there there. let new = is.each index rack shard rack_there there in record {
      charted = inl (subst (λ (s : ShardState). AreAtRest s.first.areas) (sym new) (all_at (λ (r : RackState). AreAtRest r.areas) racks index rack rest rack_there));
      single = λ pair. subst (λ (s : ShardState). times pair (held_pairs s.state) ≤ 1) (sym new) (omega arith);
      placed = λ pair found. absurd (none_at_first index rack shard new pair found);
      unsent = λ pair found out. none_in_empty pair out;
      covered = λ pair known. elim known [ inl found ↦ absurd (none_at_first index rack shard new pair found) | inr out ↦ absurd (none_in_empty pair out.0) ];
      fresh = λ pair known first. elim known [ inl found ↦ none_at_first index rack shard new pair found | inr out ↦ none_in_empty pair out.0 ];
      kept = λ pair first. subst (λ (s : ShardState). AllCover s.state.journal pair) (sym new) first;
    };
    once = tt;
  }
    where
      none_at_first : (index : ℕ) (rack : RackState) (shard : ShardState) → IsNewShard setup index rack shard → (pair : ℕ × List ℕ) → Contains (held_pairs shard.state) pair → ⊥
      none_at_first index rack shard new pair found = none_in_empty pair (subst (λ (s : ShardState). Contains (held_pairs s.state) pair) new found)

  -- what the shard of a place hands on belongs to no other shard
  sent_elsewhere : (out sent : List (ℕ × List ℕ)) (place index : ℕ) (first : Journal) (before after : ShardState) → IsTracked setup place first out before
      → Holds setup place before after sent → index ≢ place → (pair : ℕ × List ℕ) → Contains sent pair → place_of setup pair.1 ≢ index
  sent_elsewhere out sent place index first before after was holds other pair there same =
      other (sym same ∙ was.placed pair (sent_here setup place first out sent before after was holds pair there))

  -- and wasn't handed on before
  sent_once : (out sent : List (ℕ × List ℕ)) (place : ℕ) (first : Journal) (before after : ShardState) → IsTracked setup place first out before
      → Holds setup place before after sent → NoneTwice out → NoneTwice (out ++ sent)
  sent_once out sent place first before after was (Keeps same none) once = subst NoneTwice (sym (none_more out sent none)) once
  sent_once out sent place first before after was (Empties empty none) once = subst NoneTwice (sym (none_more out sent none)) once
  sent_once out sent place first before after was (Takes item at shuffled uncovered covers none) once = subst NoneTwice (sym (none_more out sent none)) once
  sent_once out sent place first before after was (Gives item shuffled one) once =
      let there : Contains (held_pairs before.state) (pair_of item) =
      sent_here setup place first out sent before after was (Gives item shuffled one) (pair_of item)
      (subst (λ (s : List (ℕ × List ℕ)). Contains s (pair_of item)) (sym one) (Contains-head (pair_of item) [])) in
      subst (λ (s : List (ℕ × List ℕ)). NoneTwice (out ++ s)) (sym one) (NoneTwice-push out (pair_of item) once (was.unsent (pair_of item) there))

  -- after one shard's act
  changed_each : (out sent : List (ℕ × List ℕ)) (old : NodeState) (place : ℕ) (before after : ShardState) → IsOnce setup racks out old
      → slice_get old.shards place ≡ Some before → Acts setup place before after sent → (index : ℕ) (rack : RackState) (shard : ShardState)
      → slice_get racks index ≡ Some rack → slice_get (set old.shards place after) index ≡ Some shard → IsTracked setup index (begun_journal setup index rack) (out ++ sent) shard
  changed_each out sent old place before after was there acts index rack shard rack_there found =
      elim (eqb_tells index place) [
        | inl same ↦
            let tracked : IsTracked setup index (begun_journal setup index rack) out before =
            was.each index rack before rack_there (subst (λ (i : ℕ). slice_get old.shards i ≡ Some before) (sym same.1) there) in
            let holds : Holds setup index before after sent = subst (λ (i : ℕ). Holds setup i before after sent) (sym same.1) acts.holds in
            subst (IsTracked setup index (begun_journal setup index rack) (out ++ sent)) (same_place old.shards place index before after shard there same.1 found)
            (tracked_on setup index (begun_journal setup index rack) out sent before after tracked acts.goes holds)
        | inr other ↦
            let own = rack_at out old was place before there in
            tracked_beside setup index (begun_journal setup index rack) out sent shard
            (was.each index rack shard rack_there (other_place old.shards place index after shard other.1 found))
            (sent_elsewhere out sent place index (begun_journal setup place own.0) before after (was.each place own.0 before own.1 there) acts.holds other.1)
      ]

  -- after any act
  once_moved : (out sent : List (ℕ × List ℕ)) (old new : NodeState) → IsOnce setup racks out old → Moves setup old new sent → IsOnce setup racks (out ++ sent) new
  once_moved out sent old new was (Rests same shards none) =
      subst (λ (o : List (ℕ × List ℕ)). IsOnce setup racks o new) (sym (none_more out sent none)) (record {
        setup_is = same ∙ was.setup_is;
        count = ap (λ (all : List ShardState). length all) shards ∙ was.count;
        each = λ index rack shard rack_there there. was.each index rack shard rack_there (subst (λ (all : List ShardState). slice_get all index ≡ Some shard) shards there);
        once = was.once;
      })
  once_moved out sent old new was (Changes place before after there same shards acts) =
      let own = rack_at out old was place before there in
      record {
        setup_is = same ∙ was.setup_is;
        count = ap (λ (all : List ShardState). length all) shards ∙ length-set old.shards place after ∙ was.count;
        each = λ index rack shard rack_there found. changed_each out sent old place before after was there acts index rack shard rack_there
            (subst (λ (all : List ShardState). slice_get all index ≡ Some shard) shards found);
        once = sent_once out sent place (begun_journal setup place own.0) before after (was.each place own.0 before own.1 there) acts.holds was.once;
      }
  once_moved out sent old new was (Each same count acts none) =
      let each : (index : ℕ) (rack : RackState) (shard : ShardState) → slice_get racks index ≡ Some rack → slice_get new.shards index ≡ Some shard
      → IsTracked setup index (begun_journal setup index rack) out shard =
      λ index rack shard rack_there there.
      let before = shard_at out old was index rack rack_there in
      let act = acts index before.0 shard before.1 there in
      subst (λ (o : List (ℕ × List ℕ)). IsTracked setup index (begun_journal setup index rack) o shard) (append-nil out)
      (tracked_on setup index (begun_journal setup index rack) out [] before.0 shard (was.each index rack before.0 rack_there before.1) act.goes act.holds) in
      subst (λ (o : List (ℕ × List ℕ)). IsOnce setup racks o new) (sym (none_more out sent none)) (record {
        setup_is = same ∙ was.setup_is;
        count = count ∙ was.count;
        each = each;
        once = was.once;
      })

handed-append : (lines others : List Line) → handed (lines ++ others) ≡ handed lines ++ handed others
handed-append lines others = flat_map-append handed_by lines others

-- ---- a run

module _ (tells : Type 0) (t : tells) (suite : SuiteMeaning) (setup : NodeSetup) (racks : List RackState) where
  -- act by act
  runs_once : (acts : List Act) (old new : NodeState) (out : List (ℕ × List ℕ)) (said : List Line) → IsOnce setup racks out old → Runs tells suite old acts said new
      → IsOnce setup racks (out ++ handed said) new
  runs_once [] old new out said was (none, same) =
      subst (λ (lines : List Line). IsOnce setup racks (out ++ handed lines) new) (sym none)
      (subst (λ (o : List (ℕ × List ℕ)). IsOnce setup racks o new) (sym (append-nil out)) (subst (IsOnce setup racks out) (sym same) was))
  runs_once (act ∷ acts) old new out said was (between, lines, others, does, runs, joined) =
      let moved = once_moved setup racks out (handed lines) old between was (moves_sent tells t suite setup act lines old between was.setup_is does) in
      subst (λ (o : List (ℕ × List ℕ)). IsOnce setup racks o new)
      (append_assoc out (handed lines) (handed others) ∙ ap (λ (pairs : List (ℕ × List ℕ)). out ++ pairs) (sym (ap handed joined ∙ handed-append lines others)))
      (runs_once acts between new (out ++ handed lines) others moved runs)

  module _ (start : NodeState) (is_new : IsNewNode setup racks start) (rest : All (λ rack. AreAtRest rack.areas) racks) where
    at_end : (acts : List Act) (said : List Line) (state : NodeState) → Runs tells suite start acts said state → IsOnce setup racks (handed said) state
    at_end acts said state runs = runs_once acts start state [] said (begins_once setup racks start is_new rest) runs

    covered_at : (said : List Line) (state : NodeState) → IsOnce setup racks (handed said) state → (index : ℕ) (shard : ShardState) → slice_get state.shards index ≡ Some shard
        → (pair : ℕ × List ℕ) → Contains (handed said) pair → place_of setup pair.1 ≡ index → AllCover shard.state.journal pair
    covered_at said state is index shard there pair sent place =
        let rack = rack_at setup racks (handed said) state is index shard there in
        (is.each index rack.0 shard rack.1 there).covered pair (inr (sent, place))

    -- a run hands on no pair twice
    pub run_once : (acts : List Act) (said : List Line) (state : NodeState) → Runs tells suite start acts said state → NoneTwice (handed said)
    run_once acts said state runs = (at_end acts said state runs).once

    -- and none that its shard's disk held
    pub run_fresh : (acts : List Act) (said : List Line) (state : NodeState) → Runs tells suite start acts said state
        → All (λ pair. ¬ WasHeld setup racks pair) (handed said)
    run_fresh acts said state runs =
        let is = at_end acts said state runs in
        all_within (λ (pair : ℕ × List ℕ). ¬ WasHeld setup racks pair) (handed said) (λ pair sent held.
        let index = place_of setup pair.1 in
        let shard = shard_at setup racks (handed said) state is index held.0 held.1 in
        (is.each index held.0 shard.0 held.1 shard.1).fresh pair (inr (sent, refl))
        (All-cons (λ (book : Result StoredBook Objection). IsCovered book pair.0 pair.1) (book_in held.0.areas (shape_at setup index) setup.limit) [] held.2
        (All-nil (λ (book : Result StoredBook Objection). IsCovered book pair.0 pair.1))))

    -- what was handed on all books of its shard's journal cover
    pub run_covered : (acts : List Act) (said : List Line) (state : NodeState) → Runs tells suite start acts said state → (index : ℕ) (shard : ShardState)
        → slice_get state.shards index ≡ Some shard → (pair : ℕ × List ℕ) → Contains (handed said) pair → place_of setup pair.1 ≡ index → AllCover shard.state.journal pair
    run_covered acts said state runs = covered_at said state (at_end acts said state runs)

    -- also where an act ended the run
    pub ended_covered : (acts : List Act) (said : List Line) (state : NodeState) → Runs tells suite start acts said state → (act : Act) (status : Status) (end : NodeState)
        → Ends tells suite act status state end → (index : ℕ) (shard : ShardState) → slice_get end.shards index ≡ Some shard → (pair : ℕ × List ℕ) → Contains (handed said) pair
        → place_of setup pair.1 ≡ index → AllCover shard.state.journal pair
    ended_covered acts said state runs act status end ends =
        let is = at_end acts said state runs in
        let moved = once_moved setup racks (handed said) [] state end is (moves_last tells t suite setup act status state end is.setup_is ends) in
        covered_at said end (subst (λ (o : List (ℕ × List ℕ)). IsOnce setup racks o end) (append-nil (handed said)) moved)

-- ---- the node's disks among others

-- the disk of a pair's shard is one of the node's
pub was_held_front : (setup : NodeSetup) (old : List RackState) (pair : ℕ × List ℕ) → 1 ≤ setup.shards → WasHeld setup old pair → WasHeld setup (take setup.shards old) pair
was_held_front setup old pair some (rack, there, covered) =
    (rack, at_front old setup.shards (place_of setup pair.1) rack (mod-lt _ some) there, covered)
