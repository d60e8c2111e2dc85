-- Each hand-on line is honest: what waits, what a worker holds and what a shard holds came from an arrival, what a shard
-- holds was opened by a key that was live at its receipt, and a `send` hands on what is due.
use Rattle.std.proofs.Common.{◌≡◌, ℕ, ◌+◌, ◌≤◌, IsTrue, List, [], ◌∷◌, ◌++◌, length, get_or, inl, inr, refl, ap, ◌∙◌, sym, subst, slice_set, Option, Some, None, IfSome, option_map, unwrap_or, Result, Ok, Err, IfErr, IfOk, arith}
use Rattle.std.specs.Bool.{⊤}
use Rattle.std.specs.List.{All, Contains, slice_get}
use Rattle.std.proofs.lemmas.List.{append_assoc, append-nil, get_or_past, length-append}
use Rattle.std.proofs.lemmas.Option.{slice_get-get_or}
use Rattle.std.proofs.lemmas.Bool.{cases_lt}
use Rattle.std.proofs.lemmas.List.Elements.{All-append, All-cons, All-contains, All-from_get_or, All-get_or, All-head, All-nil, All-push, All-set, All-tail, All-weaker, Contains-append_left, Contains-push}
use Rattle.std.proofs.lemmas.List.Sorted.{All-permutation}
use Rattle.mix_base.specs.Suites.{SuiteMeaning}
use Rattle.replay_disk.specs.Disk.{RackState}
use Rattle.epoch_keys.proofs.LiveEpochs.{live_exactly}
use Rattle.epoch_keys.specs.Epochs.{InRange, is_live, live_epochs}
use Rattle.epoch_keys.specs.Keys.{epoch_secret_key}
use Rattle.sphinx_unwrap.specs.Outcome.{unwrapped}
use Rattle.sphinx_unwrap.specs.declared.faults.Refused.{Refused}
use Rattle.sphinx_unwrap.specs.declared.outcome.Opened.{Opened}
use Rattle.spent_store.specs.declared.faults.ClaimFault.{ClaimFault}
use Rattle.spent_store.specs.declared.faults.OpenStore.{OpenStore}
use Rattle.spent_store.specs.declared.faults.OpenStore.TheVariants as open_store
use Rattle.spent_store.specs.declared.summary.Book.{Book}
use Rattle.mix_shard.specs.Entries.{packet_of}
use Rattle.mix_shard.specs.Faults.{admit_answer, rotate_answer}
use Rattle.mix_shard.specs.Items.{Item, IsHeld, destination, item_of, item_or_not, whens}
use Rattle.mix_shard.specs.Items as items
use Rattle.mix_shard.specs.LiveKeys.{opened_at}
use Rattle.mix_shard.specs.Shards.{Adds, IsClaimEntry, IsEntry, IsOpeningBy, IsReady, IsRotateEntry, RefusesOpening, ShardState}
use Rattle.mix_shard.specs.Tale.{HeldAfter, IsItemOf, Says, State, StaysUnsound, Steps}
use Rattle.mix_shard.specs.declared.entries.Answer.{Answer}
use Rattle.mix_shard.specs.declared.entries.Entry.{Entry}
use Rattle.mix_shard.specs.declared.entries.Entry.TheVariants as entry
use Rattle.mix_shard.specs.declared.entries.Told.{Told}
use Rattle.mix_shard.specs.declared.faults.RotateFault.{RotateFault}
use Rattle.mix_shard.specs.declared.setup.Setup.{Setup}
use Rattle.mix_shard.specs.declared.terms.Terms.{Terms}
use Rattle.mix_shard.proofs.Holding.{held_opening}
use Rattle.node_core.specs.Nodes.{AtShard, IsNewNode, NodeState, all_held, no_packets, packets_setup}
use Rattle.node_core.specs.Steps.{Admits, ClaimsFor, ClaimsItem, CrashesShard, GivesUp, Readies, Retires, SendsItem, peeled, received, settled, taken, taken_by, worker_at}
use Rattle.node_core.specs.Steps as node
use Rattle.node_core.specs.declared.answers.Claimed.{Claimed}
use Rattle.node_core.specs.declared.answers.Peeled.{Peeled}
use Rattle.node_core.specs.declared.answers.Peeled.TheVariants as peels
use Rattle.node_core.specs.declared.arrivals.Arrival.{Arrival}
use Rattle.node_core.specs.declared.setup.NodeSetup.{NodeSetup}
use Rattle.mix_top.specs.Acts.{Act, Opens, Reopens, Receives, Peels, Claims, Sends, Rotates, Arms, Crashes}
use Rattle.mix_top.specs.Honest.{IsHonest, arrival_by, arrivals_from}
use Rattle.mix_top.specs.Report.{Line, HandsOn}
use Rattle.mix_top.specs.Run.{Runs}
use Rattle.mix_top.specs.Steps.{Does}
use Rattle.mix_top.proofs.Members.{all_at}
use Rattle.mix_top.proofs.Runs.{HandedOn, Runs-split}

-- ---- lists

-- a fact of all entries, from all places, where these are those of another list
at_each : {X Y : Type 0} (P : X → Type 0) (xs : List X) (ys : List Y) → length xs ≡ length ys
    → ((place : ℕ) (x : X) (y : Y) → slice_get xs place ≡ Some x → slice_get ys place ≡ Some y → P x) → All P xs
at_each P [] ys same each = All-nil P
at_each P (x ∷ xs) [] same each = absurd (omega (arith, same))
at_each P (x ∷ xs) (y ∷ ys) same each =
    All-from_get_or P (x ∷ xs) x
    (λ place within. each place (get_or (x ∷ xs) place x) (get_or (y ∷ ys) place y) (slice_get-get_or (x ∷ xs) place x within)
    (slice_get-get_or (y ∷ ys) place y (omega (arith, within, same))))

-- ---- what comes from an arrival

-- one of these arrivals has this number, moment and packet
record HasArrived (arrivals : List Arrival) (number at : ℕ) (packet : List ℕ) : Type 0 where
  arrival : Arrival
  arrived : Contains arrivals arrival
  number_is : number ≡ arrival.number
  at_is : at ≡ arrival.at
  packet_is : packet ≡ arrival.packet

abbrev CameFrom : List Arrival → Item → Type 0
CameFrom arrivals item = HasArrived arrivals item.number item.at item.packet

came_more : (arrivals more : List Arrival) (item : Item) → CameFrom arrivals item → CameFrom (arrivals ++ more) item
came_more arrivals more item came = record {
  arrival = came.arrival;
  arrived = Contains-append_left arrivals more came.arrival came.arrived;
  number_is = came.number_is;
  at_is = came.at_is;
  packet_is = came.packet_is;
}

slot_more : (arrivals more : List Arrival) (slot : Option Item) → IfSome slot (CameFrom arrivals) → IfSome slot (CameFrom (arrivals ++ more))
slot_more arrivals more None came = tt
slot_more arrivals more (Some item) came = came_more arrivals more item came

-- workers that hold nothing
none_came : (arrivals : List Arrival) → All (λ slot. IfSome slot (CameFrom arrivals)) no_packets
none_came arrivals =
    let P : Option Item → Type 0 = λ slot. IfSome slot (CameFrom arrivals) in
    All-cons P None (None ∷ None ∷ None ∷ []) tt (All-cons P None (None ∷ None ∷ []) tt (All-cons P None (None ∷ []) tt (All-cons P None [] tt (All-nil P))))

-- the item of an unwrapping is of what was unwrapped
peeled_came : (suite : SuiteMeaning) (setup : Setup) (arrivals : List Arrival) (arrival : Arrival) (item : Item) → Contains arrivals arrival
    → items.peeled suite setup arrival.number arrival.at arrival.packet ≡ Some (Ok item) → CameFrom arrivals item
peeled_came suite setup arrivals arrival item arrived opens = by_opened (opened_at suite setup arrival.at arrival.packet) opens
  where
    by_opened : (opened : Option (Result (ℕ × Opened) Refused))
        → option_map (item_or_not setup arrival.number arrival.at arrival.packet) opened ≡ Some (Ok item) → CameFrom arrivals item
    by_opened None same = absurd (cc)
    by_opened (Some (Err why)) same = absurd (cc)
    by_opened (Some (Ok found)) same =
        let is : item_of setup arrival.number arrival.at arrival.packet found ≡ item = cc in
        subst (CameFrom arrivals) is (record { arrival = arrival; arrived = arrived; number_is = refl; at_is = refl; packet_is = refl })

module _ (suite : SuiteMeaning) (setup : NodeSetup) where
  -- what a shard of this node holds
  record IsKnown (arrivals : List Arrival) (item : Item) : Type 0 where
    from : CameFrom arrivals item
    held : IsHeld suite item
    setup_is : item.setup ≡ packets_setup setup

  record ShardCame (arrivals : List Arrival) (shard : ShardState) : Type 0 where
    setup_is : shard.terms.setup ≡ packets_setup setup
    holding : All (IsKnown arrivals) shard.state.held

  -- all that a node has came from these arrivals, and the next number is one more than there are
  record Came (arrivals : List Arrival) (state : NodeState) : Type 0 where
    next : state.next ≡ 1 + length arrivals
    waiting : All (Contains arrivals) state.arrivals
    working : All (λ slot. IfSome slot (CameFrom arrivals)) state.workers
    shards : All (ShardCame arrivals) state.shards

  known_more : (arrivals more : List Arrival) (item : Item) → IsKnown arrivals item → IsKnown (arrivals ++ more) item
  known_more arrivals more item known = record { from = came_more arrivals more item known.from; held = known.held; setup_is = known.setup_is }

  shard_more : (arrivals more : List Arrival) (shard : ShardState) → ShardCame arrivals shard → ShardCame (arrivals ++ more) shard
  shard_more arrivals more shard came = record {
    setup_is = came.setup_is;
    holding = All-weaker (IsKnown arrivals) (IsKnown (arrivals ++ more)) (known_more arrivals more) shard.state.held came.holding;
  }

  -- ---- a shard

  -- a shard that holds the same under the same terms
  shard_alike : (arrivals : List Arrival) (old new : ShardState) → new.terms ≡ old.terms → new.state.held ≡ old.state.held → ShardCame arrivals old → ShardCame arrivals new
  shard_alike arrivals old new terms held came = record {
    setup_is = ap (λ (t : Terms). t.setup) terms ∙ came.setup_is;
    holding = subst (All (IsKnown arrivals)) (sym held) came.holding;
  }

  -- the packet beside a claim's entry arrived with the entry's number and moment
  abbrev SaysArrived : List Arrival → Told → Entry → Type 0
  SaysArrived arrivals told (entry.Claim caller number epoch tag at answer) = (packet : List ℕ) → packet_of told ≡ Some packet → HasArrived arrivals number at packet
  SaysArrived arrivals told (entry.Take caller number dest moment) = ⊤
  SaysArrived arrivals told (entry.Rotate caller moment answer) = ⊤
  SaysArrived arrivals told (entry.Done caller) = ⊤
  SaysArrived arrivals told (entry.Reopened caller floor spent) = ⊤

  abbrev AllArrived : List Arrival → List Told → Type 0
  AllArrived arrivals entries = All (λ told. SaysArrived arrivals told told.entry) entries

  module _ (tells : Type 0) (arrivals : List Arrival) where
    -- the item of a claim
    item_known : (terms : Terms) (number epoch : ℕ) (tag : List ℕ) (at : ℕ) (told : Told) (item : Item) → terms.setup ≡ packets_setup setup
        → ((packet : List ℕ) → packet_of told ≡ Some packet → HasArrived arrivals number at packet) → IsItemOf suite terms number epoch tag at told item
        → IsKnown arrivals item
    item_known terms number epoch tag at told item same arrived is =
        let from = arrived item.packet is.packet in
        record {
          from = record {
            arrival = from.arrival;
            arrived = from.arrived;
            number_is = is.number_is ∙ from.number_is;
            at_is = is.at_is ∙ from.at_is;
            packet_is = from.packet_is;
          };
          held = is.is_held;
          setup_is = is.setup ∙ same;
        }

    -- what is held after a claim
    held_after : (result : Result (Unit {0}) ClaimFault) (item : Item) (old new : List Item) → HeldAfter result item old new → IsKnown arrivals item
        → All (IsKnown arrivals) old → All (IsKnown arrivals) new
    held_after (Ok _) item old new moved known all =
        All-permutation (IsKnown arrivals) (old ++ item ∷ []) new moved (All-push (IsKnown arrivals) old item all known)
    held_after (Err fault) item old new same known all = subst (All (IsKnown arrivals)) (sym same) all

    unsound_holds : (terms : Terms) (answer : Answer) (old new : State) → StaysUnsound tells terms answer old new → All (IsKnown arrivals) old.held → All (IsKnown arrivals) new.held
    unsound_holds terms answer old new stays all = subst (λ (s : State). All (IsKnown arrivals) s.held) (sym stays.new_is) all

    -- what is held after an entry
    says_holds : (terms : Terms) (told : Told) (one : Entry) (old new : State) → terms.setup ≡ packets_setup setup → SaysArrived arrivals told one
        → Says tells suite terms told one old new → All (IsKnown arrivals) old.held → All (IsKnown arrivals) new.held
    says_holds terms told (entry.Claim caller number epoch tag at answer) old new same arrived (active, item, is, claims) all =
        elim claims [
          | inl taken ↦ held_after taken.result item old.held new.held taken.held (item_known terms number epoch tag at told item same arrived is) all
          | inr stays ↦ unsound_holds terms answer old new stays all
        ]
    says_holds terms told (entry.Take caller number dest moment) old new same arrived takes all =
        All-tail (IsKnown arrivals) takes.item new.held (All-permutation (IsKnown arrivals) old.held (takes.item ∷ new.held) takes.rest all)
    says_holds terms told (entry.Rotate caller moment answer) old new same arrived says all =
        elim says [
          | inl rotates ↦ subst (All (IsKnown arrivals)) (sym rotates.held) all
          | inr stays ↦ unsound_holds terms answer old new stays all
        ]
    says_holds terms told (entry.Done caller) old new same arrived says all = subst (λ (s : State). All (IsKnown arrivals) s.held) (sym says.1) all
    says_holds terms told (entry.Reopened caller floor pairs) old new same arrived opens all = subst (λ (s : State). All (IsKnown arrivals) s.held) (sym opens.new_is) all

    -- and after entries
    steps_hold : (terms : Terms) (entries : List Told) (old new : State) → terms.setup ≡ packets_setup setup → AllArrived arrivals entries
        → Steps tells suite terms old entries new → All (IsKnown arrivals) old.held → All (IsKnown arrivals) new.held
    steps_hold terms [] old new same arrived is all = subst (λ (s : State). All (IsKnown arrivals) s.held) (sym is) all
    steps_hold terms (told ∷ others) old new same arrived (between, step, steps) all =
        let P : Told → Type 0 = λ told. SaysArrived arrivals told told.entry in
        steps_hold terms others between new same (All-tail P told others arrived) steps
        (says_holds terms told told.entry old between same (All-head P told others arrived) step all)

    -- an entry alone that is no claim's
    one_arrived : (one : Entry) (told : Told) (own : List Told) → SaysArrived arrivals told one → told.entry ≡ one → own ≡ told ∷ [] → AllArrived arrivals own
    one_arrived one told own arrived is same =
        let P : Told → Type 0 = λ told. SaysArrived arrivals told told.entry in
        subst (All P) (sym same) (All-cons P told [] (subst (SaysArrived arrivals told) (sym is) arrived) (All-nil P))

    none_arrived : (own : List Told) → own ≡ [] → AllArrived arrivals own
    none_arrived own none = subst (AllArrived arrivals) (sym none) (All-nil (λ told. SaysArrived arrivals told told.entry))

    opening_arrived : (caller : ℕ) (opening : List Told) → IsOpeningBy caller opening → AllArrived arrivals opening
    opening_arrived caller opening (inl none) = none_arrived opening none
    opening_arrived caller opening (inr (told, floor, pairs, same, is)) = one_arrived (entry.Reopened caller floor pairs) told opening tt is same

    rotation_arrived : (caller moment : ℕ) (answer : Option Answer) (own : List Told) → IsRotateEntry caller moment answer own → AllArrived arrivals own
    rotation_arrived caller moment None own none = none_arrived own none
    rotation_arrived caller moment (Some answer) own (told, same, is) = one_arrived (entry.Rotate caller moment answer) told own tt is same

    -- the entry of a claim is of the item that a worker held
    claim_arrived : (caller : ℕ) (item : Item) (answer : Option Answer) (own : List Told) → CameFrom arrivals item → IsClaimEntry caller item answer own → AllArrived arrivals own
    claim_arrived caller item None own from none = none_arrived own none
    claim_arrived caller item (Some answer) own from (told, same, is, beside) =
        one_arrived (entry.Claim caller item.number item.epoch item.tag item.at answer) told own
        (λ packet there.
        let some : Some item.packet ≡ Some packet = sym beside ∙ there in
        let packet_is : item.packet ≡ packet = cc in
        subst (HasArrived arrivals item.number item.at) packet_is from)
        is same

    -- what a call adds to the tale
    adds_came : (caller : ℕ) (Own : List Told → Type 0) (old new : ShardState) → ((own : List Told) → Own own → AllArrived arrivals own)
        → Adds tells suite caller Own old new → ShardCame arrivals old → ShardCame arrivals new
    adds_came caller Own old new arrived adds came = record {
      setup_is = ap (λ (t : Terms). t.setup) adds.began.terms ∙ came.setup_is;
      holding = steps_hold old.terms (adds.opening ++ adds.own) old.state new.state came.setup_is
          (All-append (λ told. SaysArrived arrivals told told.entry) adds.opening adds.own (opening_arrived caller adds.opening adds.by_caller) (arrived adds.own adds.own_is))
          adds.steps came.holding;
    }

    refused_came : (fault : OpenStore) (old new : ShardState) → RefusesOpening fault old new → ShardCame arrivals old → ShardCame arrivals new
    refused_came open_store.Memory old new same came = shard_alike arrivals old new same.began.terms (ap (λ (s : State). s.held) same.state) came
    refused_came open_store.Failed old new failed came = shard_alike arrivals old new failed.began.terms (ap (λ (s : State). s.held) failed.state) came
    refused_came (open_store.Foreign area at) old new failed came = shard_alike arrivals old new failed.began.terms (ap (λ (s : State). s.held) failed.state) came
    refused_came (open_store.OtherShape stored) old new failed came = shard_alike arrivals old new failed.began.terms (ap (λ (s : State). s.held) failed.state) came

    -- an opening
    readied_came : (result : Result Book OpenStore) (old new : ShardState) → IfOk result (λ book. IsReady tells suite 0 book old new) → IfErr result (λ fault. RefusesOpening fault old new)
        → ShardCame arrivals old → ShardCame arrivals new
    readied_came (Ok book) old new ready refused came = adds_came 0 (λ own. own ≡ []) old new none_arrived ready.adds came
    readied_came (Err fault) old new ready refused came = refused_came fault old new refused came

    -- a shard after a crash
    crashed_came : (pick : ℕ) (old new : ShardState) → CrashesShard tells pick old new → ShardCame arrivals old → ShardCame arrivals new
    crashed_came pick old new crash came =
        subst (ShardCame arrivals) (sym crash.shard) (record { setup_is = came.setup_is; holding = All-nil (IsKnown arrivals) })

    -- ---- a node

    -- a node in which one shard changed
    came_at : (Changes : ShardState → ShardState → Type 0) (place : ℕ) (old new : NodeState)
        → ((before after : ShardState) → Changes before after → ShardCame arrivals before → ShardCame arrivals after)
        → AtShard Changes place old new → Came arrivals old → Came arrivals new
    came_at Changes place old new keeps at came =
        subst (Came arrivals) (sym at.new_is) (record {
          next = came.next;
          waiting = came.waiting;
          working = came.working;
          shards = All-set (ShardCame arrivals) old.shards place at.after
              (keeps at.before at.after at.changes (all_at (ShardCame arrivals) old.shards place at.before came.shards at.there)) came.shards;
        })

    came_opened : (shard : ℕ) (result : Result Book OpenStore) (old new : NodeState) → AtShard (Readies tells suite result) shard old new → Came arrivals old → Came arrivals new
    came_opened shard result old new at came =
        came_at (Readies tells suite result) shard old new (λ before after readies was. readied_came result before after readies.ok readies.refused was) at came

    came_rotated : (moment shard : ℕ) (result : Result (Unit {0}) RotateFault) (old new : NodeState) → AtShard (Retires tells suite moment result) shard old new
        → Came arrivals old → Came arrivals new
    came_rotated moment shard result old new at came =
        came_at (Retires tells suite moment result) shard old new
        (λ before after retires was. adds_came 0 (IsRotateEntry 0 moment (rotate_answer result)) before after (rotation_arrived 0 moment (rotate_answer result)) retires.told was) at came

    came_armed : (calls shard : ℕ) (old new : NodeState) → AtShard (node.Arms calls) shard old new → Came arrivals old → Came arrivals new
    came_armed calls shard old new at came =
        came_at (node.Arms calls) shard old new
        (λ before after arms was. shard_alike arrivals before after (ap (λ (s : ShardState). s.terms) arms) (ap (λ (s : ShardState). s.state.held) arms) was) at came

    came_crashed : (pick : ℕ) (old new : NodeState) → node.Crashes tells pick old new → Came arrivals old → Came arrivals new
    came_crashed pick old new crashes came =
        subst (Came arrivals) (sym crashes.new_is) (record {
          next = came.next;
          waiting = All-nil (Contains arrivals);
          working = none_came arrivals;
          shards = at_each (ShardCame arrivals) new.shards old.shards crashes.shards_are.count
              (λ place after before there was. crashed_came pick before after (crashes.shards_are.each place before after was there)
              (all_at (ShardCame arrivals) old.shards place before came.shards was));
        })

    -- a worker takes the oldest arrival: it holds its packet, or the packet is refused
    came_settled : (old : NodeState) (worker : ℕ) (arrival : Arrival) (found : Result Item Refused) → ((item : Item) → found ≡ Ok item → CameFrom arrivals item)
        → Came arrivals old → Came arrivals (settled old worker arrival.number found).1
    came_settled old worker arrival (Ok item) from came = record {
      next = came.next;
      waiting = came.waiting;
      working = All-set (λ slot. IfSome slot (CameFrom arrivals)) old.workers worker (Some item) (from item refl) came.working;
      shards = came.shards;
    }
    came_settled old worker arrival (Err why) from came = came

    came_unwrapped : (old : NodeState) (worker : ℕ) (arrival : Arrival) (found : Option (Result Item Refused)) (answer : Peeled) (new : NodeState)
        → ((item : Item) → found ≡ Some (Ok item) → CameFrom arrivals item) → option_map (settled old worker arrival.number) found ≡ Some (answer, new)
        → Came arrivals old → Came arrivals new
    came_unwrapped old worker arrival None answer new from step came = absurd (cc)
    came_unwrapped old worker arrival (Some found) answer new from step came =
        let made : settled old worker arrival.number found ≡ (answer, new) = cc in
        subst (λ (m : Peeled × NodeState). Came arrivals m.1) made (came_settled old worker arrival found (λ item is. from item (ap Some is)) came)

    came_taken : (old : NodeState) (worker : ℕ) (waiting : List Arrival) (answer : Peeled) (new : NodeState) → All (Contains arrivals) waiting
        → taken suite old worker waiting ≡ Some (answer, new) → Came arrivals old → Came arrivals new
    came_taken old worker [] answer new waits step came =
        let made : (peels.Idle, old) ≡ (answer, new) = cc in subst (λ (m : Peeled × NodeState). Came arrivals m.1) made came
    came_taken old worker (arrival ∷ others) answer new waits step came =
        came_unwrapped (record old { arrivals = others }) worker arrival (items.peeled suite (packets_setup old.setup) arrival.number arrival.at arrival.packet) answer new
        (λ item opens. peeled_came suite (packets_setup old.setup) arrivals arrival item (All-head (Contains arrivals) arrival others waits) opens) step
        (record { next = came.next; waiting = All-tail (Contains arrivals) arrival others waits; working = came.working; shards = came.shards })

    came_peeled : (old : NodeState) (worker : ℕ) (holds : Option Item) (answer : Peeled) (new : NodeState) → taken_by suite old worker holds ≡ Some (answer, new)
        → Came arrivals old → Came arrivals new
    came_peeled old worker (Some item) answer new step came =
        let made : (peels.Busy, old) ≡ (answer, new) = cc in subst (λ (m : Peeled × NodeState). Came arrivals m.1) made came
    came_peeled old worker None answer new step came = came_taken old worker old.arrivals answer new came.waiting step came

    -- what a worker holds
    came_worker : (old : NodeState) (worker : ℕ) → Came arrivals old → IfSome (worker_at old worker) (CameFrom arrivals)
    came_worker old worker came =
        let P : Option Item → Type 0 = λ slot. IfSome slot (CameFrom arrivals) in
        elim (cases_lt worker (length old.workers)) [
          | inl inside ↦ All-get_or P old.workers worker None inside came.working
          | inr past ↦ subst P (sym (get_or_past old.workers worker None past)) tt
        ]

    came_claimed : (old : NodeState) (worker : ℕ) (holds : Option Item) (answer : Claimed) (new : NodeState) → IfSome holds (CameFrom arrivals)
        → ClaimsFor tells suite worker holds answer old new → Came arrivals old → Came arrivals new
    came_claimed old worker None answer new from step came = subst (Came arrivals) (sym step.1) came
    came_claimed old worker (Some item) answer new from claims came =
        came_at (Admits tells suite item claims.result) (node.place_of old.setup item.tag) (record old { workers = slice_set old.workers worker None }) new
        (λ before after admits was. adds_came 0 (IsClaimEntry 0 item (admit_answer claims.result)) before after
        (λ own is. claim_arrived 0 item (admit_answer claims.result) own from is) admits.told was)
        claims.asks
        (record {
          next = came.next;
          waiting = came.waiting;
          working = All-set (λ slot. IfSome slot (CameFrom arrivals)) old.workers worker None tt came.working;
          shards = came.shards;
        })

    -- a packet is handed on
    came_sent : (moment : ℕ) (item : Item) (old new : NodeState) → SendsItem tells suite moment item old new → Came arrivals old → Came arrivals new
    came_sent moment item old new sends came =
        let took : Entry = entry.Take 0 item.number (destination item.out) moment in
        came_at (GivesUp tells suite moment item) sends.place old new
        (λ before after gives was. adds_came 0 (IsEntry took) before after (λ own is. one_arrived took is.0 own tt is.2 is.1) gives.told was) sends.gives came

    -- a packet arrives
    came_received : (old : NodeState) (moment : ℕ) (packet : List ℕ) → Came arrivals old
        → Came (arrivals ++ record { number = old.next; at = moment; packet = packet } ∷ []) (received old moment packet)
    came_received old moment packet came =
        let arrival : Arrival = record { number = old.next; at = moment; packet = packet } in
        let more : List Arrival = arrivals ++ arrival ∷ [] in
        record {
          next = omega (arith, came.next, length-append arrivals (arrival ∷ []));
          waiting = All-push (Contains more) old.arrivals arrival
              (All-weaker (Contains arrivals) (Contains more) (λ a found. Contains-append_left arrivals (arrival ∷ []) a found) old.arrivals came.waiting)
              (Contains-push arrivals arrival);
          working = All-weaker (λ slot. IfSome slot (CameFrom arrivals)) (λ slot. IfSome slot (CameFrom more)) (slot_more arrivals (arrival ∷ [])) old.workers came.working;
          shards = All-weaker (ShardCame arrivals) (ShardCame more) (shard_more arrivals (arrival ∷ [])) old.shards came.shards;
        }

    -- an act by which nothing arrives
    no_more : (new : NodeState) → Came arrivals new → Came (arrivals ++ []) new
    no_more new came = subst (λ (all : List Arrival). Came all new) (sym (append-nil arrivals)) came

    -- what came by one act more
    came_by : (old : NodeState) (act : Act) (lines : List Line) (new : NodeState) → Does tells suite act lines old new → Came arrivals old
        → Came (arrivals ++ arrival_by (1 + length arrivals) act) new
    came_by old (Opens shard) lines new (result, opens, says) came = no_more new (came_opened shard result old new opens came)
    came_by old (Reopens shard) lines new (result, opens, says) came = no_more new (came_opened shard result old new opens came)
    came_by old (Receives moment packet) lines new (same, says) came =
        let more : ℕ → List Arrival = λ number. arrivals ++ record { number = number; at = moment; packet = packet } ∷ [] in
        subst (Came (more (1 + length arrivals))) (sym same)
        (subst (λ (number : ℕ). Came (more number) (received old moment packet)) came.next (came_received old moment packet came))
    came_by old (Peels worker) lines new (answer, peels, says) came = no_more new (came_peeled old worker (worker_at old worker) answer new peels came)
    came_by old (Claims worker) lines new (answer, claims, says) came =
        no_more new (came_claimed old worker (worker_at old worker) answer new (came_worker old worker came) claims came)
    came_by old (Sends moment) lines new (inl none) came = no_more new (subst (Came arrivals) (sym none.1) came)
    came_by old (Sends moment) lines new (inr (item, sends, says)) came = no_more new (came_sent moment item old new sends came)
    came_by old (Rotates moment shard) lines new (result, retires, says) came = no_more new (came_rotated moment shard result old new retires came)
    came_by old (Arms shard calls) lines new (arms, says) came = no_more new (came_armed calls shard old new arms came)
    came_by old (Crashes pick) lines new (crashes, says) came = no_more new (came_crashed pick old new crashes came)

  -- what came by a run
  came_run : (tells : Type 0) (arrivals : List Arrival) (acts : List Act) (old : NodeState) (said : List Line) (new : NodeState) → Runs tells suite old acts said new
      → Came arrivals old → Came (arrivals ++ arrivals_from (1 + length arrivals) acts) new
  came_run tells arrivals [] old said new (none, same) came = no_more tells arrivals new (subst (Came arrivals) (sym same) came)
  came_run tells arrivals (act ∷ acts) old said new (between, lines, others, does, run, joined) came =
      let first : List Arrival = arrival_by (1 + length arrivals) act in
      let count : 1 + length (arrivals ++ first) ≡ (1 + length arrivals) + length first = omega (arith, length-append arrivals first) in
      let rest : Came ((arrivals ++ first) ++ arrivals_from (1 + length (arrivals ++ first)) acts) new =
      came_run tells (arrivals ++ first) acts between others new run (came_by tells arrivals old act lines between does came) in
      subst (λ (all : List Arrival). Came all new)
      (append_assoc arrivals first (arrivals_from (1 + length (arrivals ++ first)) acts)
      ∙ ap (λ (n : ℕ). arrivals ++ (first ++ arrivals_from n acts)) count)
      rest

  -- in a new node there is nothing
  came_first : (racks : List RackState) (start : NodeState) → IsNewNode setup racks start → Came [] start
  came_first racks start is = record {
    next = is.next_is;
    waiting = subst (All (Contains [])) (sym is.arrivals_are) (All-nil (Contains []));
    working = subst (All (λ slot. IfSome slot (CameFrom []))) (sym is.workers_are) (none_came []);
    shards = at_each (ShardCame []) start.shards racks is.count
        (λ place shard rack there was. subst (ShardCame []) (sym (is.each place rack shard was there)) (record { setup_is = refl; holding = All-nil (IsKnown []) }));
  }

  -- what the shards of a node hold
  shards_hold : (arrivals : List Arrival) (shards : List ShardState) → All (ShardCame arrivals) shards → All (IsKnown arrivals) (all_held shards)
  shards_hold arrivals [] all = All-nil (IsKnown arrivals)
  shards_hold arrivals (shard ∷ shards) all =
      All-append (IsKnown arrivals) shard.state.held (all_held shards) (All-head (ShardCame arrivals) shard shards all).holding
      (shards_hold arrivals shards (All-tail (ShardCame arrivals) shard shards all))

-- ---- honest lines

-- what a shard holds and a `send` gives when it is due is honest
honest_when : (tells : Type 0) (suite : SuiteMeaning) (setup : NodeSetup) (start : NodeState) (acts : List Act) (lines : List Line) (item : Item) → InRange setup.times
    → (handed : HandedOn tells suite start acts lines item) → IsKnown suite setup (arrivals_from 1 handed.before) item → IsHonest tells suite setup start acts lines item
honest_when tells suite setup start acts lines item range handed known =
    let from = known.from in
    let opening = held_opening suite item known.held in
    let live : Contains (live_epochs setup.times item.at) item.epoch =
    subst (λ (s : Setup). Contains (live_epochs s.times item.at) item.epoch) known.setup_is opening.live in
    record {
      before = handed.before;
      moment = handed.moment;
      behind = handed.behind;
      sent = handed.sent;
      state = handed.state;
      so_far = handed.so_far;
      arrival = from.arrival;
      arrived = from.arrived;
      number = from.number_is;
      live = subst (λ (at : ℕ). IsTrue (is_live setup.times item.epoch at)) from.at_is ((live_exactly setup.times item.at range item.epoch).1 live);
      key = opening.key;
      of_epoch = subst (λ (s : Setup). epoch_secret_key suite.kem s.seed item.epoch ≡ Some opening.key) known.setup_is opening.of_epoch;
      opened = opening.opened;
      unwraps = subst (λ (packet : List ℕ). unwrapped suite setup.geo opening.key packet ≡ Ok opening.opened) from.packet_is
          (subst (λ (s : Setup). unwrapped suite s.geometry opening.key item.packet ≡ Ok opening.opened) known.setup_is opening.unwraps);
      tag = opening.tag;
      out = opening.out;
      waited = subst (λ (at : ℕ). at + unwrap_or opening.opened.delay 0 ≤ handed.moment) from.at_is
          (subst (λ (due : ℕ). due ≤ handed.moment) opening.due handed.sends.first.is_due.due);
    }

-- each packet that a run of a new node hands on is handed on honestly
pub run_honest : (tells : Type 0) (suite : SuiteMeaning) (setup : NodeSetup) (start : NodeState) (racks : List RackState) → IsNewNode setup racks start → InRange setup.times
    → (acts : List Act) (said : List Line) (state : NodeState) → Runs tells suite start acts said state
    → (lines : List Line) (item : Item) (others : List Line) → said ≡ lines ++ HandsOn item ∷ others → IsHonest tells suite setup start acts lines item
run_honest tells suite setup start racks new range acts said state run lines item others at =
    let handed = Runs-split tells suite acts start state said lines item others run at in
    let came : Came suite setup (arrivals_from 1 handed.before) handed.state =
    came_run suite setup tells [] handed.before start lines handed.state handed.so_far (came_first suite setup racks start new) in
    honest_when tells suite setup start acts lines item range handed
    (All-contains (IsKnown suite setup (arrivals_from 1 handed.before)) (all_held handed.state.shards) item
    (shards_hold suite setup (arrivals_from 1 handed.before) handed.state.shards came.shards) handed.sends.first.there)
