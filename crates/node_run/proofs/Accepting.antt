-- What connectors took out of the shards: each was accepted there since the lock was made, and no two took the same
-- packet.
use Rattle.std.proofs.Common.{◌≡◌, ◌≢◌, ℕ, ◌≤◌, ◌==◌, true, false, List, [], ◌∷◌, ◌++◌, length, map, refl, sym, ap, subst, ◌∙◌, inl, inr, arith, Option, Some, eq-eqb, eqb-true}
use Rattle.std.specs.Prelude.{All, Contains, filter, flat_map, slice_get}
use Rattle.std.specs.List.{AllZip}
use Rattle.std.proofs.lemmas.Bool.{cases_Bool, cases_lt}
use Rattle.std.proofs.lemmas.List.{nil_from_length}
use Rattle.std.proofs.lemmas.List.Elements.{All-contains, Contains-append_left, Contains-append_right}
use Rattle.std.proofs.lemmas.List.Kept.{AllPairs-filter}
use Rattle.mix_base.specs.Suites.{SuiteMeaning}
use Rattle.mix_base.proofs.Members.{Contains-filter, Contains-head, Contains-map, Contains-tail, none_in_empty}
use Rattle.mix_shard.specs.Entries.{caller_of}
use Rattle.mix_shard.specs.Items.{Item}
use Rattle.mix_shard.specs.Laws.{NoneTwice, accepted, accepted_by}
use Rattle.mix_shard.specs.Shards.{IsKept, ShardState}
use Rattle.mix_shard.specs.Tale.{State, Tale, began}
use Rattle.mix_shard.specs.declared.entries.Entry.{Entry}
use Rattle.mix_shard.specs.declared.entries.Entry.TheVariants.{Claim, Take, Rotate, Done, Reopened}
use Rattle.mix_shard.specs.declared.entries.Told.{Told}
use Rattle.turn_lock.specs.Seen.{Caller}
use Rattle.turn_lock.specs.Stories.{after}
use Rattle.node_actors.specs.Calls.{acceptances, is_claim, is_take, takes}
use Rattle.node_actors.specs.Fates.{IsClaimOf, shard_of}
use Rattle.node_actors.specs.Takings.{IsAcceptanceOf, IsTakeOf, taken_at, taken_by}
use Rattle.node_actors.specs.declared.actors.takings.Taking.{Taking}
use Rattle.node_actors.specs.declared.actors.works.Left.{Left}
use Rattle.node_actors.proofs.Tallies.{tale_held, tale_split}
use Rattle.node_run.specs.Accounts.{calls_of, takings_of, tales_since}
use Rattle.node_run.specs.HandOns.{taken_numbers, taken_pairs}
use Rattle.node_run.specs.Halls.{IsHallLock}
use Rattle.node_run.specs.Lefts.{Staffing}
use Rattle.node_run.specs.Orders.{Differ, claimed_number, take_numbers, taken_number}
use Rattle.node_run.proofs.Claiming.{IsRecord, claim_record, claims_logged, differ_at, one_record, record_of}
use Rattle.node_run.proofs.Elements.{at_one, at_there, filter_from, flat_from, flat_once, flat_to, get_low, get_there, map_from, none_of, pairs_cons, pairs_flat, pairs_head, pairs_nil, pairs_one, pairs_places, pairs_tail, pairs_unflat, there_at, zip_left, zip_right}
use Rattle.node_run.proofs.Joining.{HasEnded, account_of, caller_at, pass_at, seen_since, since_is, tale_at, tale_of}
use Rattle.node_run.proofs.Outcomes.{Origin}
use Rattle.node_run.proofs.TakingOnce.{takes_once}

-- ---- the takings of a tale

no_taking : (entry : Entry) → is_take entry ≡ false → taken_number entry ≡ []
no_taking (Claim caller number epoch tag at answer) no' = refl
no_taking (Take caller number dest moment) no' = absurd (cc)
no_taking (Rotate caller moment answer) no' = refl
no_taking (Done caller) no' = refl
no_taking (Reopened caller floor pairs) no' = refl

takes_alone : (tale : List Told) → take_numbers (takes tale) ≡ take_numbers tale
takes_alone [] = refl
takes_alone (told ∷ others) =
    elim (cases_Bool (is_take told.entry)) [
      | inl yes' ↦ rw yes' (ap (λ (ns : List ℕ). taken_number told.entry ++ ns) (takes_alone others))
      | inr no' ↦ rw no' (takes_alone others ∙ ap (λ (ns : List ℕ). ns ++ take_numbers others) (sym (no_taking told.entry no')))
    ]

zip_taken : (caller : ℕ) (items : List Item) (tale : List Told) → AllZip (IsTakeOf caller) items tale → take_numbers tale ≡ map (λ (item : Item). item.number) items
zip_taken caller [] [] zip = refl
zip_taken caller [] (told ∷ others) zip = absurd zip
zip_taken caller (item ∷ items) [] zip = absurd zip
zip_taken caller (item ∷ items) (told ∷ others) zip =
    let one : taken_number told.entry ≡ item.number ∷ [] = ap taken_number zip.0.entry_is in
    (λ i. one i ++ zip_taken caller items others zip.1 i)

-- none twice, in the shard's words
none_twice : (pairs : List (ℕ × List ℕ)) → NoneTwice pairs → Differ pairs
none_twice [] none = pairs_nil (λ (x y : ℕ × List ℕ). x ≢ y)
none_twice (pair ∷ others) none =
    pairs_cons (λ (x y : ℕ × List ℕ). x ≢ y) pair others
    (λ other found same. none.0 (subst (λ (p : ℕ × List ℕ). Contains others p) (sym same) found))
    (none_twice others none.1)

at_shard : (i : ℕ) (taking : Taking Item) (item : Item) → Contains (taken_by i taking) item → taking.shard ≡ i
at_shard i taking item found =
    elim (cases_Bool (taking.shard == i)) [
      | inl yes' ↦ eqb-true taking.shard i yes'
      | inr no' ↦
          let here : Contains [] item = rw no' at found in
          absurd (none_in_empty item here)
    ]

-- what a taken packet was claimed with
abbrev pair_of : Taking Item → ℕ × List ℕ
pair_of taking = (taking.item.value.epoch, taking.item.value.tag)

-- what is in the entry of a claim
abbrev claim_tag : Entry → List ℕ
claim_tag (Claim caller number epoch tag at answer) = tag
claim_tag _ = []

-- ---- a log in which the same key is of the same packet

module _ {K : Type 0} (key : Taking Item → K) where
  pub keys_once : (log : List (Taking Item)) → ((i : ℕ) → Differ (map (λ (item : Item). item.number) (taken_at i log)))
      → ((t u : Taking Item) → Contains log t → Contains log u → key t ≡ key u → (t.shard ≡ u.shard) × (t.item.value.number ≡ u.item.value.number))
      → Differ (map key log)
  keys_once [] each same = pairs_nil (λ (x y : K). x ≢ y)
  keys_once (taking ∷ log) each same =
      pairs_cons (λ (x y : K). x ≢ y) (key taking) (map key log)
      (λ k found is.
      let at = map_from key log k found in
      let both = same taking at.0 (Contains-head taking log) (Contains-tail taking log at.0 at.1) (is ∙ sym at.2) in
      let first : Differ (taking.item.value.number ∷ map (λ (item : Item). item.number) (taken_at taking.shard log)) = rw (eq-eqb taking.shard taking.shard refl) at (each taking.shard) in
      let here : Contains (taken_by taking.shard at.0) at.0.item.value = rw (eq-eqb at.0.shard taking.shard (sym both.0)) (Contains-head at.0.item.value []) in
      let again : Contains (map (λ (item : Item). item.number) (taken_at taking.shard log)) at.0.item.value.number =
      Contains-map (λ (item : Item). item.number) (taken_at taking.shard log) at.0.item.value (flat_to (λ (t : Taking Item). taken_by taking.shard t) log at.0 at.0.item.value at.1 here) in
      pairs_head (λ (x y : ℕ). x ≢ y) taking.item.value.number (map (λ (item : Item). item.number) (taken_at taking.shard log)) at.0.item.value.number first again both.1)
      (keys_once log behind (λ t u in_first in_second. same t u (Contains-tail taking log t in_first) (Contains-tail taking log u in_second)))
    where
      behind : (i : ℕ) → Differ (map (λ (item : Item). item.number) (taken_at i log))
      behind i =
          elim (cases_Bool (taking.shard == i)) [
            | inl yes' ↦
                let first : Differ (taking.item.value.number ∷ map (λ (item : Item). item.number) (taken_at i log)) = rw yes' at (each i) in
                pairs_tail (λ (x y : ℕ). x ≢ y) taking.item.value.number (map (λ (item : Item). item.number) (taken_at i log)) first
            | inr no' ↦ rw no' at (each i)
          ]

module _ {N O C : Type 0} (suite : SuiteMeaning) (left : N → Option (List ℕ)) (in_faults : N → ℕ) (given : O → Option (List (List ℕ))) (out_faults : O → ℕ)
    (may_give : C → ℕ → Type 0) (node : Staffing N O C) (lefts : List (Left (Caller Told) Item N O)) (shards : List ShardState)
    (ended : HasEnded suite left in_faults given out_faults may_give node lefts shards) (tells : Type 0) (kept : All (IsKept tells suite) shards) where
  abbrev Gave : Type 0
  Gave = Left (Caller Told) Item N O

  abbrev tales : List (List Told)
  tales = tales_since node.hall.locks shards

  abbrev many : ℕ
  many = length node.hall.locks

  -- ---- a tale begins where nothing was held

  pub record Begun (i : ℕ) (tale : List Told) : Type 0 where
    pub shard : ShardState
    pub shard_is : slice_get shards i ≡ Some shard
    pub story : List Told
    pub told : shard.told ≡ story ++ tale
    pub first : State
    pub empty : first.held ≡ []
    pub tale_is : Tale tells suite shard.terms first tale shard.state

  pub begun : (i : ℕ) (tale : List Told) → slice_get tales i ≡ Some tale → Begun i tale
  begun i tale at =
      let is_tale = tale_at node.hall.locks shards i tale at in
      let shard = is_tale.shard in
      let lock = is_tale.lock in
      let c = ended.closed.each i lock shard is_tale.lock_is is_tale.shard_is in
      let is_lock = All-contains (IsHallLock node.hall) node.hall.locks lock ended.hall.each (there_at node.hall.locks i lock is_tale.lock_is) in
      let is_kept = All-contains (IsKept tells suite) shards shard kept (there_at shards i shard is_tale.shard_is) in
      let since : tale ≡ c.since = is_tale.tale_is ∙ since_is node.hall.locks lefts shards ended.closed lock i shard c in
      let told : shard.told ≡ lock.story ++ tale = c.told ∙ ap (λ (t : List Told). lock.story ++ t) (sym since) in
      let start = began shard.terms shard.first.areas in
      let parts = tale_split tells suite shard.terms start shard.state lock.story tale
      (subst (λ (t : List Told). Tale tells suite shard.terms start t shard.state) told is_kept.tale) in
      let held = tale_held tells suite shard.terms start parts.0 lock.story parts.1 in
      let balance : length (takes lock.story) ≡ length (acceptances lock.story) = is_lock.nothing_held in
      record {
        shard = shard;
        shard_is = is_tale.shard_is;
        story = lock.story;
        told = told;
        first = parts.0;
        empty = nil_from_length parts.0.held (omega (arith, held, balance));
        tale_is = parts.2;
      }

  -- no number is taken out twice there
  takes_differ : (i : ℕ) (tale : List Told) → slice_get tales i ≡ Some tale → Differ (take_numbers tale)
  takes_differ i tale at =
      let b = begun i tale at in
      takes_once tells suite b.shard.terms b.first b.shard.state tale b.tale_is b.empty
      (differ_at suite left in_faults given out_faults may_give node lefts shards ended i tale at)

  -- ---- a caller's takings

  pub takes_logged : (i caller : ℕ) (tale : List Told) (gave : Gave) → slice_get tales i ≡ Some tale → slice_get lefts caller ≡ Some gave
      → AllZip (IsTakeOf caller) (taken_at i (takings_of gave.work)) (takes (calls_of caller tale))
  takes_logged i caller tale gave at is =
      let pass = pass_at suite left in_faults given out_faults may_give node lefts shards ended i caller tale gave at is in
      let accounted = account_of suite left in_faults given out_faults may_give node lefts shards ended caller gave is in
      subst (λ (entries : List Told). AllZip (IsTakeOf caller) (taken_at i (takings_of gave.work)) (takes entries)) (sym pass.2)
      (accounted.takes.takes_are i pass.0 pass.1)

  abbrev Apart : Told → Told → Type 0
  Apart t u = (a b : ℕ) → Contains (taken_number t.entry) a → Contains (taken_number u.entry) b → a ≢ b

  few_taken : (entry : Entry) → Differ (taken_number entry)
  few_taken (Claim caller number epoch tag at' answer) = pairs_nil (λ (x y : ℕ). x ≢ y)
  few_taken (Take caller number dest moment) = pairs_one (λ (x y : ℕ). x ≢ y) number
  few_taken (Rotate caller moment answer) = pairs_nil (λ (x y : ℕ). x ≢ y)
  few_taken (Done caller) = pairs_nil (λ (x y : ℕ). x ≢ y)
  few_taken (Reopened caller floor pairs) = pairs_nil (λ (x y : ℕ). x ≢ y)

  taken_differ_at : (i caller : ℕ) (tale : List Told) (gave : Gave) → slice_get tales i ≡ Some tale → slice_get lefts caller ≡ Some gave
      → Differ (map (λ (item : Item). item.number) (taken_at i (takings_of gave.work)))
  taken_differ_at i caller tale gave at is =
      let apart = pairs_unflat (λ (x y : ℕ). x ≢ y) (λ (t : Told). taken_number t.entry) tale (takes_differ i tale at) in
      let own : Differ (take_numbers (calls_of caller tale)) =
      pairs_flat (λ (x y : ℕ). x ≢ y) (λ (t : Told). taken_number t.entry) (calls_of caller tale) (λ told found. few_taken told.entry)
      (AllPairs-filter Apart (λ (t : Told). caller_of t.entry == caller) tale apart) in
      subst (λ (ns : List ℕ). Differ ns)
      (sym (takes_alone (calls_of caller tale)) ∙ zip_taken caller (taken_at i (takings_of gave.work)) (takes (calls_of caller tale)) (takes_logged i caller tale gave at is)) own

  -- ---- where a taken packet came from

  pub record IsTaking (caller : ℕ) (taking : Taking Item) : Type 0 where
    pub tale : List Told
    pub at : slice_get tales taking.shard ≡ Some tale
    pub told : Told
    pub found : Contains tale told
    pub is_acceptance : IsAcceptanceOf taking.item.value told
    pub take : Told
    pub take_found : Contains tale take
    pub is_take : IsTakeOf caller taking.item.value take

  pub taking_of : (caller : ℕ) (gave : Gave) (taking : Taking Item) → slice_get lefts caller ≡ Some gave → Contains (takings_of gave.work) taking → IsTaking caller taking
  taking_of caller gave taking is logged =
      let i = taking.shard in
      let accounted = account_of suite left in_faults given out_faults may_give node lefts shards ended caller gave is in
      let origin = All-contains (Origin suite left in_faults given out_faults may_give node gave.passes.items) (takings_of gave.work) taking accounted.takes.origins logged in
      let low = get_low node.hall.locks i origin.lock origin.lock_is in
      let shard = get_there shards i (omega (arith, low, ended.closed.many)) in
      let tale = after origin.lock.story shard.0.told in
      let at = tale_of node.hall.locks shards i origin.lock shard.0 origin.lock_is shard.1 in
      let front = seen_since node.hall.locks lefts shards ended.closed i tale caller gave origin.pass origin.lock at origin.lock_is is origin.pass_is
      (accounted.saw i origin.lock origin.pass origin.lock_is origin.pass_is) in
      let told = origin.accepted.0 in
      let seen = after origin.lock.story origin.pass.seen in
      let here : Contains (taken_by i taking) taking.item.value = rw (eq-eqb i i refl) (Contains-head taking.item.value []) in
      let item : Contains (taken_at i (takings_of gave.work)) taking.item.value = flat_to (λ (t : Taking Item). taken_by i t) (takings_of gave.work) taking taking.item.value logged here in
      let entry = zip_left (IsTakeOf caller) (taken_at i (takings_of gave.work)) (takes (calls_of caller tale)) taking.item.value (takes_logged i caller tale gave at is) item in
      let call = filter_from (λ (t : Told). is_take t.entry) (calls_of caller tale) entry.0 entry.1 in
      record {
        tale = tale;
        at = at;
        told = told;
        found = subst (λ (t : List Told). Contains t told) front.1 (Contains-append_left seen front.0 told origin.accepted.1);
        is_acceptance = origin.accepted.2;
        take = entry.0;
        take_found = (filter_from (λ (t : Told). caller_of t.entry == caller) tale entry.0 call.0).0;
        is_take = entry.2;
      }

  -- the shard is that of the packet's tag
  tag_shard : (caller : ℕ) (taking : Taking Item) → IsTaking caller taking → shard_of many taking.item.value.tag ≡ taking.shard
  tag_shard caller taking is =
      let i = taking.shard in
      let who = caller_of is.told.entry in
      let gave = caller_at suite left in_faults given out_faults may_give node lefts shards ended i is.tale is.told is.at is.found in
      let claims' : is_claim is.told.entry ≡ true = ap is_claim is.is_acceptance.entry_is in
      let call : Contains (calls_of who is.tale) is.told = Contains-filter (λ (t : Told). caller_of t.entry == who) is.tale is.told is.found (eq-eqb who who refl) in
      let claim : Contains (filter (λ (t : Told). is_claim t.entry) (calls_of who is.tale)) is.told = Contains-filter (λ (t : Told). is_claim t.entry) (calls_of who is.tale) is.told call claims' in
      let of = zip_right (IsClaimOf who) _ (filter (λ (t : Told). is_claim t.entry) (calls_of who is.tale)) is.told
      (claims_logged suite left in_faults given out_faults may_give node lefts shards ended i who is.tale gave.0 is.at gave.1) claim in
      let same : taking.item.value.tag ≡ of.0.tag = ap claim_tag (sym is.is_acceptance.entry_is ∙ of.2.entry_is) in
      let record_is = record_of suite left in_faults given out_faults may_give node lefts shards ended i who is.tale gave.0 of.0 gave.1 of.1 in
      ap (λ (tag : List ℕ). shard_of many tag) (same ∙ ap (λ (item : Item). item.tag) (sym record_is.1)) ∙ record_is.0.at.shard_is

  -- a number says at which shard the packet was
  number_shard : (c d : ℕ) (t u : Taking Item) → IsTaking c t → IsTaking d u → t.item.value.number ≡ u.item.value.number → t.shard ≡ u.shard
  number_shard c d t u is is' same =
      let first = claim_record suite left in_faults given out_faults may_give node lefts shards ended t.shard is.tale is.told t.item.value.number is.at is.found
      (claims_number t is.told is.is_acceptance) in
      let second = claim_record suite left in_faults given out_faults may_give node lefts shards ended u.shard is'.tale is'.told u.item.value.number is'.at is'.found
      (claims_number u is'.told is'.is_acceptance) in
      (one_record suite left in_faults given out_faults may_give node lefts shards ended t.shard u.shard (caller_of is.told.entry) (caller_of is'.told.entry) u.item.value.number
      (subst (λ (n : ℕ). IsRecord suite left in_faults given out_faults may_give node lefts shards ended t.shard (caller_of is.told.entry) n) same first) second).0
    where
      claims_number : (v : Taking Item) (told : Told) → IsAcceptanceOf v.item.value told → Contains (claimed_number told.entry) v.item.value.number
      claims_number v told acceptance =
          subst (λ (e : Entry). Contains (claimed_number e) v.item.value.number) (sym acceptance.entry_is) (Contains-head v.item.value.number [])

  -- a packet was taken out by one caller
  one_taker : (c d : ℕ) (t u : Taking Item) → IsTaking c t → IsTaking d u → t.shard ≡ u.shard → t.item.value.number ≡ u.item.value.number → c ≡ d
  one_taker c d t u is is' shard number =
      let tale : is.tale ≡ is'.tale = at_one tales u.shard is.tale is'.tale (ap (λ (i : ℕ). slice_get tales i) (sym shard) ∙ is.at) is'.at in
      let found : Contains is'.tale is.take = subst (λ (x : List Told). Contains x is.take) tale is.take_found in
      let one : is.take ≡ is'.take =
      flat_once (λ (x y : ℕ). x ≢ y) (λ (x : Told). taken_number x.entry) is'.tale is.take is'.take u.item.value.number (takes_differ u.shard is'.tale is'.at) found is'.take_found
      (subst (λ (n : ℕ). Contains (taken_number is.take.entry) n) number (takes_number c t is.take is.is_take)) (takes_number d u is'.take is'.is_take) in
      ap caller_of (sym is.is_take.entry_is) ∙ (ap (λ (x : Told). caller_of x.entry) one ∙ ap caller_of is'.is_take.entry_is)
    where
      takes_number : (caller : ℕ) (v : Taking Item) (told : Told) → IsTakeOf caller v.item.value told → Contains (taken_number told.entry) v.item.value.number
      takes_number caller v told take =
          subst (λ (e : Entry). Contains (taken_number e) v.item.value.number) (sym take.entry_is) (Contains-head v.item.value.number [])

  -- ---- none twice in the take logs

  logged_once : {K : Type 0} (key : Taking Item → K)
      → ((c d : ℕ) (t u : Taking Item) → IsTaking c t → IsTaking d u → key t ≡ key u → (t.shard ≡ u.shard) × (t.item.value.number ≡ u.item.value.number))
      → Differ (flat_map (λ (gave : Gave). map key (takings_of gave.work)) lefts)
  logged_once {K} key same =
      pairs_flat (λ (x y : K). x ≢ y) (λ (gave : Gave). map key (takings_of gave.work)) lefts
      (λ gave found.
      let at = at_there lefts gave found in
      keys_once key (takings_of gave.work) (taken_all at.0 gave at.1)
      (λ t u in_first in_second. same at.0 at.0 t u (taking_of at.0 gave t at.1 in_first) (taking_of at.0 gave u at.1 in_second)))
      (pairs_places (λ (g h : Gave). (a b : K) → Contains (map key (takings_of g.work)) a → Contains (map key (takings_of h.work)) b → a ≢ b) lefts
      (λ c d g h low is is' a b in_first in_second equal.
      let first = map_from key (takings_of g.work) a in_first in
      let second = map_from key (takings_of h.work) b in_second in
      let t = taking_of c g first.0 is first.1 in
      let u = taking_of d h second.0 is' second.1 in
      let both = same c d first.0 second.0 t u (first.2 ∙ (equal ∙ sym second.2)) in
      let one = one_taker c d first.0 second.0 t u both.0 both.1 in
      omega arith))
    where
      taken_all : (caller : ℕ) (gave : Gave) → slice_get lefts caller ≡ Some gave → (i : ℕ) → Differ (map (λ (item : Item). item.number) (taken_at i (takings_of gave.work)))
      taken_all caller gave is i =
          elim (cases_lt i (length tales)) [
            | inl low ↦ let tale = get_there tales i low in taken_differ_at i caller tale.0 gave tale.1 is
            | inr past ↦ subst (λ (items : List Item). Differ (map (λ (item : Item). item.number) items)) (sym (nothing_at caller gave is i past)) (pairs_nil (λ (x y : ℕ). x ≢ y))
          ]
        where
          nothing_at : (caller : ℕ) (gave : Gave) → slice_get lefts caller ≡ Some gave → (i : ℕ) → length tales ≤ i → taken_at i (takings_of gave.work) ≡ []
          nothing_at caller gave is i past =
              none_of (taken_at i (takings_of gave.work)) (λ item found.
              let of = flat_from (λ (t : Taking Item). taken_by i t) (takings_of gave.work) item found in
              let taken = taking_of caller gave of.0 is of.1 in
              let low = get_low tales of.0.shard taken.tale taken.at in
              let same = at_shard i of.0 item of.2 in
              omega arith)

  pub once : Differ (flat_map (λ (gave : Gave). taken_numbers (takings_of gave.work)) lefts)
  once = logged_once (λ (t : Taking Item). t.item.value.number) (λ c d t u is is' same. (number_shard c d t u is is' same, same))

  -- where no pair is accepted twice, none is taken out twice
  pub pairs_once : All (λ (shard : ShardState). NoneTwice (accepted shard.told)) shards → Differ (flat_map (λ (gave : Gave). taken_pairs (takings_of gave.work)) lefts)
  pairs_once accepted_once =
      logged_once pair_of (λ c d t u is is' same.
      let shard : t.shard ≡ u.shard = sym (tag_shard c t is) ∙ (ap (λ (p : ℕ × List ℕ). shard_of many p.1) same ∙ tag_shard d u is') in
      (shard, numbers_same c d t u is is' shard same))
    where
      numbers_same : (c d : ℕ) (t u : Taking Item) → IsTaking c t → IsTaking d u → t.shard ≡ u.shard
          → pair_of t ≡ pair_of u → t.item.value.number ≡ u.item.value.number
      numbers_same c d t u is is' shard same =
          let tale : is.tale ≡ is'.tale = at_one tales u.shard is.tale is'.tale (ap (λ (i : ℕ). slice_get tales i) (sym shard) ∙ is.at) is'.at in
          let b = begun u.shard is'.tale is'.at in
          let first : Contains b.shard.told is.told =
          subst (λ (x : List Told). Contains x is.told) (sym b.told) (Contains-append_right b.story is'.tale is.told (subst (λ (x : List Told). Contains x is.told) tale is.found)) in
          let second : Contains b.shard.told is'.told = subst (λ (x : List Told). Contains x is'.told) (sym b.told) (Contains-append_right b.story is'.tale is'.told is'.found) in
          let none = none_twice (accepted b.shard.told)
          (All-contains (λ (shard : ShardState). NoneTwice (accepted shard.told)) shards b.shard accepted_once (there_at shards u.shard b.shard b.shard_is)) in
          let one : is.told ≡ is'.told =
          flat_once (λ (x y : ℕ × List ℕ). x ≢ y) (λ (x : Told). accepted_by x.entry) b.shard.told is.told is'.told (u.item.value.epoch, u.item.value.tag) none first second
          (subst (λ (p : ℕ × List ℕ). Contains (accepted_by is.told.entry) p) same (accepts t is.told is.is_acceptance)) (accepts u is'.told is'.is_acceptance) in
          let numbers : t.item.value.number ∷ [] ≡ u.item.value.number ∷ [] =
          ap claimed_number (sym is.is_acceptance.entry_is) ∙ (ap (λ (x : Told). claimed_number x.entry) one ∙ ap claimed_number is'.is_acceptance.entry_is) in
          cc
        where
          accepts : (v : Taking Item) (told : Told) → IsAcceptanceOf v.item.value told → Contains (accepted_by told.entry) (v.item.value.epoch, v.item.value.tag)
          accepts v told acceptance =
              subst (λ (e : Entry). Contains (accepted_by e) (v.item.value.epoch, v.item.value.tag)) (sym acceptance.entry_is) (Contains-head (v.item.value.epoch, v.item.value.tag) [])
