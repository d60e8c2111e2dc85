-- The claims of a node's shards since their locks were made: each is of one record of its caller's fate log.
use Rattle.std.proofs.Common.{◌≡◌, ◌≢◌, ◌⊎◌, ℕ, ◌%◌, ◌<◌, ◌==◌, false, List, [], ◌∷◌, ◌++◌, length, map, refl, sym, ap, subst, ◌∙◌, inl, inr, arith, Option, Some, eq-eqb, eqb-true}
use Rattle.std.specs.Prelude.{All, AllPairs, Contains, flat_map, slice_get}
use Rattle.std.specs.List.{AllZip}
use Rattle.std.specs.declared.snapshot.Snapshot.{Snapshot}
use Rattle.std.proofs.lemmas.Bool.{cases_Bool, cases_lt}
use Rattle.std.proofs.lemmas.List.Elements.{All-contains}
use Rattle.mix_base.specs.Suites.{SuiteMeaning}
use Rattle.mix_base.proofs.Members.{Contains-filter, none_in_empty}
use Rattle.mix_shard.specs.Entries.{caller_of}
use Rattle.mix_shard.specs.Items.{Item}
use Rattle.mix_shard.specs.Shards.{ShardState}
use Rattle.mix_shard.specs.declared.entries.Entry.{Entry}
use Rattle.mix_shard.specs.declared.entries.Entry.TheVariants.{Claim, Take, Rotate, Done, Reopened}
use Rattle.mix_shard.specs.declared.entries.Told.{Told}
use Rattle.mix_shard.specs.declared.setup.Setup.{Setup}
use Rattle.turn_lock.specs.Seen.{Caller}
use Rattle.node_actors.specs.Calls.{claims, is_claim}
use Rattle.node_actors.specs.Fates.{HasCause, IsClaimOf, claimed_at, items_at, shard_of}
use Rattle.node_actors.specs.Packets.{dealt_packet}
use Rattle.node_actors.specs.declared.actors.fates.Dealt.{Dealt}
use Rattle.node_actors.specs.declared.actors.fates.Fate.{Fate}
use Rattle.node_actors.specs.declared.actors.fates.Fate.TheVariants.{Claimed, Refused, Unkeyed, Dropped}
use Rattle.node_actors.specs.declared.actors.works.Left.{Left}
use Rattle.node_run.specs.Accounts.{calls_of, fates_of, tales_since}
use Rattle.node_run.specs.Arrivals.{numbers_of}
use Rattle.node_run.specs.Lefts.{Staffing}
use Rattle.node_run.specs.Moves.{Moves}
use Rattle.node_run.specs.Orders.{Differ, InOrder, claim_numbers, claimed_number}
use Rattle.node_run.proofs.Arriving.{differ_one, numbers_ordered, one_arrival, record_is}
use Rattle.node_run.proofs.Elements.{at_one, at_there, filter_from, flat_from, flat_to, get_low, get_there, given_once, in_one, map_flat, map_from, pairs_by, pairs_flat, pairs_nil, pairs_none, pairs_one, pairs_pick, pairs_places, pairs_unflat, pairs_weaker}
use Rattle.node_run.proofs.Joining.{HasEnded, account_of, caller_at, pass_at}
use Rattle.node_run.proofs.Peeling.{peeled_came}

-- ---- the claims of a tale

no_claim : (entry : Entry) → is_claim entry ≡ false → claimed_number entry ≡ []
no_claim (Claim caller number epoch tag at answer) no' = absurd (cc)
no_claim (Take caller number dest moment) no' = refl
no_claim (Rotate caller moment answer) no' = refl
no_claim (Done caller) no' = refl
no_claim (Reopened caller floor pairs) no' = refl

-- the numbers of a tale are those of its claims
pub claims_alone : (tale : List Told) → claim_numbers (claims tale) ≡ claim_numbers tale
claims_alone [] = refl
claims_alone (told ∷ others) =
    elim (cases_Bool (is_claim told.entry)) [
      | inl yes' ↦ rw yes' (ap (λ (ns : List ℕ). claimed_number told.entry ++ ns) (claims_alone others))
      | inr no' ↦ rw no' (claims_alone others ∙ ap (λ (ns : List ℕ). ns ++ claim_numbers others) (sym (no_claim told.entry no')))
    ]

-- of claims of these items, these are the numbers
pub zip_numbers : (caller : ℕ) (items : List Item) (tale : List Told) → AllZip (IsClaimOf caller) items tale → claim_numbers tale ≡ map (λ (item : Item). item.number) items
zip_numbers caller [] [] zip = refl
zip_numbers caller [] (told ∷ others) zip = absurd zip
zip_numbers caller (item ∷ items) [] zip = absurd zip
zip_numbers caller (item ∷ items) (told ∷ others) zip =
    let one : claimed_number told.entry ≡ item.number ∷ [] = ap claimed_number zip.0.entry_is in
    (λ i. one i ++ zip_numbers caller items others zip.1 i)

-- ---- the items of a fate log

-- a claimed item, where it belongs to a shard
pub record IsItemAt (shards i : ℕ) (item : Item) (fate : Fate Item) : Type 0 where
  pub seen : Snapshot Item
  pub fate_is : fate ≡ Claimed seen
  pub item_is : seen.value ≡ item
  pub shard_is : shard_of shards item.tag ≡ i

pub item_at : (shards i : ℕ) (item : Item) (fate : Fate Item) → Contains (claimed_at shards i fate) item → IsItemAt shards i item fate
item_at shards i item (Claimed seen) found =
    elim (cases_Bool (shard_of shards seen.value.tag == i)) [
      | inl yes' ↦
          let here : Contains (seen.value ∷ []) item = rw yes' at found in
          let same = in_one seen.value item here in
          record { seen = seen; fate_is = refl; item_is = same; shard_is = subst (λ (x : Item). shard_of shards x.tag ≡ i) same (eqb-true (shard_of shards seen.value.tag) i yes') }
      | inr no' ↦
          let here : Contains [] item = rw no' at found in
          absurd (none_in_empty item here)
    ]
item_at shards i item Refused found = absurd (none_in_empty item found)
item_at shards i item Unkeyed found = absurd (none_in_empty item found)
item_at shards i item Dropped found = absurd (none_in_empty item found)

module _ (suite : SuiteMeaning) (setup : Setup) (shards i : ℕ) where
  abbrev Cause : Dealt Item → Type 0
  Cause dealt = HasCause suite setup dealt.number dealt.receipt dealt.packet.value.items dealt.fate

  few_numbers : (number receipt : ℕ) (packet : List ℕ) (fate : Fate Item) → HasCause suite setup number receipt packet fate
      → (map (λ (item : Item). item.number) (claimed_at shards i fate) ≡ []) ⊎ (map (λ (item : Item). item.number) (claimed_at shards i fate) ≡ number ∷ [])
  few_numbers number receipt packet (Claimed seen) cause =
      elim (cases_Bool (shard_of shards seen.value.tag == i)) [
        | inl yes' ↦ inr (rw yes' (ap (λ (n : ℕ). n ∷ []) (peeled_came suite setup number receipt packet seen.value cause.opens).number_is))
        | inr no' ↦ inl (rw no' refl)
      ]
  few_numbers number receipt packet Refused cause = inl refl
  few_numbers number receipt packet Unkeyed cause = inl refl
  few_numbers number receipt packet Dropped cause = inl refl

  -- what holds of each record's number and each later one's, holds of the items that were claimed at a shard
  pub items_pairs : (R : ℕ → ℕ → Type 0) (log : List (Dealt Item)) → All Cause log → AllPairs R (numbers_of log)
      → AllPairs R (map (λ (item : Item). item.number) (items_at shards i log))
  items_pairs R log causes pairs =
      subst (λ (ns : List ℕ). AllPairs R ns) (sym (map_flat (λ (item : Item). item.number) (λ (dealt : Dealt Item). claimed_at shards i dealt.fate) log))
      (pairs_pick R (λ (dealt : Dealt Item). map (λ (item : Item). item.number) (claimed_at shards i dealt.fate)) (λ (dealt : Dealt Item). dealt.number) log
      (λ dealt found. few_numbers dealt.number dealt.receipt dealt.packet.value.items dealt.fate (All-contains Cause log dealt causes found)) pairs)

module _ {N O C : Type 0} (suite : SuiteMeaning) (left : N → Option (List ℕ)) (in_faults : N → ℕ) (given : O → Option (List (List ℕ))) (out_faults : O → ℕ)
    (may_give : C → ℕ → Type 0) (node : Staffing N O C) (lefts : List (Left (Caller Told) Item N O)) (shards : List ShardState)
    (ended : HasEnded suite left in_faults given out_faults may_give node lefts shards) where
  abbrev Gave : Type 0
  Gave = Left (Caller Told) Item N O

  abbrev tales : List (List Told)
  tales = tales_since node.hall.locks shards

  abbrev pub many : ℕ
  many = length node.hall.locks

  -- at each shard the claims of a caller are those of its log
  pub claims_logged : (i caller : ℕ) (tale : List Told) (gave : Gave) → slice_get tales i ≡ Some tale → slice_get lefts caller ≡ Some gave
      → AllZip (IsClaimOf caller) (items_at many i (fates_of gave.work)) (claims (calls_of caller tale))
  claims_logged i caller tale gave at is =
      let pass = pass_at suite left in_faults given out_faults may_give node lefts shards ended i caller tale gave at is in
      let accounted = account_of suite left in_faults given out_faults may_give node lefts shards ended caller gave is in
      subst (λ (entries : List Told). AllZip (IsClaimOf caller) (items_at many i (fates_of gave.work)) (claims entries)) (sym pass.2)
      (accounted.deals.claims_are i pass.0 pass.1)

  numbers_are : (i caller : ℕ) (tale : List Told) (gave : Gave) → slice_get tales i ≡ Some tale → slice_get lefts caller ≡ Some gave
      → claim_numbers (calls_of caller tale) ≡ map (λ (item : Item). item.number) (items_at many i (fates_of gave.work))
  numbers_are i caller tale gave at is =
      sym (claims_alone (calls_of caller tale))
      ∙ zip_numbers caller (items_at many i (fates_of gave.work)) (claims (calls_of caller tale)) (claims_logged i caller tale gave at is)

  -- ---- in their order

  ordered_of : (i caller : ℕ) (tale : List Told) (gave : Gave) → slice_get tales i ≡ Some tale → slice_get lefts caller ≡ Some gave
      → InOrder (length node.incoming) (claim_numbers (calls_of caller tale))
  ordered_of i caller tale gave at is =
      let accounted = account_of suite left in_faults given out_faults may_give node lefts shards ended caller gave is in
      subst (λ (ns : List ℕ). InOrder (length node.incoming) ns) (sym (numbers_are i caller tale gave at is))
      (items_pairs suite node.hall.setup many i (λ (x y : ℕ). x % length node.incoming ≡ y % length node.incoming → x < y) (fates_of gave.work) accounted.deals.causes
      (numbers_ordered suite left in_faults given out_faults may_give node lefts ended.are ended.settled ended.workers_are ended.callers_are ended.some caller gave is))

  pub ordered : (i caller : ℕ) (tale : List Told) → slice_get tales i ≡ Some tale → InOrder (length node.incoming) (claim_numbers (calls_of caller tale))
  ordered i caller tale at =
      elim (cases_lt caller (length lefts)) [
        | inl low ↦ let gave = get_there lefts caller low in ordered_of i caller tale gave.0 at gave.1
        | inr past ↦ pairs_none (λ (x y : ℕ). x % length node.incoming ≡ y % length node.incoming → x < y) (claim_numbers (calls_of caller tale)) (λ n found.
            let told = flat_from (λ (t : Told). claimed_number t.entry) (calls_of caller tale) n found in
            let of = filter_from (λ (t : Told). caller_of t.entry == caller) tale told.0 told.1 in
            let gave = caller_at suite left in_faults given out_faults may_give node lefts shards ended i tale told.0 at of.0 in
            let low = get_low lefts (caller_of told.0.entry) gave.0 gave.1 in
            let same = eqb-true (caller_of told.0.entry) caller of.1 in
            omega arith)
      ]

  -- ---- each claim is of one record

  pub record IsRecord (i caller number : ℕ) : Type 0 where
    pub gave : Gave
    pub gave_is : slice_get lefts caller ≡ Some gave
    pub dealt : Dealt Item
    pub recorded : Contains (fates_of gave.work) dealt
    pub number_is : dealt.number ≡ number
    pub item : Item
    pub receipt_is : item.at ≡ dealt.receipt
    pub at : IsItemAt many i item dealt.fate

  pub record_of : (i caller : ℕ) (tale : List Told) (gave : Gave) (item : Item) → slice_get lefts caller ≡ Some gave → Contains (items_at many i (fates_of gave.work)) item
      → (is : IsRecord i caller item.number) × (is.item ≡ item)
  record_of i caller tale gave item is found =
      let of = flat_from (λ (dealt : Dealt Item). claimed_at many i dealt.fate) (fates_of gave.work) item found in
      let at = item_at many i item of.0.fate of.2 in
      let accounted = account_of suite left in_faults given out_faults may_give node lefts shards ended caller gave is in
      let cause = All-contains (Cause suite node.hall.setup many i) (fates_of gave.work) of.0 accounted.deals.causes of.1 in
      let claimed = subst (λ (fate : Fate Item). HasCause suite node.hall.setup of.0.number of.0.receipt of.0.packet.value.items fate) at.fate_is cause in
      let came = peeled_came suite node.hall.setup of.0.number of.0.receipt of.0.packet.value.items at.seen.value claimed.opens in (
        record {
          gave = gave;
          gave_is = is;
          dealt = of.0;
          recorded = of.1;
          number_is = sym came.number_is ∙ ap (λ (x : Item). x.number) at.item_is;
          item = item;
          receipt_is = ap (λ (x : Item). x.at) (sym at.item_is) ∙ came.at_is;
          at = at;
        },
        refl,
      )

  -- a number is in one record, so it belongs to one caller and to one shard
  pub one_record : (i j c d number : ℕ) → (is : IsRecord i c number) → (is' : IsRecord j d number) → (i ≡ j) × (c ≡ d) × (is.item ≡ is'.item)
  one_record i j c d number is is' =
      let whose = one_arrival suite left in_faults given out_faults may_give node lefts ended.are ended.settled ended.workers_are ended.callers_are ended.some c d
      (dealt_packet is.dealt) (dealt_packet is'.dealt)
      (record_is suite left in_faults given out_faults may_give node lefts ended.are ended.settled ended.workers_are ended.callers_are ended.some c is.gave is.dealt is.gave_is is.recorded)
      (record_is suite left in_faults given out_faults may_give node lefts ended.are ended.settled ended.workers_are ended.callers_are ended.some d is'.gave is'.dealt is'.gave_is is'.recorded)
      (is.number_is ∙ sym is'.number_is) in
      let one_gave : is.gave ≡ is'.gave = at_one lefts c is.gave is'.gave is.gave_is (ap (λ (n : ℕ). slice_get lefts n) whose.0 ∙ is'.gave_is) in
      let recorded : Contains (fates_of is'.gave.work) is.dealt = subst (λ (g : Gave). Contains (fates_of g.work) is.dealt) one_gave is.recorded in
      let one_dealt : is.dealt ≡ is'.dealt =
      given_once (λ (x y : ℕ). x ≢ y) (λ (dealt : Dealt Item). dealt.number) (fates_of is'.gave.work) is.dealt is'.dealt
      (differ_one suite left in_faults given out_faults may_give node lefts ended.are ended.settled ended.workers_are ended.callers_are ended.some d is'.gave is'.gave_is)
      recorded is'.recorded (is.number_is ∙ sym is'.number_is) in
      let fates : Claimed is.at.seen ≡ Claimed is'.at.seen = sym is.at.fate_is ∙ (ap (λ (dealt : Dealt Item). dealt.fate) one_dealt ∙ is'.at.fate_is) in
      let one_seen : is.at.seen ≡ is'.at.seen = cc in
      let one_item : is.item ≡ is'.item = sym is.at.item_is ∙ (ap (λ (s : Snapshot Item). s.value) one_seen ∙ is'.at.item_is) in
      (sym is.at.shard_is ∙ (ap (λ (x : Item). shard_of many x.tag) one_item ∙ is'.at.shard_is), whose.0, one_item)

  -- the record of a claim
  pub claim_record : (i : ℕ) (tale : List Told) (told : Told) (number : ℕ) → slice_get tales i ≡ Some tale → Contains tale told → Contains (claimed_number told.entry) number
      → IsRecord i (caller_of told.entry) number
  claim_record i tale told number at found holds =
      let caller = caller_of told.entry in
      let gave = caller_at suite left in_faults given out_faults may_give node lefts shards ended i tale told at found in
      let call : Contains (calls_of caller tale) told = Contains-filter (λ (t : Told). caller_of t.entry == caller) tale told found (eq-eqb caller caller refl) in
      let among : Contains (map (λ (item : Item). item.number) (items_at many i (fates_of gave.0.work))) number =
      subst (λ (ns : List ℕ). Contains ns number) (numbers_are i caller tale gave.0 at gave.1) (flat_to (λ (t : Told). claimed_number t.entry) (calls_of caller tale) told number call holds) in
      let item = map_from (λ (item : Item). item.number) (items_at many i (fates_of gave.0.work)) number among in
      subst (λ (n : ℕ). IsRecord i caller n) item.2 (record_of i caller tale gave.0 item.0 gave.1 item.1).0

  -- ---- no number has two claims

  abbrev Apart : Told → Told → Type 0
  Apart t u = (a b : ℕ) → Contains (claimed_number t.entry) a → Contains (claimed_number u.entry) b → a ≢ b

  pub differ_at : (i : ℕ) (tale : List Told) → slice_get tales i ≡ Some tale → Differ (claim_numbers tale)
  differ_at i tale at =
      pairs_flat (λ (x y : ℕ). x ≢ y) (λ (t : Told). claimed_number t.entry) tale (λ told found. few_claimed told.entry)
      (pairs_by Apart (λ (t : Told). caller_of t.entry) tale
      (λ c. pairs_unflat (λ (x y : ℕ). x ≢ y) (λ (t : Told). claimed_number t.entry) (calls_of c tale)
      (pairs_weaker (λ (x y : ℕ). x ≢ y) {S = λ x y. x % length node.incoming ≡ y % length node.incoming → x < y} (claim_numbers (calls_of c tale))
      (λ x y rises same. let less = rises (ap (λ (n : ℕ). n % length node.incoming) same) in omega arith) (ordered i c tale at)))
      (λ t u in_first in_second apart a b holds holds' same.
      let first = claim_record i tale t a at in_first holds in
      let second = claim_record i tale u b at in_second holds' in
      let moved = subst (λ (n : ℕ). IsRecord i (caller_of t.entry) n) same first in
      apart (one_record i i (caller_of t.entry) (caller_of u.entry) b moved second).1))
    where
      few_claimed : (entry : Entry) → Differ (claimed_number entry)
      few_claimed (Claim caller number epoch tag at' answer) = pairs_one (λ (x y : ℕ). x ≢ y) number
      few_claimed (Take caller number dest moment) = pairs_nil (λ (x y : ℕ). x ≢ y)
      few_claimed (Rotate caller moment answer) = pairs_nil (λ (x y : ℕ). x ≢ y)
      few_claimed (Done caller) = pairs_nil (λ (x y : ℕ). x ≢ y)
      few_claimed (Reopened caller floor pairs) = pairs_nil (λ (x y : ℕ). x ≢ y)

  pub claimed_once : Differ (flat_map claim_numbers tales)
  claimed_once =
      pairs_flat (λ (x y : ℕ). x ≢ y) claim_numbers tales
      (λ tale found. let at = at_there tales tale found in differ_at at.0 tale at.1)
      (pairs_places (λ (t u : List Told). (a b : ℕ) → Contains (claim_numbers t) a → Contains (claim_numbers u) b → a ≢ b) tales
      (λ i j t u low at at' a b in_first in_second same.
      let told = flat_from (λ (x : Told). claimed_number x.entry) t a in_first in
      let told' = flat_from (λ (x : Told). claimed_number x.entry) u b in_second in
      let first = subst (λ (n : ℕ). IsRecord i (caller_of told.0.entry) n) same (claim_record i t told.0 a at told.1 told.2) in
      let second = claim_record j u told'.0 b at' told'.1 told'.2 in
      let one = (one_record i j (caller_of told.0.entry) (caller_of told'.0.entry) b first second).0 in
      omega arith))

  pub moves : Moves (length node.incoming) tales
  moves = record { once = claimed_once; ordered = ordered }
