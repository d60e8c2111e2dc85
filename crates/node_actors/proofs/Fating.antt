-- A packet more was dealt with: the caller's claims stay those of its log.
use Rattle.std.proofs.Common.{◌≡◌, ◌≢◌, ℕ, ◌+◌, ◌-◌, ◌^◌, ◌<◌, ◌≤◌, ◌||◌, Bool, true, false, List, [], ◌∷◌, ◌++◌, length, refl, sym, ap, subst, ◌∙◌, inr, ⊎_elim, arith, Option, Some, None, cond, min, eq-eqb, ne_eqb}
use Rattle.std.specs.Prelude.{All, is_some, slice_get}
use Rattle.std.specs.List.{AllZip}
use Rattle.std.proofs.lemmas.List.{append-nil}
use Rattle.std.proofs.lemmas.List.Elements.{All-push}
use Rattle.std.proofs.lemmas.List.Concat.{flat_map-append}
use Rattle.std.proofs.lemmas.List.Sums.{sum_by-append}
use Rattle.std.specs.declared.snapshot.Snapshot.{Snapshot}
use Rattle.mix_base.specs.Suites.{SuiteMeaning}
use Rattle.mix_shard.specs.Items.{Item}
use Rattle.mix_shard.specs.Shards.{IsClaimEntry}
use Rattle.mix_shard.specs.declared.entries.Answer.{Answer}
use Rattle.mix_shard.specs.declared.setup.Setup.{Setup}
use Rattle.mix_shard.specs.declared.entries.Entry.{Entry}
use Rattle.mix_shard.specs.declared.entries.Told.{Told}
use Rattle.turn_lock.specs.Seen.{Caller}
use Rattle.node_actors.specs.Calls.{claims, ends_by, has_ended, is_claim}
use Rattle.node_actors.specs.Fates.{claimed_at, ClaimsAsLogged, DealerState, dropped_by, dropped_in, HasCause, HasDealt, is_dropped, IfClaimed, IsClaimOf, IsFateOf, IsUnwrapped, items_at, NotRefused, Settles, shard_of}
use Rattle.node_actors.specs.Seats.{ActsAt, ClaimsNothing, HasMadeNothing, IsOpen, IsSameSeat, SeatState}
use Rattle.node_actors.specs.declared.actors.fates.Fate.{Fate}
use Rattle.node_actors.specs.declared.actors.fates.Fate.TheVariants.{Claimed, Refused, Unkeyed, Dropped}
use Rattle.node_actors.specs.declared.actors.fates.Dealt.{Dealt}
use Rattle.node_actors.proofs.Moving.{zip_snoc}
use Rattle.node_actors.proofs.Seating.{acts_cases, acts_same, get_low, get_there, none_claims, turn_claims}

abbrev Fits : ℕ → List Item → List Told → Type 0
Fits caller items entries = AllZip (IsClaimOf caller) items entries

items_more : (shards i : ℕ) (log : List (Dealt Item)) (dealt : Dealt Item) → items_at shards i (log ++ dealt ∷ []) ≡ items_at shards i log ++ claimed_at shards i dealt.fate
items_more shards i log dealt =
    flat_map-append (λ (d : Dealt Item). claimed_at shards i d.fate) log (dealt ∷ [])
    ∙ ap (λ (items : List Item). items_at shards i log ++ items) (append-nil (claimed_at shards i dealt.fate))

-- a seat of as many shards, and what was claimed by each pass there
module _ (old new : SeatState) (log : List (Dealt Item)) (dealt : Dealt Item) (logged : ClaimsAsLogged old log) where
  -- where nothing was claimed, the items are the same
  unclaimed_at : (i : ℕ) → claimed_at (length old.locks) i dealt.fate ≡ [] → (entries : List Told)
      → Fits old.caller (items_at (length old.locks) i log) entries → Fits old.caller (items_at (length old.locks) i (log ++ dealt ∷ [])) entries
  unclaimed_at i none entries fits =
      subst (λ (items : List Item). Fits old.caller items entries)
      (sym (items_more (length old.locks) i log dealt ∙ (ap (λ (items : List Item). items_at (length old.locks) i log ++ items) none ∙ append-nil (items_at (length old.locks) i log)))) fits

  same_seat : new ≡ old → ((i : ℕ) → claimed_at (length old.locks) i dealt.fate ≡ []) → ClaimsAsLogged new (log ++ dealt ∷ [])
  same_seat same none =
      subst (λ (seat : SeatState). ClaimsAsLogged seat (log ++ dealt ∷ [])) (sym same)
      (λ i pass is. unclaimed_at i (none i) (claims pass.made) (logged i pass is))

  took_nothing : (i : ℕ) → ActsAt i (λ own. own ≡ []) old new → ((j : ℕ) → claimed_at (length old.locks) j dealt.fate ≡ []) → ClaimsAsLogged new (log ++ dealt ∷ [])
  took_nothing i acts none =
      subst (λ (seat : SeatState). (j : ℕ) (pass : Caller Told) → slice_get new.passes j ≡ Some pass → Fits seat.caller (items_at (length seat.locks) j (log ++ dealt ∷ [])) (claims pass.made))
      (sym (acts_same i (λ own. own ≡ []) old new acts))
      (λ j pass is. acts_cases i (λ own. own ≡ []) old new acts (λ p. Fits old.caller (items_at (length old.locks) j (log ++ dealt ∷ [])) (claims p.made)) j pass is
      (λ same.
      let kept : claims acts.given.made ≡ claims acts.pass.made =
      turn_claims acts.lock old.caller (λ own. own ≡ []) acts.pass acts.given acts.turn
      ∙ (ap (λ (tale : List Told). claims acts.pass.made ++ tale) (none_claims acts.turn.own acts.turn.own_is) ∙ append-nil (claims acts.pass.made)) in
      let at : slice_get old.passes j ≡ Some acts.pass = ap (λ (n : ℕ). slice_get old.passes n) same ∙ acts.pass_is in
      unclaimed_at j (none j) (claims acts.given.made) (subst (λ (entries : List Told). Fits old.caller (items_at (length old.locks) j log) entries) (sym kept) (logged j acts.pass at)))
      (λ other there. unclaimed_at j (none j) (claims pass.made) (logged j pass there)))

  one_claim : (caller : ℕ) (item : Item) (told : Told) → IsClaimOf caller item told → claims (told ∷ []) ≡ told ∷ []
  one_claim caller item told is = rw (ap is_claim is.entry_is) refl

  claimed : (item : Snapshot Item) → dealt.fate ≡ Claimed item
      → ActsAt (shard_of (length old.locks) item.value.tag) (λ own. (told : Told) × (own ≡ told ∷ []) × IsClaimOf old.caller item.value told) old new
      → ClaimsAsLogged new (log ++ dealt ∷ [])
  claimed item fate acts =
      let shards = length old.locks in
      let place = shard_of shards item.value.tag in
      let Own : List Told → Type 0 = λ own. (told : Told) × (own ≡ told ∷ []) × IsClaimOf old.caller item.value told in
      let there : (j : ℕ) → j ≡ place → claimed_at shards j dealt.fate ≡ item.value ∷ [] = λ j same.
      ap (claimed_at shards j) fate ∙ rw (eq-eqb place j (sym same)) refl in
      let elsewhere : (j : ℕ) → j ≢ place → claimed_at shards j dealt.fate ≡ [] = λ j other.
      ap (claimed_at shards j) fate ∙ rw (ne_eqb place j (λ same. other (sym same))) refl in
      let more : (j : ℕ) → Fits old.caller (items_at shards j log) (claims acts.pass.made) → j ≡ place
      → Fits old.caller (items_at shards j (log ++ dealt ∷ [])) (claims acts.given.made) = λ j fits same.
      let entries : claims acts.given.made ≡ claims acts.pass.made ++ acts.turn.own_is.0 ∷ [] =
      turn_claims acts.lock old.caller Own acts.pass acts.given acts.turn
      ∙ ap (λ (tale : List Told). claims acts.pass.made ++ tale) (ap (λ (tale : List Told). claims tale) acts.turn.own_is.1 ∙ one_claim old.caller item.value acts.turn.own_is.0 acts.turn.own_is.2) in
      let items : items_at shards j (log ++ dealt ∷ []) ≡ items_at shards j log ++ item.value ∷ [] =
      items_more shards j log dealt ∙ ap (λ (xs : List Item). items_at shards j log ++ xs) (there j same) in
      subst (λ (z : List Item × List Told). Fits old.caller z.0 z.1) (λ k. (sym items k, sym entries k))
      (zip_snoc (IsClaimOf old.caller) (items_at shards j log) (claims acts.pass.made) item.value acts.turn.own_is.0 fits acts.turn.own_is.2) in
      subst (λ (seat : SeatState). (j : ℕ) (pass : Caller Told) → slice_get new.passes j ≡ Some pass → Fits seat.caller (items_at (length seat.locks) j (log ++ dealt ∷ [])) (claims pass.made))
      (sym (acts_same place Own old new acts))
      (λ j pass is. acts_cases place Own old new acts (λ p. Fits old.caller (items_at shards j (log ++ dealt ∷ [])) (claims p.made)) j pass is
      (λ same. more j (logged j acts.pass (ap (λ (n : ℕ). slice_get old.passes n) same ∙ acts.pass_is)) same)
      (λ other was. unclaimed_at j (elsewhere j other) (claims pass.made) (logged j pass was)))

  -- by its fate
  pub logged_on : Settles dealt.fate old new → ClaimsAsLogged new (log ++ dealt ∷ [])
  logged_on settles = by_fate dealt.fate refl settles
    where
      by_fate : (fate : Fate Item) → dealt.fate ≡ fate → Settles fate old new → ClaimsAsLogged new (log ++ dealt ∷ [])
      by_fate (Claimed item) is acts = claimed item is acts
      by_fate Refused is same = same_seat same (λ i. ap (claimed_at (length old.locks) i) is)
      by_fate Unkeyed is same = same_seat same (λ i. ap (claimed_at (length old.locks) i) is)
      by_fate Dropped is either =
          ⊎_elim
          (λ (same : new ≡ old). same_seat same (λ i. ap (claimed_at (length old.locks) i) is))
          (λ (h : (i : ℕ) × ActsAt i (λ own. own ≡ []) old new). took_nothing h.0 h.1 (λ i. ap (claimed_at (length old.locks) i) is))
          either

-- ---- what the seat keeps

pub settled_same : (fate : Fate Item) (old new : SeatState) → Settles fate old new → IsSameSeat old new
settled_same (Claimed item) old new acts = acts_same _ _ old new acts
settled_same Refused old new same = same ∙ ap (λ (passes : List (Caller Told)). record old { passes = passes }) (ap (λ (s : SeatState). s.passes) (sym same))
settled_same Unkeyed old new same = same ∙ ap (λ (passes : List (Caller Told)). record old { passes = passes }) (ap (λ (s : SeatState). s.passes) (sym same))
settled_same Dropped old new either =
    ⊎_elim
    (λ (same : new ≡ old). same ∙ ap (λ (passes : List (Caller Told)). record old { passes = passes }) (ap (λ (s : SeatState). s.passes) (sym same)))
    (λ (h : (i : ℕ) × ActsAt i (λ own. own ≡ []) old new). acts_same h.0 (λ own. own ≡ []) old new h.1)
    either

open_on : (i : ℕ) (Own : List Told → Type 0) (old new : SeatState) (acts : ActsAt i Own old new) → has_ended old.caller acts.turn.own ≡ false → IsOpen old → IsOpen new
open_on i Own old new acts none opened j pass is =
    let caller : new.caller ≡ old.caller = ap (λ (s : SeatState). s.caller) acts.new_is in
    subst (λ (n : ℕ). has_ended n pass.seen ≡ false) (sym caller)
    (acts_cases i Own old new acts (λ p. has_ended old.caller p.seen ≡ false) j pass is
    (λ same. acts.turn.ended ∙ ap (λ (b : Bool). b || has_ended old.caller acts.pass.seen) none ∙ opened i acts.pass acts.pass_is)
    (λ other was. opened j pass was))

pub settled_open : (fate : Fate Item) (old new : SeatState) → Settles fate old new → IsOpen old → IsOpen new
settled_open (Claimed item) old new acts opened =
    open_on _ _ old new acts
    (ap (λ (tale : List Told). has_ended old.caller tale) acts.turn.own_is.1 ∙ ap (λ (entry : Entry). ends_by old.caller entry || false) acts.turn.own_is.2.entry_is) opened
settled_open Refused old new same opened = subst IsOpen (sym same) opened
settled_open Unkeyed old new same opened = subst IsOpen (sym same) opened
settled_open Dropped old new either opened =
    ⊎_elim
    (λ (same : new ≡ old). subst IsOpen (sym same) opened)
    (λ (h : (i : ℕ) × ActsAt i (λ own. own ≡ []) old new).
    open_on h.0 (λ own. own ≡ []) old new h.1 (ap (λ (tale : List Told). has_ended old.caller tale) h.1.turn.own_is) opened)
    either

-- ---- the dealer

count_more : (log : List (Dealt Item)) (dealt : Dealt Item) → dropped_in (log ++ dealt ∷ []) ≡ dropped_in log + dropped_by dealt.fate
count_more log dealt =
    sum_by-append (λ (d : Dealt Item). cond (is_dropped d.fate) 1 0) log (dealt ∷ []) ∙ ap (λ (n : ℕ). dropped_in log + n) (omega arith)

pub dealt_on : (suite : SuiteMeaning) (old : DealerState) (seat : SeatState) (dealt : Dealt Item) (dropped : ℕ) → HasDealt suite old → Settles dealt.fate old.seat seat
    → HasCause suite old.seat.setup dealt.number dealt.receipt dealt.packet.value.items dealt.fate → dropped ≡ min (old.dropped + dropped_by dealt.fate) (2 ^ 64 - 1)
    → HasDealt suite (record { seat = seat; log = old.log ++ dealt ∷ []; dropped = dropped })
dealt_on suite old seat dealt dropped has settles cause count = record {
  claims_are = logged_on old.seat seat old.log dealt has.claims_are settles;
  causes =
      let setup : old.seat.setup ≡ seat.setup = ap (λ (s : SeatState). s.setup) (sym (settled_same dealt.fate old.seat seat settles)) in
      let P : Setup → Dealt Item → Type 0 = λ s d. HasCause suite s d.number d.receipt d.packet.value.items d.fate in
      subst (λ (s : Setup). All (P s) (old.log ++ dealt ∷ [])) setup (All-push (P old.seat.setup) old.log dealt has.causes cause);
  count =
      let so_far = has.count in
      let more = count_more old.log dealt in
      omega arith;
}

-- ---- a claim that was answered

acts_as : (i j : ℕ) (Own Other : List Told → Type 0) (old new : SeatState) → i ≡ j → ((own : List Told) → Own own → Other own) → ActsAt i Own old new → ActsAt j Other old new
acts_as i j Own Other old new same weaker acts =
    subst (λ (n : ℕ). ActsAt n Other old new) same (record {
      lock = acts.lock;
      pass = acts.pass;
      given = acts.given;
      lock_is = acts.lock_is;
      pass_is = acts.pass_is;
      turn = record {
        idle = acts.turn.idle;
        opening = acts.turn.opening;
        by_caller = acts.turn.by_caller;
        own = acts.turn.own;
        own_is = weaker acts.turn.own acts.turn.own_is;
        made = acts.turn.made;
        saw = acts.turn.saw;
        ended = acts.turn.ended;
      };
      new_is = acts.new_is;
    })

claim_of : (caller : ℕ) (item seen : Item) (answer : Option Answer) (own : List Told) → seen ≡ item → is_some answer ≡ true → IsClaimEntry caller item answer own
    → (told : Told) × (own ≡ told ∷ []) × IsClaimOf caller seen told
claim_of caller item seen None own same some h = absurd (cc some)
claim_of caller item seen (Some answer) own same some h =
    (h.0, h.1, subst (λ (x : Item). IsClaimOf caller x h.0) (sym same) (record { answer = answer; entry_is = h.2; packet_is = h.3 }))

none_of : (caller : ℕ) (item : Item) (answer : Option Answer) (own : List Told) → answer ≡ None → IsClaimEntry caller item answer own → own ≡ []
none_of caller item None own none h = h
none_of caller item (Some answer) own none h = absurd (cc none)

pub admitted : (old new : SeatState) (item : Item) (i : ℕ) (answer : Option Answer) (fate : Fate Item) → IsFateOf answer item fate → i ≡ shard_of (length old.locks) item.tag
    → ActsAt i (IsClaimEntry old.caller item answer) old new → Settles fate old new
admitted old new item i answer (Claimed seen) is place acts =
    acts_as i (shard_of (length old.locks) seen.value.tag) (IsClaimEntry old.caller item answer) (λ own. (told : Told) × (own ≡ told ∷ []) × IsClaimOf old.caller seen.value told) old new
    (place ∙ ap (λ (x : Item). shard_of (length old.locks) x.tag) (sym is.0)) (λ own h. claim_of old.caller item seen.value answer own is.0 is.1 h) acts
admitted old new item i answer Dropped is place acts =
    inr (i, acts_as i i (IsClaimEntry old.caller item answer) (λ own. own ≡ []) old new refl (λ own h. none_of old.caller item answer own is h) acts)
admitted old new item i answer Refused is place acts = absurd is
admitted old new item i answer Unkeyed is place acts = absurd is

pub cause_of : (suite : SuiteMeaning) (setup : Setup) (number receipt : ℕ) (packet : List ℕ) (item : Item) (fate : Fate Item) → IsUnwrapped suite setup number receipt packet item
    → IfClaimed fate (λ seen. seen ≡ item) → NotRefused fate → HasCause suite setup number receipt packet fate
cause_of suite setup number receipt packet item (Claimed seen) is same not_refused = subst (λ (x : Item). IsUnwrapped suite setup number receipt packet x) (sym same) is
cause_of suite setup number receipt packet item Dropped is same not_refused = tt
cause_of suite setup number receipt packet item Refused is same not_refused = absurd not_refused
cause_of suite setup number receipt packet item Unkeyed is same not_refused = absurd not_refused

-- what claimed nothing leaves the claims those of the log
pub logged_same : (old new : SeatState) (log : List (Dealt Item)) → ClaimsNothing old new → ClaimsAsLogged old log → ClaimsAsLogged new log
logged_same old new log nothing logged i pass is =
    let low : i < length old.passes = subst (λ (n : ℕ). i < n) nothing.many (get_low new.passes i pass is) in
    let was = get_there old.passes i low in
    let same = nothing.claims_are i was.0 pass was.1 is in
    let P : SeatState → Type 0 = λ s. Fits s.caller (items_at (length s.locks) i log) (claims pass.made) in
    let here : Fits old.caller (items_at (length old.locks) i log) (claims pass.made) = subst (λ (entries : List Told). Fits old.caller (items_at (length old.locks) i log) entries) (sym same) (logged i was.0 was.1) in
    subst P (sym nothing.same) here

pub dealt_same : (suite : SuiteMeaning) (dealer : DealerState) (seat : SeatState) → ClaimsNothing dealer.seat seat → HasDealt suite dealer → HasDealt suite (record dealer { seat = seat })
dealt_same suite dealer seat nothing has = record {
  claims_are = logged_same dealer.seat seat dealer.log nothing has.claims_are;
  causes = subst (λ (s : SeatState). All (λ dealt. HasCause suite s.setup dealt.number dealt.receipt dealt.packet.value.items dealt.fate) dealer.log) (sym nothing.same) has.causes;
  count = has.count;
}

pub dealt_first : (suite : SuiteMeaning) (seat : SeatState) → HasMadeNothing seat → HasDealt suite (record { seat = seat; log = []; dropped = 0 })
dealt_first suite seat nothing = record {
  claims_are = λ i pass is. subst (λ (made : List Told). Fits seat.caller [] (claims made)) (sym (nothing i pass is)) tt;
  causes = λ k d low. absurd (omega (arith, low));
  count = refl;
}

-- the caller ended at one shard more, and not yet at those behind it
pub ends_on : (seat new : SeatState) (n : ℕ) (Own : List Told → Type 0) → ActsAt n Own seat new
    → ((i : ℕ) (pass : Caller Told) → n ≤ i → slice_get seat.passes i ≡ Some pass → has_ended seat.caller pass.seen ≡ false)
    → (i : ℕ) (pass : Caller Told) → n + 1 ≤ i → slice_get new.passes i ≡ Some pass → has_ended new.caller pass.seen ≡ false
ends_on seat new n Own acts not_yet i pass low is =
    let caller : new.caller ≡ seat.caller = ap (λ (s : SeatState). s.caller) acts.new_is in
    subst (λ (c : ℕ). has_ended c pass.seen ≡ false) (sym caller)
    (acts_cases n Own seat new acts (λ p. has_ended seat.caller p.seen ≡ false) i pass is
    (λ same. absurd (omega (arith, same)))
    (λ other there. not_yet i pass (omega arith) there))
