-- A packet more was taken: the caller's takings stay those of its log.
use Rattle.std.proofs.Common.{◌≡◌, ℕ, zero, suc, ◌<◌, length, ◌+◌, ◌-◌, ◌^◌, Bool, true, false, List, [], ◌∷◌, ◌++◌, refl, sym, ap, subst, ◌∙◌, ⊎_elim, arith, Option, Some, None, cond, min, eq-eqb, ne_eqb}
use Rattle.std.specs.Prelude.{All, Contains, drop, not, slice_get}
use Rattle.std.specs.List.{AllZip}
use Rattle.std.proofs.Math.Seq.{drop-nil}
use Rattle.std.proofs.lemmas.List.{append-nil}
use Rattle.std.proofs.lemmas.List.Elements.{All-push, Contains-append_left, filter-append}
use Rattle.std.proofs.lemmas.List.Concat.{flat_map-append}
use Rattle.std.proofs.lemmas.List.Sums.{sum_by-append}
use Rattle.mix_base.specs.Suites.{SuiteMeaning}
use Rattle.mix_base.proofs.Members.{none_in_empty}
use Rattle.mix_shard.specs.Items.{Item, IsHeld, destination}
use Rattle.mix_shard.specs.Shards.{IsEntry, IsOpeningBy, IsRotateEntry}
use Rattle.mix_shard.specs.declared.entries.Answer.{Answer}
use Rattle.mix_shard.specs.declared.entries.Entry.TheVariants.{Reopened, Take}
use Rattle.mix_shard.specs.declared.entries.Told.{Told}
use Rattle.mix_shard.specs.declared.setup.Setup.{Setup}
use Rattle.turn_lock.specs.Seen.{Caller, Lock}
use Rattle.turn_lock.specs.Stories.{Begins, after}
use Rattle.turn_lock.proofs.Lists.{all_map}
use Rattle.node_actors.specs.Calls.{is_take, takes}
use Rattle.node_actors.specs.Found.{IsNoPacket, IsTakenBy}
use Rattle.node_actors.specs.Seats.{ActsAt, HasMadeNothing, HasTakenNothing, IsSameSeat, SeatState}
use Rattle.node_actors.specs.Takings.{HasTaken, IsFromShard, IsTakeOf, not_sent, TakerState, TakesAsLogged, taken_at, taken_by, unsent_in, WasAccepted}
use Rattle.node_actors.specs.Turns.{IsRotatedAt, TakesTurn}
use Rattle.node_actors.specs.declared.actors.takings.Taking.{Taking}
use Rattle.node_actors.specs.declared.actors.turns.Found.{Found}
use Rattle.node_actors.specs.declared.actors.turns.Found.TheVariants as kinds
use Rattle.node_actors.proofs.Moving.{zip_snoc}
use Rattle.node_actors.proofs.Seating.{acts_cases, acts_many, acts_same, get_low, get_there, some_same}

one_told : (told : Told) (b : Bool) → is_take told.entry ≡ b → takes (told ∷ []) ≡ cond b (told ∷ []) []
one_told told b is = rw is refl

opening_takes : (caller : ℕ) (opening : List Told) → IsOpeningBy caller opening → takes opening ≡ []
opening_takes caller opening by =
    ⊎_elim
    (λ (none : opening ≡ []). ap (λ (tale : List Told). takes tale) none)
    (λ (h : (told : Told) × (floor : ℕ) × (pairs : ℕ) × (opening ≡ told ∷ []) × (told.entry ≡ Reopened caller floor pairs)).
    ap (λ (tale : List Told). takes tale) h.3 ∙ one_told h.0 false (ap is_take h.4))
    by

turn_takes : (lock : Lock Told) (caller : ℕ) (Own : List Told → Type 0) (pass given : Caller Told) (turn : TakesTurn lock caller Own pass given)
    → takes given.made ≡ takes pass.made ++ takes turn.own
turn_takes lock caller Own pass given turn =
    let test : Told → Bool = λ told. is_take told.entry in
    ap (λ (tale : List Told). takes tale) turn.made
    ∙ (filter-append test pass.made (turn.opening ++ turn.own)
    ∙ ap (λ (tale : List Told). takes pass.made ++ tale)
    (filter-append test turn.opening turn.own ∙ ap (λ (tale : List Told). tale ++ takes turn.own) (opening_takes caller turn.opening turn.by_caller)))

taken_more : (i : ℕ) (log : List (Taking Item)) (taking : Taking Item) → taken_at i (log ++ taking ∷ []) ≡ taken_at i log ++ taken_by i taking
taken_more i log taking = flat_map-append (taken_by i) log (taking ∷ []) ∙ ap (λ (items : List Item). taken_at i log ++ items) (append-nil (taken_by i taking))

module _ (old new : SeatState) (log : List (Taking Item)) (logged : TakesAsLogged old log) where
  -- what a pass took, by the caller of the new seat
  by_old : (more : List (Taking Item)) → (i : ℕ) (Own : List Told → Type 0) → ActsAt i Own old new
      → ((j : ℕ) (pass : Caller Told) → slice_get new.passes j ≡ Some pass → AllZip (IsTakeOf old.caller) (taken_at j more) (takes pass.made)) → TakesAsLogged new more
  by_old more i Own acts all =
      subst (λ (seat : SeatState). (j : ℕ) (pass : Caller Told) → slice_get new.passes j ≡ Some pass → AllZip (IsTakeOf seat.caller) (taken_at j more) (takes pass.made))
      (sym (acts_same i Own old new acts)) all

  -- nothing was taken
  pub none_taken : (i : ℕ) (Own : List Told → Type 0) → ActsAt i Own old new → ((own : List Told) → Own own → takes own ≡ []) → TakesAsLogged new log
  none_taken i Own acts none =
      by_old log i Own acts (λ j pass is. acts_cases i Own old new acts (λ p. AllZip (IsTakeOf old.caller) (taken_at j log) (takes p.made)) j pass is
      (λ same.
      let kept : takes acts.given.made ≡ takes acts.pass.made =
      turn_takes acts.lock old.caller Own acts.pass acts.given acts.turn
      ∙ (ap (λ (tale : List Told). takes acts.pass.made ++ tale) (none acts.turn.own acts.turn.own_is) ∙ append-nil (takes acts.pass.made)) in
      subst (λ (entries : List Told). AllZip (IsTakeOf old.caller) (taken_at j log) entries) (sym kept)
      (logged j acts.pass (ap (λ (n : ℕ). slice_get old.passes n) same ∙ acts.pass_is)))
      (λ other was. logged j pass was))

  -- an item was taken, and is the log's last
  pub one_taken : (item : Item) (moment : ℕ) (taking : Taking Item) → taking.item.value ≡ item → ActsAt taking.shard (IsEntry (Take old.caller item.number (destination item.out) moment)) old new
      → TakesAsLogged new (log ++ taking ∷ [])
  one_taken item moment taking item_is acts =
      let Own : List Told → Type 0 = IsEntry (Take old.caller item.number (destination item.out) moment) in
      let told = acts.turn.own_is.0 in
      let is : IsTakeOf old.caller taking.item.value told = subst (λ (x : Item). IsTakeOf old.caller x told) (sym item_is) (record { moment = moment; entry_is = acts.turn.own_is.2 }) in
      let entries : takes acts.given.made ≡ takes acts.pass.made ++ told ∷ [] =
      turn_takes acts.lock old.caller Own acts.pass acts.given acts.turn
      ∙ ap (λ (tale : List Told). takes acts.pass.made ++ tale) (ap (λ (tale : List Told). takes tale) acts.turn.own_is.1 ∙ one_told told true (ap is_take acts.turn.own_is.2)) in
      by_old (log ++ taking ∷ []) taking.shard Own acts
      (λ j pass at. acts_cases taking.shard Own old new acts (λ p. AllZip (IsTakeOf old.caller) (taken_at j (log ++ taking ∷ [])) (takes p.made)) j pass at
      (λ same.
      let here : taken_by j taking ≡ taking.item.value ∷ [] = rw (eq-eqb taking.shard j (sym same)) refl in
      let items : taken_at j (log ++ taking ∷ []) ≡ taken_at j log ++ taking.item.value ∷ [] = taken_more j log taking ∙ ap (λ (xs : List Item). taken_at j log ++ xs) here in
      subst (λ (z : List Item × List Told). AllZip (IsTakeOf old.caller) z.0 z.1) (λ k. (sym items k, sym entries k))
      (zip_snoc (IsTakeOf old.caller) (taken_at j log) (takes acts.pass.made) taking.item.value told
      (logged j acts.pass (ap (λ (n : ℕ). slice_get old.passes n) same ∙ acts.pass_is)) is))
      (λ other was.
      let none : taken_by j taking ≡ [] = rw (ne_eqb taking.shard j (λ same. other (sym same))) refl in
      let items : taken_at j (log ++ taking ∷ []) ≡ taken_at j log = taken_more j log taking ∙ (ap (λ (xs : List Item). taken_at j log ++ xs) none ∙ append-nil (taken_at j log)) in
      subst (λ (xs : List Item). AllZip (IsTakeOf old.caller) xs (takes pass.made)) (sym items) (logged j pass was)))

no_takes : (own : List Told) → own ≡ [] → takes own ≡ []
no_takes own none = ap (λ (tale : List Told). takes tale) none

pub unsent_more : (log : List (Taking Item)) (taking : Taking Item) → unsent_in (log ++ taking ∷ []) ≡ unsent_in log + not_sent taking.sent
unsent_more log taking =
    sum_by-append (λ (t : Taking Item). cond (not t.sent) 1 0) log (taking ∷ []) ∙ ap (λ (n : ℕ). unsent_in log + n) (by_sent taking.sent)
  where
    by_sent : (sent : Bool) → 0 + cond (not sent) 1 0 ≡ not_sent sent
    by_sent true = refl
    by_sent false = refl

-- ---- where it was accepted

behind_more : (n : ℕ) (xs ys : List Told) (told : Told) → Contains (drop n xs) told → Contains (drop n (xs ++ ys)) told
behind_more n [] ys told here = absurd (none_in_empty told (subst (λ (tale : List Told). Contains tale told) (drop-nil n) here))
behind_more zero (x ∷ xs) ys told here = Contains-append_left (x ∷ xs) ys told here
behind_more (suc n) (x ∷ xs) ys told here = behind_more n xs ys told here

-- what was accepted among some entries was so among more of them
pub accepted_still : (story seen longer : List Told) (item : Item) → Begins seen longer → WasAccepted (after story seen) item → WasAccepted (after story longer) item
accepted_still story seen longer item begins was =
    (was.0, subst (λ (tale : List Told). Contains (after story tale) was.0) begins.1 (behind_more (length story) seen begins.0 was.0 was.1), was.2)

-- the shards of a log go on by one turn
from_still : (old new : SeatState) (i : ℕ) (Own : List Told → Type 0) → ActsAt i Own old new → (taking : Taking Item) → IsFromShard old taking → IsFromShard new taking
from_still old new i Own acts taking from =
    let locks : new.locks ≡ old.locks = ap (λ (s : SeatState). s.locks) acts.new_is in
    let low : taking.shard < length old.passes = get_low old.passes taking.shard from.pass from.pass_is in
    let many = acts_many i Own old new acts in
    let there = get_there new.passes taking.shard (omega (arith, low, many)) in
    record {
      lock = from.lock;
      pass = there.0;
      lock_is = ap (λ (l : List (Lock Told)). slice_get l taking.shard) locks ∙ from.lock_is;
      pass_is = there.1;
      accepted = acts_cases i Own old new acts (λ p. WasAccepted (after from.lock.story p.seen) taking.item.value) taking.shard there.0 there.1
          (λ same.
          let was : from.pass ≡ acts.pass = some_same from.pass acts.pass (sym from.pass_is ∙ (ap (λ (n : ℕ). slice_get old.passes n) same ∙ acts.pass_is)) in
          accepted_still from.lock.story acts.pass.seen acts.given.seen taking.item.value acts.turn.saw
          (subst (λ (p : Caller Told). WasAccepted (after from.lock.story p.seen) taking.item.value) was from.accepted))
          (λ other there'. subst (λ (p : Caller Told). WasAccepted (after from.lock.story p.seen) taking.item.value)
          (some_same from.pass there.0 (sym from.pass_is ∙ there')) from.accepted);
    }

-- what the seat found at a shard was accepted there
abbrev pub WasAcceptedAt : SeatState → SeatState → ℕ → Item → Type 0
WasAcceptedAt old new i item =
    (lock : Lock Told) (pass : Caller Told) → slice_get old.locks i ≡ Some lock → slice_get new.passes i ≡ Some pass → WasAccepted (after lock.story pass.seen) item

from_here : (old new : SeatState) (taking : Taking Item) (Own : List Told → Type 0) → ActsAt taking.shard Own old new → WasAcceptedAt old new taking.shard taking.item.value
    → IsFromShard new taking
from_here old new taking Own acts was =
    let locks : new.locks ≡ old.locks = ap (λ (s : SeatState). s.locks) acts.new_is in
    let low : taking.shard < length old.passes = get_low old.passes taking.shard acts.pass acts.pass_is in
    let many = acts_many taking.shard Own old new acts in
    let there = get_there new.passes taking.shard (omega (arith, low, many)) in
    record {
      lock = acts.lock;
      pass = there.0;
      lock_is = ap (λ (l : List (Lock Told)). slice_get l taking.shard) locks ∙ acts.lock_is;
      pass_is = there.1;
      accepted = was acts.lock there.0 acts.lock_is there.1;
    }

same_setup : (old new : SeatState) → IsSameSeat old new → old.setup ≡ new.setup
same_setup old new same = ap (λ (s : SeatState). s.setup) (sym same)

-- ---- the taker

pub taken_first : (suite : SuiteMeaning) (seat : SeatState) → HasMadeNothing seat → HasTaken suite (record { seat = seat; log = []; unsent = 0 })
taken_first suite seat nothing = record {
  takes_are = λ i pass is. subst (λ (made : List Told). AllZip (IsTakeOf seat.caller) [] (takes made)) (sym (nothing i pass is)) tt;
  origins = λ k d low. absurd (omega (arith, low));
  setups = λ k d low. absurd (omega (arith, low));
  items = λ k d low. absurd (omega (arith, low));
  count = refl;
}

pub taken_on : (suite : SuiteMeaning) (old : TakerState) (seat : SeatState) (item : Item) (moment unsent : ℕ) (taking : Taking Item) → HasTaken suite old
    → taking.item.value ≡ item → IsHeld suite item → item.setup ≡ old.seat.setup → WasAcceptedAt old.seat seat taking.shard item
    → ActsAt taking.shard (IsTakenBy old.seat.caller moment (kinds.Packet item)) old.seat seat
    → unsent ≡ min (old.unsent + not_sent taking.sent) (2 ^ 64 - 1) → HasTaken suite (record { seat = seat; log = old.log ++ taking ∷ []; unsent = unsent })
taken_on suite old seat item moment unsent taking has item_is held under accepted acts count = record {
  takes_are = one_taken old.seat seat old.log has.takes_are item moment taking item_is acts;
  origins =
      let Own : List Told → Type 0 = IsTakenBy old.seat.caller moment (kinds.Packet item) in
      All-push (IsFromShard seat) old.log taking
      (all_map (IsFromShard old.seat) (IsFromShard seat) old.log (from_still old.seat seat taking.shard Own acts) has.origins)
      (from_here old.seat seat taking Own acts (subst (WasAcceptedAt old.seat seat taking.shard) (sym item_is) accepted));
  setups =
      let Under : Setup → Taking Item → Type 0 = λ setup t. t.item.value.setup ≡ setup in
      subst (λ (setup : Setup). All (Under setup) (old.log ++ taking ∷ [])) (same_setup old.seat seat (acts_same taking.shard (IsTakenBy old.seat.caller moment (kinds.Packet item)) old.seat seat acts))
      (All-push (Under old.seat.setup) old.log taking has.setups (ap (λ (x : Item). x.setup) item_is ∙ under));
  items = All-push (λ (t : Taking Item). IsHeld suite t.item.value) old.log taking has.items (subst (IsHeld suite) (sym item_is) held);
  count =
      let so_far = has.count in
      let more = unsent_more old.log taking in
      omega arith;
}

pub nothing_taken : (suite : SuiteMeaning) (old : TakerState) (seat : SeatState) (i moment : ℕ) (found : Found Item) → HasTaken suite old → IsNoPacket found
    → ActsAt i (IsTakenBy old.seat.caller moment found) old.seat seat → HasTaken suite (record { seat = seat; log = old.log; unsent = old.unsent })
nothing_taken suite old seat i moment found has none acts = record {
  takes_are = none_taken old.seat seat old.log has.takes_are i (IsTakenBy old.seat.caller moment found) acts (λ own h. no_takes own (by_found found none own h));
  origins = all_map (IsFromShard old.seat) (IsFromShard seat) old.log (from_still old.seat seat i (IsTakenBy old.seat.caller moment found) acts) has.origins;
  setups =
      subst (λ (setup : Setup). All (λ taking. taking.item.value.setup ≡ setup) old.log)
      (same_setup old.seat seat (acts_same i (IsTakenBy old.seat.caller moment found) old.seat seat acts)) has.setups;
  items = has.items;
  count = has.count;
}
  where
    by_found : (found : Found Item) → IsNoPacket found → (own : List Told) → IsTakenBy old.seat.caller moment found own → own ≡ []
    by_found (kinds.Packet item) never own h = absurd never
    by_found kinds.Waiting never own h = h
    by_found kinds.Empty never own h = h
    by_found kinds.Drained never own h = h

-- ---- who takes nothing

-- one turn more, in which nothing was taken
pub takes_none : (i : ℕ) (Own : List Told → Type 0) (old new : SeatState) → ActsAt i Own old new → ((own : List Told) → Own own → takes own ≡ []) → HasTakenNothing old → HasTakenNothing new
takes_none i Own old new acts none so_far j pass is =
    acts_cases i Own old new acts (λ p. takes p.made ≡ []) j pass is
    (λ same.
    turn_takes acts.lock old.caller Own acts.pass acts.given acts.turn
    ∙ (ap (λ (tale : List Told). tale ++ takes acts.turn.own) (so_far i acts.pass acts.pass_is) ∙ none acts.turn.own acts.turn.own_is))
    (λ other there. so_far j pass there)

pub rotated_takes : (caller moment : ℕ) (own : List Told) → IsRotatedAt caller moment own → takes own ≡ []
rotated_takes caller moment own h = by_answer h.0 h.1
  where
    by_answer : (answer : Option Answer) → IsRotateEntry caller moment answer own → takes own ≡ []
    by_answer None none = no_takes own none
    by_answer (Some answer) e = ap (λ (tale : List Told). takes tale) e.1 ∙ one_told e.0 false (ap is_take e.2)

pub takes_first : (seat : SeatState) → HasMadeNothing seat → HasTakenNothing seat
takes_first seat nothing i pass is = ap (λ (made : List Told). takes made) (nothing i pass is)
