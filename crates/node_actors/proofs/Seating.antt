-- Turns of a seat: what stays of the other passes, and of the claims.
use Rattle.std.proofs.Common.{◌≡◌, ◌≢◌, ℕ, zero, suc, ◌+◌, ◌<◌, Bool, false, List, [], ◌∷◌, ◌++◌, length, get_or, refl, sym, ap, subst, ◌∙◌, ⊎_elim, arith, Option, Some, None}
use Rattle.std.specs.Prelude.{slice_get, slice_set}
use Rattle.std.proofs.lemmas.List.{append-nil, length-set}
use Rattle.std.proofs.lemmas.List.Elements.{filter-append}
use Rattle.std.proofs.lemmas.Option.{slice_get-get_or}
use mathlib.Core.Logic.{dite}
use native.Mathlib.Decide.{ℕ_discrete}
use Rattle.mix_shard.specs.Shards.{IsEntry, IsOpeningBy, IsRotateEntry}
use Rattle.mix_shard.specs.declared.entries.Answer.{Answer}
use Rattle.mix_shard.specs.declared.entries.Entry.{Entry}
use Rattle.mix_shard.specs.declared.entries.Entry.TheVariants.{Take, Done, Reopened}
use Rattle.mix_shard.specs.declared.entries.Told.{Told}
use Rattle.turn_lock.specs.Seen.{Caller, IsIdle, Lock}
use Rattle.turn_lock.specs.Stories.{after, Begins}
use Rattle.turn_lock.proofs.Lists.{longer_begins}
use Rattle.node_actors.specs.Calls.{claims, is_claim, IsSpent, terms_in}
use Rattle.node_actors.specs.Found.{IfFound, IsTakenBy}
use Rattle.node_actors.specs.declared.actors.turns.Found.{Found}
use Rattle.node_actors.specs.declared.actors.turns.Found.TheVariants as kinds
use Rattle.mix_shard.specs.Items.{Item, destination}
use Rattle.node_actors.specs.Seats.{ActsAt, ClaimsNothing, IsOver, IsSeated, IsSameSeat, SeatState}
use Rattle.node_actors.specs.Takings.{WasAccepted}
use Rattle.node_actors.specs.Turns.{IsRotatedAt, TakesTurn}

-- ---- lists read by their places

module _ {X : Type 0} where
  pub some_same : (a b : X) → Some a ≡ Some b → a ≡ b
  some_same a b same = cc

  pub get_low : (xs : List X) (i : ℕ) (x : X) → slice_get xs i ≡ Some x → i < length xs
  get_low [] i x is = absurd (nothing is)
    where
      nothing : None ≡ Some x → ⊥
      nothing same = cc
  get_low (y ∷ xs) zero x is = omega arith
  get_low (y ∷ xs) (suc i) x is = let low = get_low xs i x is in omega arith

  pub get_there : (xs : List X) (i : ℕ) → i < length xs → (x : X) × (slice_get xs i ≡ Some x)
  get_there [] i low = absurd (omega arith)
  get_there (x ∷ xs) zero low = (x, refl)
  get_there (x ∷ xs) (suc i) low = get_there xs i (omega arith)

  pub get_set_same : (xs : List X) (i : ℕ) (x : X) → i < length xs → slice_get (slice_set xs i x) i ≡ Some x
  get_set_same [] i x low = absurd (omega arith)
  get_set_same (y ∷ xs) zero x low = refl
  get_set_same (y ∷ xs) (suc i) x low = get_set_same xs i x (omega arith)

  pub get_set_other : (xs : List X) (i j : ℕ) (x : X) → j ≢ i → slice_get (slice_set xs i x) j ≡ slice_get xs j
  get_set_other [] i j x other = refl
  get_set_other (y ∷ xs) zero zero x other = absurd (other refl)
  get_set_other (y ∷ xs) zero (suc j) x other = refl
  get_set_other (y ∷ xs) (suc i) zero x other = refl
  get_set_other (y ∷ xs) (suc i) (suc j) x other = get_set_other xs i j x (λ same. other (ap suc same))

  -- a place of a list with one place set has the new value, or what it had
  pub get_set_cases : (P : X → Type 0) (xs : List X) (i j : ℕ) (x y : X) → slice_get (slice_set xs i x) j ≡ Some y
      → (j ≡ i → P x) → (j ≢ i → slice_get xs j ≡ Some y → P y) → P y
  get_set_cases P xs i j x y is here there =
      dite (ℕ_discrete j i)
      (λ same.
      let low : j < length xs = subst (λ (n : ℕ). j < n) (length-set xs i x) (get_low (slice_set xs i x) j y is) in
      let at : slice_get (slice_set xs i x) j ≡ Some x =
      subst (λ (n : ℕ). slice_get (slice_set xs n x) j ≡ Some x) same (get_set_same xs j x low) in
      subst P (some_same x y (sym at ∙ is)) (here same))
      (λ other. there other (sym (get_set_other xs i j x other) ∙ is))

-- ---- claims among entries

opening_claims : (caller : ℕ) (opening : List Told) → IsOpeningBy caller opening → claims opening ≡ []
opening_claims caller opening by =
    ⊎_elim
    (λ (none : opening ≡ []). ap (λ (tale : List Told). claims tale) none)
    (λ (h : (told : Told) × (floor : ℕ) × (pairs : ℕ) × (opening ≡ told ∷ []) × (told.entry ≡ Reopened caller floor pairs)).
    ap (λ (tale : List Told). claims tale) h.3 ∙ one_claims h.0 (ap is_claim h.4))
    by
  where
    one_claims : (told : Told) → is_claim told.entry ≡ false → claims (told ∷ []) ≡ []
    one_claims told other = rw other refl

one_no_claim : (told : Told) → is_claim told.entry ≡ false → claims (told ∷ []) ≡ []
one_no_claim told other = rw other refl

pub entry_claims : (one : Entry) (own : List Told) → is_claim one ≡ false → IsEntry one own → claims own ≡ []
entry_claims one own other h = ap (λ (tale : List Told). claims tale) h.1 ∙ one_no_claim h.0 (ap is_claim h.2 ∙ other)

pub none_claims : (own : List Told) → own ≡ [] → claims own ≡ []
none_claims own none = ap (λ (tale : List Told). claims tale) none

pub rotated_claims : (caller moment : ℕ) (own : List Told) → IsRotatedAt caller moment own → claims own ≡ []
rotated_claims caller moment own h = by_answer h.0 h.1
  where
    by_answer : (answer : Option Answer) → IsRotateEntry caller moment answer own → claims own ≡ []
    by_answer None none = none_claims own none
    by_answer (Some answer) e = ap (λ (tale : List Told). claims tale) e.1 ∙ one_no_claim e.0 (ap is_claim e.2)

pub turn_claims : (lock : Lock Told) (caller : ℕ) (Own : List Told → Type 0) (pass given : Caller Told) (turn : TakesTurn lock caller Own pass given)
    → claims given.made ≡ claims pass.made ++ claims turn.own
turn_claims lock caller Own pass given turn =
    let test : Told → Bool = λ told. is_claim told.entry in
    ap (λ (tale : List Told). claims tale) turn.made
    ∙ (filter-append test pass.made (turn.opening ++ turn.own)
    ∙ ap (λ (tale : List Told). claims pass.made ++ tale)
    (filter-append test turn.opening turn.own ∙ ap (λ (tale : List Told). tale ++ claims turn.own) (opening_claims caller turn.opening turn.by_caller)))

-- ---- turns of a seat

module _ (i : ℕ) (Own : List Told → Type 0) (old new : SeatState) (acts : ActsAt i Own old new) where
  passes_are : new.passes ≡ slice_set old.passes i acts.given
  passes_are = ap (λ (s : SeatState). s.passes) acts.new_is

  pub acts_same : IsSameSeat old new
  acts_same = acts.new_is ∙ ap (λ (passes : List (Caller Told)). record old { passes = passes }) (sym passes_are)

  pub acts_many : length new.passes ≡ length old.passes
  acts_many = ap (λ (passes : List (Caller Told)). length passes) passes_are ∙ length-set old.passes i acts.given

  at_new : (j : ℕ) (pass : Caller Told) → slice_get new.passes j ≡ Some pass → slice_get (slice_set old.passes i acts.given) j ≡ Some pass
  at_new j pass is = ap (λ (passes : List (Caller Told)). slice_get passes j) (sym passes_are) ∙ is

  -- a pass is that of the turn, or as it was
  pub acts_cases : (P : Caller Told → Type 0) (j : ℕ) (pass : Caller Told) → slice_get new.passes j ≡ Some pass
      → (j ≡ i → P acts.given) → (j ≢ i → slice_get old.passes j ≡ Some pass → P pass) → P pass
  acts_cases P j pass is here there = get_set_cases P old.passes i j acts.given pass (at_new j pass is) here there

  pub acts_seated : IsSeated old → IsSeated new
  acts_seated seated = subst IsSeated (sym acts.new_is) (record {
    many = length-set old.passes i acts.given ∙ seated.many;
    idle = λ j lock pass lock_is pass_is. get_set_cases (λ (p : Caller Told). IsIdle lock old.caller p) old.passes i j acts.given pass pass_is
        (λ same. subst (λ (l : Lock Told). IsIdle l old.caller acts.given) (some_same acts.lock lock (sym acts.lock_is ∙ (ap (λ (n : ℕ). slice_get old.locks n) (sym same) ∙ lock_is))) acts.turn.idle)
        (λ other there. seated.idle j lock pass lock_is there);
    saw = λ j lock pass lock_is pass_is. get_set_cases (λ (p : Caller Told). Begins lock.story p.seen) old.passes i j acts.given pass pass_is
        (λ same. longer_begins lock.story acts.pass.seen acts.turn.saw.0 acts.given.seen acts.turn.saw.1
        (seated.saw j lock acts.pass lock_is (ap (λ (n : ℕ). slice_get old.passes n) same ∙ acts.pass_is)))
        (λ other there. seated.saw j lock pass lock_is there);
    over = seated.over;
  })

  pub acts_nothing : ((own : List Told) → Own own → claims own ≡ []) → ClaimsNothing old new
  acts_nothing none = record {
    same = acts_same;
    many = acts_many;
    claims_are = λ j pass given pass_is given_is. acts_cases (λ (p : Caller Told). claims p.made ≡ claims pass.made) j given given_is
        (λ same.
        let was : acts.pass ≡ pass = some_same acts.pass pass (sym acts.pass_is ∙ (ap (λ (n : ℕ). slice_get old.passes n) (sym same) ∙ pass_is)) in
        turn_claims acts.lock old.caller Own acts.pass acts.given acts.turn
        ∙ (ap (λ (tale : List Told). claims acts.pass.made ++ tale) (none acts.turn.own acts.turn.own_is)
        ∙ (append-nil (claims acts.pass.made) ∙ ap (λ (p : Caller Told). claims p.made) was)))
        (λ other there. ap (λ (p : Caller Told). claims p.made) (some_same given pass (sym there ∙ pass_is)));
  }

pub nothing_first : (seat : SeatState) → ClaimsNothing seat seat
nothing_first seat = record {
  same = refl;
  many = refl;
  claims_are = λ i pass given pass_is given_is. ap (λ (p : Caller Told). claims p.made) (some_same given pass (sym given_is ∙ pass_is));
}

pub same_then : (a b c : SeatState) → IsSameSeat a b → IsSameSeat b c → IsSameSeat a c
same_then a b c first second = second ∙ ap (λ (s : SeatState). record s { passes = c.passes }) first

pub nothing_then : (a b c : SeatState) → ClaimsNothing a b → ClaimsNothing b c → ClaimsNothing a c
nothing_then a b c first second = record {
  same = same_then a b c first.same second.same;
  many = second.many ∙ first.many;
  claims_are = λ i pass given pass_is given_is.
      let low : i < length b.passes = subst (λ (n : ℕ). i < n) (sym first.many) (get_low a.passes i pass pass_is) in
      let mid = get_there b.passes i low in
      second.claims_are i mid.0 given mid.1 given_is ∙ first.claims_are i pass mid.0 pass_is mid.1;
}

-- ---- a turn at the lock and the pass of one place

module _ (seat : SeatState) (i : ℕ) (l : Lock Told) (p : Caller Told) (seated : IsSeated seat) (low : i < length seat.locks) (there : p ≡ get_or seat.passes i p) where
  abbrev here : Lock Told
  here = get_or seat.locks i l

  pub lock_at : slice_get seat.locks i ≡ Some (get_or seat.locks i l)
  lock_at = slice_get-get_or seat.locks i l low

  pub pass_at : slice_get seat.passes i ≡ Some p
  pass_at = slice_get-get_or seat.passes i p (let many = seated.many in omega arith) ∙ ap Some (sym there)

  pub idle_at : IsIdle (get_or seat.locks i l) seat.caller p
  idle_at = seated.idle i (get_or seat.locks i l) p lock_at pass_at

  pub saw_at : Begins (get_or seat.locks i l).story p.seen
  saw_at = seated.saw i (get_or seat.locks i l) p lock_at pass_at

  pub over_at : IsOver seat.setup seat.caller (get_or seat.locks i l)
  over_at = seated.over i (get_or seat.locks i l) lock_at

  pub acts_at : (Own : List Told → Type 0) (given : Caller Told) → TakesTurn (get_or seat.locks i l) seat.caller Own p given
      → ActsAt i Own seat (record seat { passes = slice_set seat.passes i given })
  acts_at Own given turn = record {
    lock = get_or seat.locks i l;
    pass = p;
    given = given;
    lock_is = lock_at;
    pass_is = pass_at;
    turn = turn;
    new_is = refl;
  }

  pub seated_at : (Own : List Told → Type 0) (given : Caller Told) → TakesTurn (get_or seat.locks i l) seat.caller Own p given
      → IsSeated (record seat { passes = slice_set seat.passes i given })
  seated_at Own given turn = acts_seated i Own seat (record seat { passes = slice_set seat.passes i given }) (acts_at Own given turn) seated

  -- what was found there was accepted there
  pub accepted_at : (given : Caller Told) (found : Found Item) → IfFound found (WasAccepted (after (get_or seat.locks i l).story given.seen))
      → IfFound found (λ item. (lock : Lock Told) (pass : Caller Told) → slice_get seat.locks i ≡ Some lock → slice_get (slice_set seat.passes i given) i ≡ Some pass
      → WasAccepted (after lock.story pass.seen) item)
  accepted_at given found was = by_found found was
    where
      here_is : (item : Item) → WasAccepted (after (get_or seat.locks i l).story given.seen) item → (lock : Lock Told) (pass : Caller Told) → slice_get seat.locks i ≡ Some lock
          → slice_get (slice_set seat.passes i given) i ≡ Some pass → WasAccepted (after lock.story pass.seen) item
      here_is item accepted lock pass lock_is pass_is =
          let low_pass : i < length seat.passes = let many = seated.many in omega (arith, many, low) in
          let same_lock = some_same (get_or seat.locks i l) lock (sym lock_at ∙ lock_is) in
          let same_pass = some_same given pass (sym (get_set_same seat.passes i given low_pass) ∙ pass_is) in
          subst (λ (z : Lock Told × Caller Told). WasAccepted (after z.0.story z.1.seen) item) (λ k. (same_lock k, same_pass k)) accepted

      by_found : (found : Found Item) → IfFound found (WasAccepted (after (get_or seat.locks i l).story given.seen))
          → IfFound found (λ item. (lock : Lock Told) (pass : Caller Told) → slice_get seat.locks i ≡ Some lock → slice_get (slice_set seat.passes i given) i ≡ Some pass
          → WasAccepted (after lock.story pass.seen) item)
      by_found (kinds.Packet item) accepted = here_is item accepted
      by_found kinds.Waiting none = tt
      by_found kinds.Empty none = tt
      by_found kinds.Drained none = tt

  pub setup_at : (found : Found Item) → IfFound found (λ item. item.setup ≡ (terms_in (get_or seat.locks i l).origin).setup) → IfFound found (λ item. item.setup ≡ seat.setup)
  setup_at (kinds.Packet item) same = same ∙ over_at.setup_is
  setup_at kinds.Waiting none = tt
  setup_at kinds.Empty none = tt
  setup_at kinds.Drained none = tt

-- one turn more of a caller that claims nothing
pub nothing_more : (a b c : SeatState) (i : ℕ) (Own : List Told → Type 0) → ((own : List Told) → Own own → claims own ≡ []) → ClaimsNothing a b → ActsAt i Own b c → ClaimsNothing a c
nothing_more a b c i Own none so_far acts = nothing_then a b c so_far (acts_nothing i Own b c acts none)

pub found_claims : (caller moment : ℕ) (found : Found Item) (own : List Told) → IsTakenBy caller moment found own → claims own ≡ []
found_claims caller moment (kinds.Packet item) own h = entry_claims (Take caller item.number (destination item.out) moment) own refl h
found_claims caller moment kinds.Waiting own none = none_claims own none
found_claims caller moment kinds.Empty own none = none_claims own none
found_claims caller moment kinds.Drained own none = none_claims own none

pub same_locks : (a b : SeatState) → IsSameSeat a b → length b.locks ≡ length a.locks
same_locks a b same = ap (λ (s : SeatState). length s.locks) same

pub ending_claims : (caller : ℕ) (own : List Told) → IsEntry (Done caller) own → claims own ≡ []
ending_claims caller own h = entry_claims (Done caller) own refl h

-- one shard more was drained
pub spent_more : (seat new : SeatState) (n : ℕ) (Own : List Told → Type 0) → ActsAt n Own seat new
    → ((i : ℕ) (lock : Lock Told) (pass : Caller Told) → i < n → slice_get seat.locks i ≡ Some lock → slice_get seat.passes i ≡ Some pass → IsSpent (terms_in lock.origin).callers pass.seen)
    → ((lock : Lock Told) (pass : Caller Told) → slice_get seat.locks n ≡ Some lock → slice_get new.passes n ≡ Some pass → IsSpent (terms_in lock.origin).callers pass.seen)
    → (i : ℕ) (lock : Lock Told) (pass : Caller Told) → i < n + 1 → slice_get new.locks i ≡ Some lock → slice_get new.passes i ≡ Some pass → IsSpent (terms_in lock.origin).callers pass.seen
spent_more seat new n Own acts so_far here i lock pass low lock_is pass_is =
    let locks : new.locks ≡ seat.locks = ap (λ (s : SeatState). s.locks) (acts_same n Own seat new acts) in
    let lock_was : slice_get seat.locks i ≡ Some lock = ap (λ (l : List (Lock Told)). slice_get l i) (sym locks) ∙ lock_is in
    dite (ℕ_discrete i n)
    (λ same. here lock pass (ap (λ (k : ℕ). slice_get seat.locks k) (sym same) ∙ lock_was) (ap (λ (k : ℕ). slice_get new.passes k) (sym same) ∙ pass_is))
    (λ other. acts_cases n Own seat new acts (λ p. IsSpent (terms_in lock.origin).callers p.seen) i pass pass_is
    (λ same. absurd (other same))
    (λ apart was. so_far i lock pass (omega (arith, other)) lock_was was))
