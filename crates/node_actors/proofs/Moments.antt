-- The moments of a caller's takings and rotations, over its turns.
use Rattle.std.proofs.Common.{◌≡◌, ℕ, zero, suc, List, [], ◌∷◌, ◌++◌, sym, subst, ⊎_elim, arith, Option, Some, None}
use Rattle.std.specs.Prelude.{All}
use Rattle.std.proofs.lemmas.List.Elements.{All-append}
use Rattle.mix_shard.specs.Items.{Item, destination}
use Rattle.mix_shard.specs.Shards.{IsEntry, IsOpeningBy, IsRotateEntry}
use Rattle.mix_shard.specs.declared.entries.Answer.{Answer}
use Rattle.mix_shard.specs.declared.entries.Entry.{Entry}
use Rattle.mix_shard.specs.declared.entries.Entry.TheVariants.{Done, Reopened, Rotate, Take}
use Rattle.mix_shard.specs.declared.entries.Told.{Told}
use Rattle.node_actors.specs.Fates.{IsClaimOf, Settles}
use Rattle.node_actors.specs.Found.{IsTakenBy}
use Rattle.node_actors.specs.Seats.{ActsAt, HasMadeNothing, IsMomentOf, MovesAt, MovesNothing, SeatState}
use Rattle.node_actors.specs.Turns.{IsRotatedAt}
use Rattle.node_actors.specs.declared.actors.fates.Fate.{Fate}
use Rattle.node_actors.specs.declared.actors.fates.Fate.TheVariants.{Claimed, Dropped, Refused, Unkeyed}
use Rattle.node_actors.specs.declared.actors.turns.Found.{Found}
use Rattle.node_actors.specs.declared.actors.turns.Found.TheVariants as kinds
use Rattle.node_actors.proofs.Seating.{acts_cases}

module _ (may : ℕ → Type 0) where
  abbrev pub AreMoments : List Told → Type 0
  AreMoments tale = All (λ told. IsMomentOf may told.entry) tale

  none_moments : AreMoments []
  none_moments k d low = absurd (omega (arith, low))

  one_moment : (told : Told) → IsMomentOf may told.entry → AreMoments (told ∷ [])
  one_moment told is zero d low = is
  one_moment told is (suc k) d low = absurd (omega (arith, low))

  pub no_moments : (own : List Told) → own ≡ [] → AreMoments own
  no_moments own none = subst AreMoments (sym none) none_moments

  pub entry_moment : (one : Entry) (own : List Told) → IsMomentOf may one → IsEntry one own → AreMoments own
  entry_moment one own is h = subst AreMoments (sym h.1) (one_moment h.0 (subst (IsMomentOf may) (sym h.2) is))

  opening_moments : (caller : ℕ) (opening : List Told) → IsOpeningBy caller opening → AreMoments opening
  opening_moments caller opening by =
      ⊎_elim
      (λ (none : opening ≡ []). no_moments opening none)
      (λ (h : (told : Told) × (floor : ℕ) × (pairs : ℕ) × (opening ≡ told ∷ []) × (told.entry ≡ Reopened caller floor pairs)).
      entry_moment (Reopened caller h.1 h.2) opening tt (h.0, h.3, h.4))
      by

  pub found_moments : (caller moment : ℕ) (found : Found Item) (own : List Told) → may moment → IsTakenBy caller moment found own → AreMoments own
  found_moments caller moment (kinds.Packet item) own is h = entry_moment (Take caller item.number (destination item.out) moment) own is h
  found_moments caller moment kinds.Waiting own is none = no_moments own none
  found_moments caller moment kinds.Empty own is none = no_moments own none
  found_moments caller moment kinds.Drained own is none = no_moments own none

  pub rotated_moments : (caller moment : ℕ) (own : List Told) → may moment → IsRotatedAt caller moment own → AreMoments own
  rotated_moments caller moment own is h = by_answer h.0 h.1
    where
      by_answer : (answer : Option Answer) → IsRotateEntry caller moment answer own → AreMoments own
      by_answer None none = no_moments own none
      by_answer (Some answer) e = entry_moment (Rotate caller moment answer) own is e

  -- a caller that has done nothing
  pub moves_first : (seat : SeatState) → HasMadeNothing seat → MovesAt may seat.passes
  moves_first seat nothing i pass is = no_moments pass.made (nothing i pass is)

  -- one turn more
  pub moves_on : (i : ℕ) (Own : List Told → Type 0) (old new : SeatState) → ActsAt i Own old new → ((own : List Told) → Own own → AreMoments own)
      → MovesAt may old.passes → MovesAt may new.passes
  moves_on i Own old new acts own so_far j pass is =
      acts_cases i Own old new acts (λ p. AreMoments p.made) j pass is
      (λ same. subst AreMoments (sym acts.turn.made)
      (All-append (λ (t : Told). IsMomentOf may t.entry) acts.pass.made (acts.turn.opening ++ acts.turn.own) (so_far i acts.pass acts.pass_is)
      (All-append (λ (t : Told). IsMomentOf may t.entry) acts.turn.opening acts.turn.own (opening_moments old.caller acts.turn.opening acts.turn.by_caller)
      (own acts.turn.own acts.turn.own_is))))
      (λ other there. so_far j pass there)

-- who deals with packets takes and rotates nothing
abbrev never : ℕ → Type 0
never moment = ⊥

pub settled_moves : (fate : Fate Item) (old new : SeatState) → Settles fate old new → MovesNothing old.passes → MovesNothing new.passes
settled_moves (Claimed item) old new acts so_far =
    moves_on never _ _ old new acts
    (λ own (h : (told : Told) × (own ≡ told ∷ []) × IsClaimOf old.caller item.value told). entry_moment never _ own tt (h.0, h.1, h.2.entry_is)) so_far
settled_moves Refused old new same so_far = subst (λ (s : SeatState). MovesNothing s.passes) (sym same) so_far
settled_moves Unkeyed old new same so_far = subst (λ (s : SeatState). MovesNothing s.passes) (sym same) so_far
settled_moves Dropped old new either so_far =
    ⊎_elim
    (λ (same : new ≡ old). subst (λ (s : SeatState). MovesNothing s.passes) (sym same) so_far)
    (λ (h : (i : ℕ) × ActsAt i (λ own. own ≡ []) old new). moves_on never h.0 (λ own. own ≡ []) old new h.1 (no_moments never) so_far)
    either

pub ended_moves : (i : ℕ) (old new : SeatState) → ActsAt i (IsEntry (Done old.caller)) old new → MovesNothing old.passes → MovesNothing new.passes
ended_moves i old new acts so_far = moves_on never i (IsEntry (Done old.caller)) old new acts (λ own h. entry_moment never (Done old.caller) own tt h) so_far
