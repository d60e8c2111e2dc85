-- What an actor leaves of its seat, by what its run kept of it.
use Rattle.std.proofs.Common.{◌≡◌, ℕ, List, sym, ap, subst, ◌∙◌}
use Rattle.mix_base.specs.Suites.{SuiteMeaning}
use Rattle.mix_shard.specs.Items.{Item}
use Rattle.mix_shard.specs.declared.entries.Told.{Told}
use Rattle.turn_lock.specs.Seen.{Caller}
use Rattle.node_actors.specs.Fates.{HasDealt}
use Rattle.node_actors.specs.Leaving.{LeavesClaims, LeavesDrained, LeavesSeat, seat_with}
use Rattle.node_actors.specs.Seats.{AllSpent, ClaimsNothing, IsSameSeat, IsSeated, MovesAt, MovesNothing, SeatState}
use Rattle.node_actors.specs.Takings.{HasTaken}
use Rattle.node_actors.specs.Logging.{LeavesDealer, LeavesTaker}
use Rattle.node_actors.specs.declared.actors.fates.Dealt.{Dealt}
use Rattle.node_actors.specs.declared.actors.takings.Taking.{Taking}

module _ (old new : SeatState) (passes : List (Caller Told)) (same : IsSameSeat old new) (passes_are : passes ≡ new.passes) where
  -- the seat with the passes that were left is the one that the run left
  left_is : new ≡ seat_with old passes
  left_is = same ∙ ap (λ (ps : List (Caller Told)). seat_with old ps) (sym passes_are)

  pub leaves_seat : IsSeated new → LeavesSeat old passes
  leaves_seat seated = subst IsSeated left_is seated

  pub leaves_claims : IsSeated new → ClaimsNothing old new → LeavesClaims old passes
  leaves_claims seated nothing = record { seated = subst IsSeated left_is seated; nothing = subst (λ (s : SeatState). ClaimsNothing old s) left_is nothing }

  pub leaves_drained : IsSeated new → ClaimsNothing old new → AllSpent new → LeavesDrained old passes
  leaves_drained seated nothing spent = record {
    seated = subst IsSeated left_is seated;
    nothing = subst (λ (s : SeatState). ClaimsNothing old s) left_is nothing;
    spent = subst AllSpent left_is spent;
  }

  -- its log is that of the seat with the passes that were left
  pub leaves_log : (P : SeatState → Type 0) → P new → P (seat_with old passes)
  leaves_log P logged = subst P left_is logged

  pub leaves_moves : (may : ℕ → Type 0) → MovesAt may new.passes → MovesAt may passes
  leaves_moves may moves = subst (MovesAt may) (sym passes_are) moves

  pub leaves_dealer : (suite : SuiteMeaning) (log : List (Dealt Item)) (dropped : ℕ) → IsSeated new → MovesNothing new.passes
      → HasDealt suite (record { seat = new; log = log; dropped = dropped }) → LeavesDealer suite old passes log dropped
  leaves_dealer suite log dropped seated moves dealt = record {
    seated = leaves_seat seated;
    moves = leaves_moves (λ moment. ⊥) moves;
    dealt = leaves_log (λ s. HasDealt suite (record { seat = s; log = log; dropped = dropped })) dealt;
  }

  pub leaves_taker : (suite : SuiteMeaning) (may : ℕ → Type 0) (log : List (Taking Item)) (unsent : ℕ) → IsSeated new → ClaimsNothing old new → MovesAt may new.passes
      → HasTaken suite (record { seat = new; log = log; unsent = unsent }) → LeavesTaker suite may old passes log unsent
  leaves_taker suite may log unsent seated nothing moves taken = record {
    claims = leaves_claims seated nothing;
    moves = leaves_moves may moves;
    taken = leaves_log (λ s. HasTaken suite (record { seat = s; log = log; unsent = unsent })) taken;
  }
