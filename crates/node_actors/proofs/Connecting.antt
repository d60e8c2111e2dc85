-- A connector, the local connector and the rotator go on.
use Rattle.std.proofs.Common.{◌≡◌, ℕ, ◌-◌, ◌^◌, ◌+◌, List, [], ◌∷◌, ◌++◌, refl, subst, sym, ◌∙◌, min, true}
use Rattle.std.specs.Prelude.{All}
use Rattle.mix_base.specs.Suites.{SuiteMeaning}
use Rattle.due_queue.specs.declared.destinations.Dest.TheVariants.{Hop, Local}
use Rattle.mix_shard.specs.Items.{destination, IsHeld, Item}
use Rattle.node_actors.specs.Connecting.{ConnectorState, GoesOnConnecting, GoesOnKeeping, GoesOnRotating, HasConnected, HasKept, KeeperState, RotatorState}
use Rattle.node_actors.specs.Found.{IsNoPacket, IsTakenBy, IsUnlinked}
use Rattle.node_actors.specs.Handing.{kept_where, LinkOutState, RoseBy, sent_where}
use Rattle.node_actors.specs.Seats.{ActsAt, HasMadeNothing, SeatState}
use Rattle.node_actors.specs.Takings.{not_sent}
use Rattle.node_actors.specs.declared.actors.takings.Taking.{Taking}
use Rattle.node_actors.specs.declared.actors.turns.Found.{Found}
use Rattle.node_actors.specs.declared.actors.turns.Found.TheVariants as kinds
use Rattle.node_actors.proofs.HandedOn.{Given, hands_first, hands_on, keeps_first, keeps_on}
use Rattle.node_actors.proofs.Moments.{found_moments, moves_first, moves_on}
use Rattle.node_actors.proofs.Seating.{nothing_first, nothing_then}
use Rattle.node_actors.proofs.TakeLogs.{nothing_taken, taken_first, taken_on, WasAcceptedAt}

module _ {C : Type 0} (suite : SuiteMeaning) (may_give : C → ℕ → Type 0) where
  -- ---- a connector

  pub connected_first : (seat : SeatState) (clock : C) (hop : List ℕ) (was link : LinkOutState) → was ≡ link → HasMadeNothing seat
      → HasConnected suite may_give (record { taker = record { seat = seat; log = []; unsent = 0 }; clock = clock; hop = hop; was = was; link = link })
  connected_first seat clock hop was link same nothing =
      subst (λ (l : LinkOutState). HasConnected suite may_give (record { taker = record { seat = seat; log = []; unsent = 0 }; clock = clock; hop = hop; was = was; link = l })) same
      (record { taken = taken_first suite seat nothing; moves = moves_first (may_give clock) seat nothing; hands = hands_first hop was })

  module _ (old : ConnectorState C) (seat : SeatState) (i moment : ℕ) (has : HasConnected suite may_give old) (may : may_give old.clock moment) where
    -- a packet more was taken
    pub connected_on : (item : Item) (unsent : ℕ) (taking : Taking Item) (link : LinkOutState) → taking.shard ≡ i → taking.item.value ≡ item → IsHeld suite item → item.setup ≡ old.taker.seat.setup
        → WasAcceptedAt old.taker.seat seat i item → destination item.out ≡ Hop old.hop → ActsAt i (IsTakenBy old.taker.seat.caller moment (kinds.Packet item)) old.taker.seat seat
        → Given old.link.given link.given (sent_where taking.sent item.out) → RoseBy (not_sent taking.sent) old.link.faults link.faults
        → unsent ≡ min (old.taker.unsent + not_sent taking.sent) (2 ^ 64 - 1)
        → HasConnected suite may_give (record old { taker = record { seat = seat; log = old.taker.log ++ taking ∷ []; unsent = unsent }; link = link })
    connected_on item unsent taking link here item_is held under accepted to acts given failed count =
        let Own = IsTakenBy old.taker.seat.caller moment (kinds.Packet item) in
        record {
          taken = taken_on suite old.taker seat item moment unsent taking has.taken item_is held under (subst (λ (n : ℕ). WasAcceptedAt old.taker.seat seat n item) (sym here) accepted)
              (subst (λ (n : ℕ). ActsAt n Own old.taker.seat seat) (sym here) acts) count;
          moves = moves_on (may_give old.clock) i Own old.taker.seat seat acts
              (λ own h. found_moments (may_give old.clock) old.taker.seat.caller moment (kinds.Packet item) own may h) has.moves;
          hands = hands_on old.hop old.was old.link link old.taker.log taking has.hands
              (subst (λ (x : Item). destination x.out ≡ Hop old.hop) (sym item_is) to)
              (subst (λ (x : Item). Given old.link.given link.given (sent_where taking.sent x.out)) (sym item_is) given) failed;
        }

    -- nothing was taken
    pub connected_still : (found : Found Item) → IsNoPacket found → ActsAt i (IsTakenBy old.taker.seat.caller moment found) old.taker.seat seat
        → HasConnected suite may_give (record old { taker = record { seat = seat; log = old.taker.log; unsent = old.taker.unsent } })
    connected_still found none acts = record {
      taken = nothing_taken suite old.taker seat i moment found has.taken none acts;
      moves = moves_on (may_give old.clock) i (IsTakenBy old.taker.seat.caller moment found) old.taker.seat seat acts
          (λ own h. found_moments (may_give old.clock) old.taker.seat.caller moment found own may h) has.moves;
      hands = has.hands;
    }

  -- ---- the local connector

  pub kept_first : (seat : SeatState) (clock : C) (hops : List (List ℕ)) (local : List Item) → HasMadeNothing seat → local ≡ []
      → HasKept suite may_give (record { taker = record { seat = seat; log = []; unsent = 0 }; clock = clock; hops = hops; local = local })
  kept_first seat clock hops local nothing none =
      subst (λ (items : List Item). HasKept suite may_give (record { taker = record { seat = seat; log = []; unsent = 0 }; clock = clock; hops = hops; local = items })) (sym none)
      (record { taken = taken_first suite seat nothing; moves = moves_first (may_give clock) seat nothing; keeps = keeps_first hops })

  module _ (old : KeeperState C) (seat : SeatState) (i moment : ℕ) (has : HasKept suite may_give old) (may : may_give old.clock moment) where
    pub kept_on : (item : Item) (unsent : ℕ) (taking : Taking Item) (local : List Item) → taking.shard ≡ i → taking.item.value ≡ item → IsHeld suite item → item.setup ≡ old.taker.seat.setup
        → WasAcceptedAt old.taker.seat seat i item → IsUnlinked old.hops (destination item.out)
        → ActsAt i (IsTakenBy old.taker.seat.caller moment (kinds.Packet item)) old.taker.seat seat → local ≡ old.local ++ kept_where taking.sent item
        → All (λ x. destination x.out ≡ Local) (kept_where taking.sent item) → (destination item.out ≡ Local → taking.sent ≡ true) → unsent ≡ min (old.taker.unsent + not_sent taking.sent) (2 ^ 64 - 1)
        → HasKept suite may_give (record old { taker = record { seat = seat; log = old.taker.log ++ taking ∷ []; unsent = unsent }; local = local })
    kept_on item unsent taking local here item_is held under accepted unlinked acts kept own none_lost count =
        let Own = IsTakenBy old.taker.seat.caller moment (kinds.Packet item) in
        record {
          taken = taken_on suite old.taker seat item moment unsent taking has.taken item_is held under (subst (λ (n : ℕ). WasAcceptedAt old.taker.seat seat n item) (sym here) accepted)
              (subst (λ (n : ℕ). ActsAt n Own old.taker.seat seat) (sym here) acts) count;
          moves = moves_on (may_give old.clock) i Own old.taker.seat seat acts
              (λ tale h. found_moments (may_give old.clock) old.taker.seat.caller moment (kinds.Packet item) tale may h) has.moves;
          keeps = keeps_on old.hops old.local local old.taker.log taking has.keeps
              (subst (λ (x : Item). IsUnlinked old.hops (destination x.out)) (sym item_is) unlinked)
              (subst (λ (x : Item). local ≡ old.local ++ kept_where taking.sent x) (sym item_is) kept)
              (subst (λ (x : Item). All (λ y. destination y.out ≡ Local) (kept_where taking.sent x)) (sym item_is) own)
              (subst (λ (x : Item). destination x.out ≡ Local → taking.sent ≡ true) (sym item_is) none_lost);
        }

    pub kept_still : (found : Found Item) → IsNoPacket found → ActsAt i (IsTakenBy old.taker.seat.caller moment found) old.taker.seat seat
        → HasKept suite may_give (record old { taker = record { seat = seat; log = old.taker.log; unsent = old.taker.unsent } })
    kept_still found none acts = record {
      taken = nothing_taken suite old.taker seat i moment found has.taken none acts;
      moves = moves_on (may_give old.clock) i (IsTakenBy old.taker.seat.caller moment found) old.taker.seat seat acts
          (λ own h. found_moments (may_give old.clock) old.taker.seat.caller moment found own may h) has.moves;
      keeps = has.keeps;
    }

-- ---- what stays

module _ {C : Type 0} where
  pub connecting_first : (s : ConnectorState C) → GoesOnConnecting s s
  connecting_first s = record { nothing = nothing_first s.taker.seat; clock = refl; hop = refl; was = refl }

  pub connecting_then : (a b c : ConnectorState C) → GoesOnConnecting a b → GoesOnConnecting b c → GoesOnConnecting a c
  connecting_then a b c first second = record {
    nothing = nothing_then a.taker.seat b.taker.seat c.taker.seat first.nothing second.nothing;
    clock = second.clock ∙ first.clock;
    hop = second.hop ∙ first.hop;
    was = second.was ∙ first.was;
  }

  pub keeping_first : (s : KeeperState C) → GoesOnKeeping s s
  keeping_first s = record { nothing = nothing_first s.taker.seat; clock = refl; hops = refl }

  pub keeping_then : (a b c : KeeperState C) → GoesOnKeeping a b → GoesOnKeeping b c → GoesOnKeeping a c
  keeping_then a b c first second = record {
    nothing = nothing_then a.taker.seat b.taker.seat c.taker.seat first.nothing second.nothing;
    clock = second.clock ∙ first.clock;
    hops = second.hops ∙ first.hops;
  }

  pub rotating_first : (s : RotatorState C) → GoesOnRotating s s
  rotating_first s = record { nothing = nothing_first s.seat; clock = refl }

  pub rotating_then : (a b c : RotatorState C) → GoesOnRotating a b → GoesOnRotating b c → GoesOnRotating a c
  rotating_then a b c first second = record {
    nothing = nothing_then a.seat b.seat c.seat first.nothing second.nothing;
    clock = second.clock ∙ first.clock;
  }
