-- The connectors, the local connector and the rotator of a node on their way, and what they have done so far.
use Rattle.std.specs.Prelude.{◌≡◌, ℕ, List}
use Rattle.mix_base.specs.Suites.{SuiteMeaning}
use Rattle.mix_shard.specs.Items.{Item}
use Rattle.node_actors.specs.Handing.{HandsOver, KeepsLocal, LinkOutState}
use Rattle.node_actors.specs.Seats.{ClaimsNothing, MovesAt, SeatState}
use Rattle.node_actors.specs.Takings.{HasTaken, TakerState}

-- the connector of the link to a hop: what it took, its clock, the hop, and its link as it was at first and as it is now
pub record ConnectorState (C : Type 0) : Type 0 where
  pub taker : TakerState
  pub clock : C
  pub hop : List ℕ
  pub was : LinkOutState
  pub link : LinkOutState

-- the local connector of a node with links to these hops: what it took, its clock, and what it has kept
pub record KeeperState (C : Type 0) : Type 0 where
  pub taker : TakerState
  pub clock : C
  pub hops : List (List ℕ)
  pub local : List Item

-- the rotator: its seat and its clock
pub record RotatorState (C : Type 0) : Type 0 where
  pub seat : SeatState
  pub clock : C

module _ {C : Type 0} (suite : SuiteMeaning) (may_give : C → ℕ → Type 0) where
  -- it took at moments of its clock alone, for its hop alone, and handed over what it took
  pub record HasConnected (connector : ConnectorState C) : Type 0 where
    pub taken : HasTaken suite connector.taker
    pub moves : MovesAt (may_give connector.clock) connector.taker.seat.passes
    pub hands : HandsOver connector.hop connector.was connector.link connector.taker.log

  -- it took at moments of its clock alone, nothing that goes over a link, and kept what it took
  pub record HasKept (keeper : KeeperState C) : Type 0 where
    pub taken : HasTaken suite keeper.taker
    pub moves : MovesAt (may_give keeper.clock) keeper.taker.seat.passes
    pub keeps : KeepsLocal keeper.hops keeper.local keeper.taker.log

module _ {C : Type 0} where
  -- nothing was claimed, and its clock, its hop and what its link was at first stay
  pub record GoesOnConnecting (old new : ConnectorState C) : Type 0 where
    pub nothing : ClaimsNothing old.taker.seat new.taker.seat
    pub clock : new.clock ≡ old.clock
    pub hop : new.hop ≡ old.hop
    pub was : new.was ≡ old.was

  -- nothing was claimed, and its clock and the hops stay
  pub record GoesOnKeeping (old new : KeeperState C) : Type 0 where
    pub nothing : ClaimsNothing old.taker.seat new.taker.seat
    pub clock : new.clock ≡ old.clock
    pub hops : new.hops ≡ old.hops

  -- nothing was claimed, and its clock stays
  pub record GoesOnRotating (old new : RotatorState C) : Type 0 where
    pub nothing : ClaimsNothing old.seat new.seat
    pub clock : new.clock ≡ old.clock
