-- The threads of a life: the actors of all nodes, then the feeds; and what they leave.
use Rattle.std.specs.Prelude.{◌≡◌, ⊤, ℕ, List, ◌++◌, Option, map, sum_by}
use Rattle.std.specs.Global.{Vec}
use Rattle.std.specs.List.{AllZip}
use Rattle.mix_base.specs.Suites.{SuiteMeaning}
use Rattle.mix_shard.specs.Items.{Item}
use Rattle.mix_shard.specs.declared.entries.Told.{Told}
use Rattle.turn_lock.specs.Seen.{Caller}
use Rattle.node_actors.specs.Acting.{passes_of}
use Rattle.node_actors.specs.Handing.{link_out}
use Rattle.node_actors.specs.Logging.{LeavesFeed}
use Rattle.node_actors.specs.declared.actors.crew.NodeActor.{NodeActor}
use Rattle.node_actors.specs.declared.actors.crew.NodeActor.TheVariants.{Feeds}
use Rattle.node_actors.specs.declared.actors.feeds.Feed.{Feed}
use Rattle.node_actors.specs.declared.actors.works.Left.{Left}
use Rattle.node_actors.specs.declared.actors.works.Work.TheVariants.{Fed}
use Rattle.node_run.specs.Houses.{node_of}
use Rattle.node_run.specs.Lefts.{AreLeft}
use Rattle.node_run.specs.Openings.{AreFreshHands}
use Rattle.node_run.specs.Parts.{Parted}
use Rattle.node_run.specs.Seats.{callers_with}
use Rattle.node_run.specs.Staffs.{AreStaff}
use Rattle.node_run.specs.declared.life.houses.House.{House}
use Rattle.node_run.specs.declared.life.seats.NodeSeat.{NodeSeat}

-- how many callers all nodes have
abbrev pub callers_in : {R S N O K M D Z W : Type 0} → ℕ → List (NodeSeat R S N O K M D Z W) → ℕ
callers_in workers nodes = sum_by (callers_with workers) nodes

-- how many callers these nodes have, which were opened
abbrev pub staff_in : {R S N O K M D Z W : Type 0} → List (House R S N O K M D Z W) → ℕ
staff_in houses = sum_by (λ house. house.hall.callers) houses

module _ {H R S N O C G K M D Z W : Type 0} where
  -- the actor of a feed
  abbrev pub IsFeeder : Feed O → NodeActor H R S N O C G K M D Z W → Type 0
  IsFeeder feed (Feeds feeder) = feeder.feed ≡ feed
  IsFeeder feed _ = ⊥

  abbrev pub AreFeeders : List (Feed O) → List (NodeActor H R S N O C G K M D Z W) → Type 0
  AreFeeders feeds actors = AllZip IsFeeder feeds actors

  -- their actors are behind the others
  pub record AddsFeeders (feeds : List (Feed O)) (old new : List (NodeActor H R S N O C G K M D Z W)) : Type 0 where
    pub added : List (NodeActor H R S N O C G K M D Z W)
    pub new_is : new ≡ old ++ added
    pub are : AreFeeders feeds added

  -- the passes of an actor that wasn't run
  abbrev pub IsHandOf : NodeActor H R S N O C G K M D Z W → Vec (Caller Told) → Type 0
  IsHandOf actor hand = hand.items ≡ passes_of actor

  module _ (suite : SuiteMeaning) (may_give : C → ℕ → Type 0) (left : N → Option (List ℕ)) (in_faults : N → ℕ) (given : O → Option (List (List ℕ))) (out_faults : O → ℕ)
      (clock : C) where
    -- the actors of a node's callers
    abbrev pub IsStaffOf : House R S N O K M D Z W → List (NodeActor H R S N O C G K M D Z W) → Type 0
    IsStaffOf house actors = AreStaff suite may_give left in_faults given out_faults (node_of clock house) actors

    -- those of all nodes, and of the feeds
    abbrev pub AreCrew : List (House R S N O K M D Z W) → List (Feed O) → List (NodeActor H R S N O C G K M D Z W) → Type 0
    AreCrew houses feeds actors = Parted IsStaffOf (AreFeeders feeds) houses actors

module _ {N O : Type 0} where
  -- what a feed left
  abbrev pub IsFed : (O → Option (List (List ℕ))) → (O → ℕ) → Feed O → Left (Caller Told) Item N O → Type 0
  IsFed given faults feed gave =
      LeavesFeed given faults (map (λ packet. packet.items) feed.packets.items) (link_out given faults feed.link) gave.passes.items gave.work

  abbrev pub AreFed : (O → Option (List (List ℕ))) → (O → ℕ) → List (Feed O) → List (Left (Caller Told) Item N O) → Type 0
  AreFed given faults feeds lefts = AllZip (IsFed given faults) feeds lefts

  -- the link that it left
  abbrev pub HasLink : Left (Caller Told) Item N O → O → Type 0
  HasLink gave link = gave.work ≡ Fed link

  abbrev pub IsFeed : Left (Caller Told) Item N O → Type 0
  IsFeed gave = (link : O) × HasLink gave link

module _ {R S N O K M D Z W : Type 0} where
  module _ {C : Type 0} (suite : SuiteMeaning) (may_give : C → ℕ → Type 0) (left : N → Option (List ℕ)) (in_faults : N → ℕ) (given : O → Option (List (List ℕ))) (out_faults : O → ℕ)
      (clock : C) where
    -- what the callers of a node left
    abbrev pub AreLeftIn : House R S N O K M D Z W → List (Left (Caller Told) Item N O) → Type 0
    AreLeftIn house lefts = AreLeft suite left in_faults given out_faults may_give (node_of clock house) lefts

    -- what those of all nodes left, and the feeds
    abbrev pub AreAllLeft : List (House R S N O K M D Z W) → List (Feed O) → List (Left (Caller Told) Item N O) → Type 0
    AreAllLeft houses feeds lefts = Parted AreLeftIn (AreFed given out_faults feeds) houses lefts

  -- ---- where none was run

  -- the passes of a node's callers, as they were made
  abbrev pub AreHandsIn : House R S N O K M D Z W → List (Vec (Caller Told)) → Type 0
  AreHandsIn house hands = AreFreshHands house.hall.locks house.hall.callers hands

  abbrev pub AreAllHands : List (House R S N O K M D Z W) → List (Vec (Caller Told)) → Type 0
  AreAllHands houses hands = Parted AreHandsIn (λ _. ⊤) houses hands
