-- What a life promises of each of its nodes, by its seat and by what is left of it.
use Rattle.std.specs.Prelude.{◌≡◌, ⊤, ℕ, List, Option, Result, Ok, Err, length, map}
use Rattle.mix_base.specs.Suites.{SuiteMeaning}
use Rattle.packet_form.specs.Geometry.{packet}
use Rattle.node_run.specs.Accounts.{tales_since}
use Rattle.node_run.specs.Arrivals.{Arrivals}
use Rattle.node_run.specs.Ends.{IsEnd}
use Rattle.node_run.specs.HandOns.{HandOns}
use Rattle.node_run.specs.Lefts.{Staffing}
use Rattle.node_run.specs.Lives.{Lives, Rests}
use Rattle.node_run.specs.Moments.{KeepsMoments}
use Rattle.node_run.specs.Moves.{Moves}
use Rattle.node_run.specs.Openings.{tale_behind, tale_of}
use Rattle.node_run.specs.Seats.{callers_with, setup_in}
use Rattle.node_run.specs.declared.life.seats.LifeEnd.{LifeEnd}
use Rattle.node_run.specs.declared.life.seats.LifeFault.{LifeFault}
use Rattle.node_run.specs.declared.life.seats.LifeFault.TheVariants.{NoThread, Memory}
use Rattle.node_run.specs.declared.life.seats.NodeEnd.{NodeEnd}
use Rattle.node_run.specs.declared.life.seats.NodeSeat.{NodeSeat}

module _ {R S N O K M D Z W : Type 0} where
  -- the node of a seat, with so many workers and this clock: its setup, links and shards are the seat's, and each lock
  -- began with the origin and the tale of its shard
  pub record IsNodeOf {C : Type 0} (workers : ℕ) (clock : C) (seat : NodeSeat R S N O K M D Z W) (node : Staffing N O C) : Type 0 where
    pub setup_is : node.hall.setup ≡ setup_in seat
    pub tales_are : map tale_behind node.hall.locks ≡ map tale_of seat.shards.items
    pub callers_are : node.hall.callers ≡ callers_with workers seat
    pub size_is : node.size ≡ packet seat.geo
    pub clock_is : node.clock ≡ clock
    pub workers_are : node.workers ≡ workers
    pub incoming_are : node.incoming ≡ seat.incoming.items
    pub outgoing_are : node.outgoing ≡ seat.outgoing.items

  module _ {C : Type 0} (workers : ℕ) (clock : C) where
    -- there is a node of this seat that keeps a promise
    pub record OfNode (Promise : Staffing N O C → Type 0) (seat : NodeSeat R S N O K M D Z W) : Type 0 where
      pub node : Staffing N O C
      pub is : IsNodeOf workers clock seat node
      pub kept : Promise node

    -- its shards: see Lives
    abbrev pub HasLife : Type 0 → SuiteMeaning → NodeSeat R S N O K M D Z W → NodeEnd R S N O K M D Z W → Type 0
    HasLife tells suite seat end = OfNode (λ node. Lives tells suite node.hall.locks end.left.value.items end.shards.items) seat

    -- what arrived: see Arrivals
    abbrev pub HasArrivals : SuiteMeaning → (N → Option (List ℕ)) → (N → ℕ) → NodeSeat R S N O K M D Z W → NodeEnd R S N O K M D Z W → Type 0
    HasArrivals suite left faults seat end =
        OfNode (λ node. Arrivals suite left faults node end.left.value.items (tales_since node.hall.locks end.shards.items)) seat

    -- its claims: see Moves
    abbrev pub HasMoves : NodeSeat R S N O K M D Z W → NodeEnd R S N O K M D Z W → Type 0
    HasMoves seat end = OfNode (λ node. Moves (length node.incoming) (tales_since node.hall.locks end.shards.items)) seat

    -- what it handed on: see HandOns
    abbrev pub HasHandOns : Type 0 → SuiteMeaning → (O → Option (List (List ℕ))) → (O → ℕ) → NodeSeat R S N O K M D Z W → NodeEnd R S N O K M D Z W → Type 0
    HasHandOns tells suite given faults seat end =
        OfNode (λ node. HandOns suite given faults node tells end.left.value.items (tales_since node.hall.locks end.shards.items)) seat

    -- its moments: see KeepsMoments
    abbrev pub HasMoments : (C → ℕ → Type 0) → NodeSeat R S N O K M D Z W → NodeEnd R S N O K M D Z W → Type 0
    HasMoments may_give seat end =
        OfNode (λ node. KeepsMoments (may_give clock) end.left.value.items (tales_since node.hall.locks end.shards.items)) seat

  -- what lasts: see Rests
  abbrev pub HasRest : Type 0 → NodeEnd R S N O K M D Z W → Type 0
  HasRest tells end = Rests tells end.shards.items

  -- what comes back besides its shards: see IsEnd
  abbrev pub HasGivenBack : NodeEnd R S N O K M D Z W → Type 0
  HasGivenBack end = IsEnd end.left.value.items end.incoming.items end.outgoing.items end.local.items end.unsent end.dropped

  -- ---- a life that didn't begin

  -- the seats that came back
  abbrev pub seats_in : LifeFault R S N O K M D Z W → List (NodeSeat R S N O K M D Z W)
  seats_in (NoThread seats) = seats.items
  seats_in (Memory seats) = seats.items

  -- a thread couldn't be started
  abbrev pub HasNoThread : Result (LifeEnd R S N O K M D Z W) (LifeFault R S N O K M D Z W) → Type 0
  HasNoThread (Err (NoThread seats)) = ⊤
  HasNoThread _ = ⊥
