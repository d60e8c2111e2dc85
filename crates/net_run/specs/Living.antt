-- A life of the network's nodes, and what it left.
use Rattle.std.specs.Prelude.{◌≡◌, ⊤, ℕ, Bool, false, All, List, Option, map}
use Rattle.std.specs.Global.{Vec}
use Rattle.std.specs.List.{AllZip, list_any}
use Rattle.mix_base.specs.Suites.{SuiteMeaning}
use Rattle.replay_disk.specs.Disk.{RackState}
use Rattle.lab_text.specs.declared.settings.Config.{Config}
use Rattle.lab_text.specs.declared.statuses.Status.{Status}
use Rattle.lab_text.specs.declared.statuses.Status.TheVariants.{Memory, NoThread}
use Rattle.mix_shard.specs.Origins.{origin_of}
use Rattle.mix_shard.specs.Shards.{ShardState}
use Rattle.node_run.specs.Promises.{HasArrivals, HasGivenBack, HasHandOns, HasLife, HasMoments, HasMoves, HasRest}
use Rattle.node_run.specs.Seats.{setup_in}
use Rattle.node_run.specs.declared.life.seats.NodeEnd.{NodeEnd}
use Rattle.node_run.specs.declared.life.seats.NodeSeat.{NodeSeat}
use Rattle.net_run.specs.Nodes.{AreNodesOpened}
use Rattle.net_run.specs.Parting.{has_dropped, local_in, takes_left}
use Rattle.net_run.specs.Seats.{shards_in}
use Rattle.net_run.specs.Sites.{IsEmptyFor}
use Rattle.net_run.specs.declared.living.Lived.{Lived}
use Rattle.net_run.specs.declared.living.Rooms.{Rooms}
use Rattle.net_run.specs.declared.nodes.OpenNode.{OpenNode}
use Rattle.net_run.specs.declared.sites.Site.{Site}

-- how a life ends that leaves nothing
abbrev pub StopsLife : Status → Type 0
StopsLife NoThread = ⊤
StopsLife Memory = ⊤
StopsLife _ = ⊥

-- what each of these shards began as
abbrev pub origins_in : List ShardState → List (List (List ℕ))
origins_in shards = map origin_of shards

module _ {R S K M D Z W : Type 0} where
  -- the nodes of some settings, as they were opened on these sites
  abbrev pub WereOpened : (R → RackState) → Type 0 → SuiteMeaning → List (Site R) → List (OpenNode R S K M D Z W) → Type 0
  WereOpened state tells suite sites nodes = (config : Config) × AreNodesOpened state tells suite config 0 sites nodes

  -- shards that began as those of the nodes
  abbrev pub AreOriginsOf : List (OpenNode R S K M D Z W) → List (Vec ShardState) → Type 0
  AreOriginsOf nodes lists = map (λ list. origins_in list.items) lists ≡ map (λ node. origins_in node.shards.items) nodes

-- room for so many nodes
pub record HasRoomsFor {R S N O K M D Z W : Type 0} (nodes : ℕ) (rooms : Rooms R S N O K M D Z W) : Type 0 where
  pub seats : IsEmptyFor nodes rooms.seats
  pub waiting : IsEmptyFor nodes rooms.waiting
  pub shards : IsEmptyFor nodes rooms.shards
  pub locals : IsEmptyFor nodes rooms.locals

-- what is left of nodes that have lived: their recipients' packets, and the counts of their tales; none met want of memory
pub record HasLeft {R S N O K M D Z W : Type 0} (ends : List (NodeEnd R S N O K M D Z W)) (lived : Lived S K M D Z W) : Type 0 where
  pub locals_are : lived.locals.items ≡ map local_in ends
  pub takes_are : map (λ takes. takes.items) lived.takes.items ≡ map takes_left ends
  pub none_dropped : list_any has_dropped ends ≡ false

-- the nodes have lived, with what a life promises of each, and left this
pub record HasLived {R S N O K M D Z W C : Type 0} (tells : Type 0) (suite : SuiteMeaning) (may_give : C → ℕ → Type 0) (left : N → Option (List ℕ)) (in_faults : N → ℕ)
    (given : O → Option (List (List ℕ))) (out_faults : O → ℕ) (workers : ℕ) (clock : C) (nodes : List (OpenNode R S K M D Z W)) (lived : Lived S K M D Z W) : Type 0 where
  pub seats : List (NodeSeat R S N O K M D Z W)
  pub ends : List (NodeEnd R S N O K M D Z W)
  pub shards_are : map shards_in seats ≡ map (λ node. node.shards.items) nodes
  pub setups_are : map setup_in seats ≡ map (λ node. node.plan.setup) nodes
  pub life : AllZip (HasLife workers clock tells suite) seats ends
  pub arrivals : AllZip (HasArrivals workers clock suite left in_faults) seats ends
  pub moves : AllZip (HasMoves workers clock) seats ends
  pub hand_ons : AllZip (HasHandOns workers clock tells suite given out_faults) seats ends
  pub moments : AllZip (HasMoments workers clock may_give) seats ends
  pub rest : All (HasRest tells) ends
  pub given_back : All HasGivenBack ends
  pub leaves : HasLeft ends lived
