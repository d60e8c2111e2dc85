-- Open nodes as they take their seats in a life.
use Rattle.std.specs.Prelude.{◌≡◌, ℕ, ◌^◌, ◌<◌, List, length}
use Rattle.mix_base.specs.Suites.{SuiteMeaning}
use Rattle.replay_disk.specs.Disk.{RackState}
use Rattle.mix_shard.specs.Shards.{ShardState}
use Rattle.node_run.specs.Roles.{callers_for}
use Rattle.node_run.specs.declared.life.seats.NodeSeat.{NodeSeat}
use Rattle.net_run.specs.Opening.{AreOpened, IsPlan}
use Rattle.net_run.specs.declared.lines.NodeLinks.{NodeLinks}
use Rattle.net_run.specs.declared.nodes.OpenNode.{OpenNode}
use Rattle.net_run.specs.declared.sites.Site.{Site}

module _ {R S N O K M D Z W : Type 0} where
  -- a node whose shards were opened by its plan, for as many callers as it has with these lines and so many workers
  pub record CanSit (tells : Type 0) (suite : SuiteMeaning) (ciphertext workers : ℕ) (node : OpenNode R S K M D Z W) (links : NodeLinks N O) : Type 0 where
    pub plan : IsPlan node.plan
    pub racks : List RackState
    pub many : length racks ≡ node.plan.shards
    pub opened : AreOpened tells suite node.plan 0 racks node.shards.items
    pub working : 0 < workers
    pub callers : node.plan.callers ≡ callers_for (length links.incoming.items) workers (length links.outgoing.items)
    pub few : node.plan.callers < 2 ^ 32
    pub ciphertext_is : node.plan.setup.geometry.ct ≡ ciphertext

  -- the shards of a seat
  abbrev pub shards_in : NodeSeat R S N O K M D Z W → List ShardState
  shards_in seat = seat.shards.items

-- the site of a node, without the racks of its shards
abbrev pub site_of : {R S K M D Z W : Type 0} → OpenNode R S K M D Z W → Site R
site_of node = node.site
