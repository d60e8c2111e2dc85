-- The nodes of the network as their shards are opened, each on its site.
use Rattle.std.specs.Prelude.{◌≡◌, ◌⊎◌, ⊤, ℕ, ◌+◌, ◌<◌, All, List, [], ◌∷◌, ◌++◌, length, map, Some, slice_get, IsOk}
use Rattle.std.specs.List.{AllZip}
use Rattle.mix_base.specs.Suites.{SuiteMeaning}
use Rattle.replay_disk.specs.Disk.{RackState}
use Rattle.lab_text.specs.declared.settings.Config.{Config}
use Rattle.lab_text.specs.declared.statuses.Status.{Status}
use Rattle.lab_text.specs.declared.statuses.Status.TheVariants.{Memory}
use Rattle.mix_shard.specs.Shards.{IsKept}
use Rattle.net_run.specs.Opening.{AreOpened, IsStoppedBy, book_at}
use Rattle.net_run.specs.Plans.{plan_of}
use Rattle.net_run.specs.Racks.{AreLater}
use Rattle.net_run.specs.Sites.{IsEmptyFor}
use Rattle.net_run.specs.declared.nodes.OpenNode.{OpenNode}
use Rattle.net_run.specs.declared.sites.Site.{Site}

module _ {R : Type 0} (state : R → RackState) where
  -- a site as it is later: the racks of its shards in their places, and the others as they were
  pub record IsSiteLater (old new : Site R) : Type 0 where
    pub used : AreLater (map state old.used.items) (map state new.used.items)
    pub idle : new.idle ≡ old.idle

  -- each of these sites in its place
  abbrev pub AreSitesLater : List (Site R) → List (Site R) → Type 0
  AreSitesLater old new = AllZip IsSiteLater old new

  -- ---- a rack that isn't opened

  -- the racks of a node's shards have books
  abbrev pub HaveBooks : Config → ℕ → Site R → Type 0
  HaveBooks config number site = (index : ℕ) (rack : RackState) → slice_get (map state site.used.items) index ≡ Some rack → IsOk (book_at (plan_of config number) index rack)

  -- the first rack that isn't opened, by node and shard, is the cause of the status
  pub record IsStoppedIn (tells : Type 0) (config : Config) (old new : List (Site R)) (status : Status) : Type 0 where
    pub number : ℕ
    pub was : Site R
    pub is : Site R
    pub was_there : slice_get old number ≡ Some was
    pub is_there : slice_get new number ≡ Some is
    pub stops : IsStoppedBy tells (plan_of config number) (map state was.used.items) (map state is.used.items) status
    pub before : tells → (i : ℕ) (site : Site R) → i < number → slice_get old i ≡ Some site → HaveBooks config i site

  -- how the run ends where not all nodes are opened
  abbrev pub StopsNodes : Type 0 → Config → List (Site R) → List (Site R) → Status → Type 0
  StopsNodes tells config old new status = (status ≡ Memory) ⊎ IsStoppedIn tells config old new status

-- there is room for the racks of its shards in its site, which has none of them
abbrev pub HasShards : {R S K M D Z W : Type 0} → OpenNode R S K M D Z W → Type 0
HasShards node = IsEmptyFor (length node.shards.items) node.site.used

-- what its shards keep
abbrev pub AreKept : {R S K M D Z W : Type 0} → Type 0 → SuiteMeaning → OpenNode R S K M D Z W → Type 0
AreKept tells suite node = All (IsKept tells suite) node.shards.items

module _ {R S K M D Z W : Type 0} (state : R → RackState) where
  -- ---- a node that is closed

  -- its site with the racks of its shards
  pub record IsClosedTo (node : OpenNode R S K M D Z W) (site : Site R) : Type 0 where
    pub used : map state site.used.items ≡ map (λ shard. shard.rack) node.shards.items
    pub idle : site.idle ≡ node.site.idle

  -- the sites of these nodes stand in front of the others
  pub record ArePut (nodes : List (OpenNode R S K M D Z W)) (old new : List (Site R)) : Type 0 where
    pub closed : List (Site R)
    pub are : new ≡ closed ++ old
    pub each : AllZip IsClosedTo nodes closed

  -- ---- a node that is opened

  -- a node on its site
  pub record IsNodeOpened (tells : Type 0) (suite : SuiteMeaning) (config : Config) (number : ℕ) (site : Site R) (node : OpenNode R S K M D Z W) : Type 0 where
    pub plan : node.plan ≡ plan_of config number
    pub shards : AreOpened tells suite (plan_of config number) 0 (map state site.used.items) node.shards.items
    pub emptied : HasShards node
    pub idle : node.site.idle ≡ site.idle

  -- node NUMBER of the network and those behind it
  abbrev pub AreNodesOpened : Type 0 → SuiteMeaning → Config → ℕ → List (Site R) → List (OpenNode R S K M D Z W) → Type 0
  AreNodesOpened tells suite config number [] [] = ⊤
  AreNodesOpened tells suite config number (site ∷ sites) (node ∷ nodes) =
      IsNodeOpened tells suite config number site node × AreNodesOpened tells suite config (number + 1) sites nodes
  AreNodesOpened tells suite config number _ _ = ⊥
