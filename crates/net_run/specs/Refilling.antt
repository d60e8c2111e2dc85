-- Sites that wait for the racks of shards, and have them again.
use Rattle.std.specs.Prelude.{◌≡◌, ⊤, All, List, [], ◌∷◌, ◌++◌, length, map}
use Rattle.std.specs.Global.{Vec}
use Rattle.mix_base.specs.Suites.{SuiteMeaning}
use Rattle.replay_disk.specs.Disk.{RackState}
use Rattle.mix_shard.specs.Shards.{IsKept, ShardState}
use Rattle.net_run.specs.Sites.{IsEmptyFor}
use Rattle.net_run.specs.declared.sites.Site.{Site}

-- what the shards of a list keep
abbrev pub AreAllKept : Type 0 → SuiteMeaning → Vec ShardState → Type 0
AreAllKept tells suite shards = All (IsKept tells suite) shards.items

-- a site that has room for the racks of these shards, and none of them
abbrev pub HasRoomFor : {R : Type 0} → Site R → Vec ShardState → Type 0
HasRoomFor site shards = IsEmptyFor (length shards.items) site.used

module _ {R : Type 0} (state : R → RackState) where
  -- a site that waited, with the racks of these shards
  pub record IsRefilled (waiting : Site R) (shards : Vec ShardState) (site : Site R) : Type 0 where
    pub used : map state site.used.items ≡ map (λ shard. shard.rack) shards.items
    pub idle : site.idle ≡ waiting.idle

  -- each of them
  abbrev pub AreRefilled : List (Site R) → List (Vec ShardState) → List (Site R) → Type 0
  AreRefilled [] [] [] = ⊤
  AreRefilled (waiting ∷ others) (shards ∷ lists) (site ∷ sites) = IsRefilled waiting shards site × AreRefilled others lists sites
  AreRefilled _ _ _ = ⊥

  -- the sites stand in front of the others, with their racks
  pub record ArePutBack (waiting : List (Site R)) (shards : List (Vec ShardState)) (old new : List (Site R)) : Type 0 where
    pub refilled : List (Site R)
    pub are : new ≡ refilled ++ old
    pub each : AreRefilled waiting shards refilled
