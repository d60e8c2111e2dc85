-- The racks of a world, site by site: sixteen belong to each node.
use Rattle.std.specs.Prelude.{◌≡◌, ◌≤◌, ℕ, ◌-◌, List, [], ◌++◌, length, vec_capacity}
use Rattle.std.specs.Global.{Vec}
use Rattle.std.specs.List.{flat_map}
use Rattle.net_run.specs.declared.sites.Site.{Site}

module _ {R : Type 0} where
  -- an empty list with room for so many
  pub record IsEmptyFor (many : ℕ) (list : Vec R) : Type 0 where
    pub empty : list.items ≡ []
    pub room : many ≤ vec_capacity list

  -- so many racks of shards, and the others of the sixteen
  pub record HasSizes (shards : ℕ) (site : Site R) : Type 0 where
    pub used : length site.used.items ≡ shards
    pub idle : length site.idle.items ≡ 16 - shards

  -- its racks in their order
  abbrev pub racks_of : Site R → List R
  racks_of site = site.used.items ++ site.idle.items

  -- and those of all sites
  abbrev pub all_racks : List (Site R) → List R
  all_racks sites = flat_map racks_of sites
