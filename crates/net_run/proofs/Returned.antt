-- The racks of shards that began as those of the nodes are the nodes' racks later.
use Rattle.std.proofs.Common.{◌≡◌, ◌≤◌, ◌+◌, ℕ, suc, List, [], ◌∷◌, ◌++◌, length, map, get_or, reverse, refl, sym, ap, subst, ◌∙◌, arith}
use Rattle.std.specs.Prelude.{All}
use Rattle.std.specs.Global.{Vec}
use Rattle.std.specs.List.{AllZip}
use Rattle.std.proofs.lemmas.List.{reverse-append}
use Rattle.mix_base.specs.Suites.{SuiteMeaning}
use Rattle.replay_disk.specs.Disk.{RackState}
use Rattle.lab_text.specs.declared.settings.Config.{Config}
use Rattle.mix_shard.specs.Origins.{origin_of}
use Rattle.mix_shard.specs.Shards.{IsKept, ShardState}
use Rattle.turn_lock.proofs.Lists.{all_middle}
use Rattle.net_run.specs.Living.{AreOriginsOf, origins_in}
use Rattle.net_run.specs.Nodes.{AreNodesOpened, AreSitesLater, IsNodeOpened, IsSiteLater}
use Rattle.net_run.specs.Opening.{AreOpened, IsOpened}
use Rattle.net_run.specs.Plans.{plan_of}
use Rattle.net_run.specs.Racks.{AreLater, IsLater}
use Rattle.net_run.specs.Refilling.{AreAllKept, AreRefilled, HasRoomFor, IsRefilled}
use Rattle.net_run.specs.Seats.{site_of}
use Rattle.net_run.specs.Sites.{IsEmptyFor}
use Rattle.net_run.specs.declared.nodes.OpenNode.{OpenNode}
use Rattle.net_run.specs.declared.opening.NodePlan.{NodePlan}
use Rattle.net_run.specs.declared.sites.Site.{Site}
use Rattle.net_run.proofs.Stacks.{map_long}

-- the first of a list, and what is behind it
first_same : {X : Type 0} (x y : X) (xs ys : List X) → x ∷ xs ≡ y ∷ ys → x ≡ y
first_same x y xs ys e = cc

rest_same : {X : Type 0} (x y : X) (xs ys : List X) → x ∷ xs ≡ y ∷ ys → xs ≡ ys
rest_same x y xs ys e = cc

all_rest : {X : Type 0} (P : X → Type 0) (x : X) (xs : List X) → All P (x ∷ xs) → All P xs
all_rest P x xs all = λ k d low. all (suc k) d (omega (arith, low))

-- what an origin says: the faults when the shard was made, and what its rack was armed and crashed by
same_faults : (one other : ShardState) → origin_of one ≡ origin_of other → one.faults ≡ other.faults
same_faults one other same = ap (λ (lists : List (List ℕ)). get_or (get_or lists 0 []) 9 0) same

same_arms : (one other : ShardState) → origin_of one ≡ origin_of other → one.rack.arms ≡ other.rack.arms
same_arms one other same = ap (λ (lists : List (List ℕ)). get_or lists 5 []) same

same_crashes : (one other : ShardState) → origin_of one ≡ origin_of other → one.rack.crashes ≡ other.rack.crashes
same_crashes one other same = ap (λ (lists : List (List ℕ)). get_or lists 6 []) same

module _ (tells : Type 0) (suite : SuiteMeaning) (plan : NodePlan) where
  shard_later : (index : ℕ) (rack : RackState) (opened now : ShardState) → IsOpened tells suite plan index rack opened → origin_of now ≡ origin_of opened → IsKept tells suite now
      → IsLater rack now.rack
  shard_later index rack opened now is same kept = record {
    arms = same_arms now opened same ∙ is.arms;
    crashes = same_crashes now opened same ∙ is.crashes;
    faults = (let a = same_faults now opened same in let b = is.began_on.faults in let c = kept.since_made in let d = kept.no_fewer in omega (arith, a, b, c, d));
  }

  shards_later : (index : ℕ) (racks : List RackState) (opened now : List ShardState) → AreOpened tells suite plan index racks opened → origins_in now ≡ origins_in opened
      → All (IsKept tells suite) now → AreLater racks (map (λ shard. shard.rack) now)
  shards_later index [] [] [] all same kept = tt
  shards_later index [] [] (s ∷ ss) all same kept = absurd (cc)
  shards_later index [] (o ∷ os) now all same kept = absurd all
  shards_later index (r ∷ rs) [] now all same kept = absurd all
  shards_later index (r ∷ rs) (o ∷ os) [] all same kept = absurd (cc)
  shards_later index (r ∷ rs) (o ∷ os) (s ∷ ss) all same kept = (
    shard_later index r o s all.0 (first_same (origin_of s) (origin_of o) (origins_in ss) (origins_in os) same) (all_middle (IsKept tells suite) [] ss s kept),
    shards_later (index + 1) rs os ss all.1 (rest_same (origin_of s) (origin_of o) (origins_in ss) (origins_in os) same) (all_rest (IsKept tells suite) s ss kept),
  )

module _ {R S K M D Z W : Type 0} (state : R → RackState) (tells : Type 0) (suite : SuiteMeaning) (config : Config) where
  site_later : (number : ℕ) (site closed : Site R) (node : OpenNode R S K M D Z W) (list : Vec ShardState) → IsNodeOpened state tells suite config number site node
      → origins_in list.items ≡ origins_in node.shards.items → AreAllKept tells suite list → IsRefilled state node.site list closed → IsSiteLater state site closed
  site_later number site closed node list opened same kept is = record {
    used = subst (λ (rs : List RackState). AreLater (map state site.used.items) rs) (sym is.used)
        (shards_later tells suite (plan_of config number) 0 (map state site.used.items) node.shards.items list.items opened.shards same kept);
    idle = is.idle ∙ opened.idle;
  }

  -- the sites of all nodes
  pub sites_later : (number : ℕ) (sites closed : List (Site R)) (nodes : List (OpenNode R S K M D Z W)) (lists : List (Vec ShardState)) → AreNodesOpened state tells suite config number sites nodes
      → AreOriginsOf nodes lists → All (AreAllKept tells suite) lists → AreRefilled state (map site_of nodes) lists closed → AreSitesLater state sites closed
  sites_later number [] [] [] [] all same kept are = tt
  sites_later number [] (c ∷ cs) [] [] all same kept are = absurd are
  sites_later number [] closed [] (l ∷ ls) all same kept are = absurd (cc)
  sites_later number [] closed (n ∷ ns) lists all same kept are = absurd all
  sites_later number (s ∷ ss) closed [] lists all same kept are = absurd all
  sites_later number (s ∷ ss) closed (n ∷ ns) [] all same kept are = absurd (cc)
  sites_later number (s ∷ ss) [] (n ∷ ns) (l ∷ ls) all same kept are = absurd are
  sites_later number (s ∷ ss) (c ∷ cs) (n ∷ ns) (l ∷ ls) all same kept are = (
    site_later number s c n l all.0
        (first_same (origins_in l.items) (origins_in n.shards.items) (map (λ (v : Vec ShardState). origins_in v.items) ls) (map (λ (m : OpenNode R S K M D Z W). origins_in m.shards.items) ns) same)
        (all_middle (AreAllKept tells suite) [] ls l kept) are.0,
    sites_later (number + 1) ss cs ns ls all.1
        (rest_same (origins_in l.items) (origins_in n.shards.items) (map (λ (v : Vec ShardState). origins_in v.items) ls) (map (λ (m : OpenNode R S K M D Z W). origins_in m.shards.items) ns) same)
        (all_rest (AreAllKept tells suite) l ls kept) are.1,
  )

  -- each site that waits has room for its racks
  fits : (number : ℕ) (sites : List (Site R)) (nodes : List (OpenNode R S K M D Z W)) (lists : List (Vec ShardState)) → AreNodesOpened state tells suite config number sites nodes
      → AreOriginsOf nodes lists → AllZip HasRoomFor (map site_of nodes) lists
  fits number [] [] [] all same = tt
  fits number [] [] (l ∷ ls) all same = absurd (cc)
  fits number [] (n ∷ ns) lists all same = absurd all
  fits number (s ∷ ss) [] lists all same = absurd all
  fits number (s ∷ ss) (n ∷ ns) [] all same = absurd (cc)
  fits number (s ∷ ss) (n ∷ ns) (l ∷ ls) all same =
      let one = first_same (origins_in l.items) (origins_in n.shards.items) (map (λ (v : Vec ShardState). origins_in v.items) ls) (map (λ (m : OpenNode R S K M D Z W). origins_in m.shards.items) ns) same in (
        room l n.shards.items n.site one all.0.emptied,
        fits (number + 1) ss ns ls all.1
            (rest_same (origins_in l.items) (origins_in n.shards.items) (map (λ (v : Vec ShardState). origins_in v.items) ls) (map (λ (m : OpenNode R S K M D Z W). origins_in m.shards.items) ns) same),
      )
    where
      room : (list : Vec ShardState) (shards : List ShardState) (site : Site R) → origins_in list.items ≡ origins_in shards → IsEmptyFor (length shards) site.used → HasRoomFor site list
      room list shards site one is =
          let a = map_long origin_of list.items in
          let b = map_long origin_of shards in
          let c = ap (λ (os : List (List (List ℕ))). length os) one in
          record { empty = is.empty; room = (let d = is.room in omega (arith, a, b, c, d)) }

  pub fits_reversed : (sites waiting : List (Site R)) (nodes : List (OpenNode R S K M D Z W)) (lists : List (Vec ShardState)) → AreNodesOpened state tells suite config 0 sites nodes
      → waiting ≡ map site_of nodes → AreOriginsOf nodes lists → AllZip HasRoomFor (reverse waiting) (reverse lists)
  fits_reversed sites waiting nodes lists all waiting_are same =
      zip_reversed waiting lists (subst (λ (ws : List (Site R)). AllZip HasRoomFor ws lists) (sym waiting_are) (fits 0 sites nodes lists all same))
    where
      push_both : (xs : List (Site R)) (ys : List (Vec ShardState)) (x : Site R) (y : Vec ShardState) → AllZip HasRoomFor xs ys → HasRoomFor x y → AllZip HasRoomFor (xs ++ x ∷ []) (ys ++ y ∷ [])
      push_both [] [] x y zipped one = (one, tt)
      push_both [] (b ∷ bs) x y zipped one = absurd zipped
      push_both (a ∷ xs) [] x y zipped one = absurd zipped
      push_both (a ∷ xs) (b ∷ bs) x y zipped one = (zipped.0, push_both xs bs x y zipped.1 one)

      zip_reversed : (xs : List (Site R)) (ys : List (Vec ShardState)) → AllZip HasRoomFor xs ys → AllZip HasRoomFor (reverse xs) (reverse ys)
      zip_reversed [] [] zipped = tt
      zip_reversed [] (y ∷ ys) zipped = absurd zipped
      zip_reversed (x ∷ xs) [] zipped = absurd zipped
      zip_reversed (x ∷ xs) (y ∷ ys) zipped =
          subst (λ (bs : List (Vec ShardState)). AllZip HasRoomFor (reverse (x ∷ xs)) bs) (sym (reverse-append (y ∷ []) ys))
          (subst (λ (zs : List (Site R)). AllZip HasRoomFor zs (reverse ys ++ y ∷ [])) (sym (reverse-append (x ∷ []) xs))
          (push_both (reverse xs) (reverse ys) x y (zip_reversed xs ys zipped.1) zipped.0))
