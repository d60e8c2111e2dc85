-- The nodes of the network are opened one after the other.
use Rattle.std.proofs.Common.{◌≡◌, ◌≤◌, ◌<◌, ◌⊎◌, ◌+◌, ℕ, zero, suc, List, [], ◌∷◌, ◌++◌, length, map, Some, IsOk, slice_get, inl, inr, refl, sym, ap, subst, ◌∙◌, zero-add, arith}
use Rattle.std.specs.Prelude.{All}
use Rattle.std.specs.List.{AllZip}
use Rattle.std.proofs.lemmas.List.{append-nil}
use Rattle.mix_base.specs.Suites.{SuiteMeaning}
use Rattle.replay_disk.specs.Disk.{RackState}
use Rattle.turn_lock.proofs.Lists.{all_cons}
use Rattle.lab_text.specs.declared.settings.Config.{Config}
use Rattle.lab_text.specs.declared.statuses.Status.{Status}
use Rattle.net_run.specs.Nodes.{AreNodesOpened, AreSitesLater, HasShards, HaveBooks, IsClosedTo, IsNodeOpened, IsSiteLater, IsStoppedIn, StopsNodes}
use Rattle.net_run.specs.Opening.{AreOpened, StopsNode, book_at}
use Rattle.net_run.specs.Plans.{plan_of}
use Rattle.net_run.specs.Racks.{AreLater}
use Rattle.net_run.specs.declared.nodes.OpenNode.{OpenNode}
use Rattle.net_run.specs.declared.sites.Site.{Site}
use Rattle.net_run.proofs.Laters.{all_same, later_as}
use Rattle.net_run.proofs.Opens.{all_opened_later, books_below, stands_at}

module _ {R : Type 0} (state : R → RackState) where
  pub site_same : (site : Site R) → IsSiteLater state site site
  site_same site = record { used = all_same (map state site.used.items); idle = refl }

  pub sites_same : (sites : List (Site R)) → AreSitesLater state sites sites
  sites_same [] = tt
  sites_same (site ∷ sites) = (site_same site, sites_same sites)

  pub sites_join : (old new more grown : List (Site R)) → AreSitesLater state old new → AreSitesLater state more grown → AreSitesLater state (old ++ more) (new ++ grown)
  sites_join [] [] more grown first rest = rest
  sites_join [] (y ∷ ys) more grown first rest = absurd first
  sites_join (x ∷ xs) [] more grown first rest = absurd first
  sites_join (x ∷ xs) (y ∷ ys) more grown first rest = (first.0, sites_join xs ys more grown first.1 rest)

module _ {R S K M D Z W : Type 0} (state : R → RackState) (tells : Type 0) (suite : SuiteMeaning) (config : Config) where
  -- one more
  pub nodes_more : (number : ℕ) (sites : List (Site R)) (nodes : List (OpenNode R S K M D Z W)) (site : Site R) (node : OpenNode R S K M D Z W)
      → AreNodesOpened state tells suite config number sites nodes → IsNodeOpened state tells suite config (number + length sites) site node
      → AreNodesOpened state tells suite config number (sites ++ site ∷ []) (nodes ++ node ∷ [])
  nodes_more number [] [] site node all one = (subst (λ (i : ℕ). IsNodeOpened state tells suite config i site node) (omega arith) one, tt)
  nodes_more number [] (n ∷ ns) site node all one = absurd all
  nodes_more number (s ∷ ss) [] site node all one = absurd all
  nodes_more number (s ∷ ss) (n ∷ ns) site node all one =
      (all.0, nodes_more (number + 1) ss ns site node all.1 (subst (λ (i : ℕ). IsNodeOpened state tells suite config i site node) (omega arith) one))

  pub nodes_long : (number : ℕ) (sites : List (Site R)) (nodes : List (OpenNode R S K M D Z W)) → AreNodesOpened state tells suite config number sites nodes → length sites ≡ length nodes
  nodes_long number [] [] all = refl
  nodes_long number [] (n ∷ ns) all = absurd all
  nodes_long number (s ∷ ss) [] all = absurd all
  nodes_long number (s ∷ ss) (n ∷ ns) all = ap (λ n. suc n) (nodes_long (number + 1) ss ns all.1)

  -- each has room for its racks
  pub all_have_shards : (number : ℕ) (sites : List (Site R)) (nodes : List (OpenNode R S K M D Z W)) → AreNodesOpened state tells suite config number sites nodes → All HasShards nodes
  all_have_shards number [] [] all = λ k d low. absurd (omega (arith, low))
  all_have_shards number [] (n ∷ ns) all = absurd all
  all_have_shards number (s ∷ ss) [] all = absurd all
  all_have_shards number (s ∷ ss) (n ∷ ns) all = all_cons HasShards n ns all.0.emptied (all_have_shards (number + 1) ss ns all.1)

  -- their sites as they are closed again
  pub node_back : (number : ℕ) (site closed : Site R) (node : OpenNode R S K M D Z W) → IsNodeOpened state tells suite config number site node → IsClosedTo state node closed
      → IsSiteLater state site closed
  node_back number site closed node opened is = record {
    used = subst (λ (rs : List RackState). AreLater (map state site.used.items) rs) (sym is.used)
        (all_opened_later tells suite (plan_of config number) 0 (map state site.used.items) node.shards.items opened.shards);
    idle = is.idle ∙ opened.idle;
  }

  pub nodes_back : (number : ℕ) (sites closed : List (Site R)) (nodes : List (OpenNode R S K M D Z W)) → AreNodesOpened state tells suite config number sites nodes
      → AllZip (IsClosedTo state) nodes closed → AreSitesLater state sites closed
  nodes_back number [] [] [] all are = tt
  nodes_back number [] (c ∷ cs) [] all are = absurd are
  nodes_back number [] closed (n ∷ ns) all are = absurd all
  nodes_back number (s ∷ ss) closed [] all are = absurd all
  nodes_back number (s ∷ ss) [] (n ∷ ns) all are = absurd are
  nodes_back number (s ∷ ss) (c ∷ cs) (n ∷ ns) all are = (node_back number s c n all.0 are.0, nodes_back (number + 1) ss cs ns all.1 are.1)

  -- the racks of the nodes below have books
  pub node_books : tells → (number : ℕ) (site : Site R) (node : OpenNode R S K M D Z W) → IsNodeOpened state tells suite config number site node → HaveBooks state config number site
  node_books told number site node opened index rack there =
      subst (λ (k : ℕ). IsOk (book_at (plan_of config number) k rack)) (zero-add index)
      (books_below tells suite (plan_of config number) told 0 (map state site.used.items) [] node.shards.items opened.shards index rack (below (map state site.used.items) index rack there)
      (subst (λ (rs : List RackState). slice_get rs index ≡ Some rack) (sym (append-nil (map state site.used.items))) there))
    where
      below : (rs : List RackState) (i : ℕ) (r : RackState) → slice_get rs i ≡ Some r → i < length rs
      below [] i r e = absurd (cc)
      below (x ∷ xs) zero r e = omega arith
      below (x ∷ xs) (suc i) r e = let low = below xs i r e in omega (arith, low)

  pub nodes_books : tells → (number : ℕ) (sites rest : List (Site R)) (nodes : List (OpenNode R S K M D Z W)) → AreNodesOpened state tells suite config number sites nodes
      → (i : ℕ) (site : Site R) → i < length sites → slice_get (sites ++ rest) i ≡ Some site → HaveBooks state config (number + i) site
  nodes_books told number [] rest nodes all i site low is = absurd (omega (arith, low))
  nodes_books told number (s ∷ ss) rest [] all i site low is = absurd all
  nodes_books told number (s ∷ ss) rest (n ∷ ns) all zero site low is =
      subst (λ (k : ℕ). HaveBooks state config k site) {x = number} {y = number + 0} (omega arith)
      (subst (λ (k : Site R). HaveBooks state config number k) (same_site s site is) (node_books told number s n all.0))
    where
      same_site : (one other : Site R) → Some one ≡ Some other → one ≡ other
      same_site one other e = cc
  nodes_books told number (s ∷ ss) rest (n ∷ ns) all (suc i) site low is =
      subst (λ (k : ℕ). HaveBooks state config k site) {x = number + 1 + i} {y = number + suc i} (omega arith)
      (nodes_books told (number + 1) ss rest ns all.1 i site (omega (arith, low)) is)

  -- the sites come back where one isn't opened
  pub sites_back : (met closed rest old new : List (Site R)) (nodes : List (OpenNode R S K M D Z W)) (was is : Site R) → AreNodesOpened state tells suite config 0 met nodes
      → AllZip (IsClosedTo state) nodes closed → old ≡ met ++ was ∷ rest → new ≡ closed ++ is ∷ rest → IsSiteLater state was is → AreSitesLater state old new
  sites_back met closed rest old new nodes was is opened are old_is new_is later =
      subst (λ (ss : List (Site R)). AreSitesLater state ss new) (sym old_is)
      (subst (λ (ss : List (Site R)). AreSitesLater state (met ++ was ∷ rest) ss) (sym new_is)
      (sites_join state met closed (was ∷ rest) (is ∷ rest) (nodes_back 0 met closed nodes opened are) (later, sites_same state rest)))

  closed_long : (nodes : List (OpenNode R S K M D Z W)) (closed : List (Site R)) → AllZip (IsClosedTo state) nodes closed → length closed ≡ length nodes
  closed_long [] [] are = refl
  closed_long [] (c ∷ cs) are = absurd are
  closed_long (n ∷ ns) [] are = absurd are
  closed_long (n ∷ ns) (c ∷ cs) are = ap (λ n. suc n) (closed_long ns cs are.1)

  -- and the first of them is the cause
  pub stopped_in : (met closed rest old new : List (Site R)) (nodes : List (OpenNode R S K M D Z W)) (was is : Site R) (status : Status) (number : ℕ)
      → AreNodesOpened state tells suite config 0 met nodes → length met ≡ number → AllZip (IsClosedTo state) nodes closed → old ≡ met ++ was ∷ rest → new ≡ closed ++ is ∷ rest
      → StopsNode tells (plan_of config number) (map state was.used.items) (map state is.used.items) status → StopsNodes state tells config old new status
  stopped_in met closed rest old new nodes was is status number opened long are old_is new_is (inl memory) = inl memory
  stopped_in met closed rest old new nodes was is status number opened long are old_is new_is (inr stops) =
      inr (record {
        number = number;
        was = was;
        is = is;
        was_there = stands_at old met rest was number old_is long;
        is_there = stands_at new closed rest is number new_is (closed_long nodes closed are ∙ sym (nodes_long 0 met nodes opened) ∙ long);
        stops = stops;
        before = λ told i site low there. subst (λ (k : ℕ). HaveBooks state config k site) (zero-add i)
            (nodes_books told 0 met (was ∷ rest) nodes opened i site (omega (arith, low, long))
            (subst (λ (ss : List (Site R)). slice_get ss i ≡ Some site) old_is there));
      })
