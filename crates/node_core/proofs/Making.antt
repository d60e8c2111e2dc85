-- A node's shards are made of racks, one after the other, and give them back.
use Rattle.std.proofs.Common.{◌≡◌, ℕ, zero, suc, List, [], ◌∷◌, ◌++◌, length, map, reverse, Option, Some, option_map, refl, sym, ap, subst, ◌∙◌}
use Rattle.std.specs.List.{slice_get}
use Rattle.std.proofs.lemmas.List.{map-append, reverse-append, length-map, append_assoc}
use Rattle.std.proofs.lemmas.Option.{get_or_from_slice_get, slice_get-map}
use Rattle.mix_base.specs.Suites.{SuiteMeaning}
use Rattle.replay_disk.specs.Disk.{RackState}
use Rattle.mix_shard.specs.Shards.{ShardState}
use Rattle.node_core.specs.Kept.{AreMade, IsMade}
use Rattle.node_core.specs.Nodes.{AreShardsOf, IsNewNode, IsNewShard, IsNodeSetup, no_packets}
use Rattle.node_core.specs.declared.arrivals.Arrival.{Arrival}
use Rattle.node_core.specs.declared.setup.NodeSetup.{NodeSetup}

abbrev pub racks_of : List ShardState → List RackState
racks_of shards = map (λ shard. shard.rack) shards

-- what holds of each in its place, and of one more behind them
one_behind : {X : Type 0} (Q : ℕ → X → Type 0) (xs : List X) (y : X) → ((i : ℕ) (x : X) → slice_get xs i ≡ Some x → Q i x) → Q (length xs) y
    → (i : ℕ) (x : X) → slice_get (xs ++ y ∷ []) i ≡ Some x → Q i x
one_behind {X = X} Q [] y all last zero x is = subst (λ (z : X). Q zero z) (get_or_from_slice_get (y ∷ []) zero x y is) last
one_behind Q [] y all last (suc i) x is = absurd (cc)
one_behind Q (z ∷ xs) y all last zero x is = all zero x is
one_behind Q (z ∷ xs) y all last (suc i) x is = one_behind (λ n w. Q (suc n) w) xs y (λ j w. all (suc j) w) last i x is

pub one_more_made : (tells : Type 0) (suite : SuiteMeaning) (setup : NodeSetup) (old new : List ShardState) (shard : ShardState) → new ≡ old ++ shard ∷ []
    → AreMade tells suite setup old → IsMade tells suite setup (length old) shard → AreMade tells suite setup new
one_more_made tells suite setup old new shard is all last =
    subst (λ (shards : List ShardState). AreMade tells suite setup shards) (sym is)
    (one_behind (λ index s. IsMade tells suite setup index s) old shard all last)

module _ {R : Type 0} (state : R → RackState) where
  -- those that wait, the last first
  first_waits : (old new : List R) (rack : R) → old ≡ new ++ rack ∷ [] → map state (reverse old) ≡ state rack ∷ map state (reverse new)
  first_waits old new rack is = ap (λ (xs : List R). map state (reverse xs)) is ∙ ap (λ (xs : List R). map state xs) (reverse-append new (rack ∷ []))

  across : (shards : List ShardState) (shard : ShardState) (others : List RackState)
      → racks_of (shards ++ shard ∷ []) ++ others ≡ racks_of shards ++ shard.rack ∷ others
  across shards shard others = ap (λ (xs : List RackState). xs ++ others) (map-append (λ (s : ShardState). s.rack) shards (shard ∷ []))
      ∙ append_assoc (racks_of shards) (shard.rack ∷ []) others

  -- the next rack becomes a shard
  pub goes_in : (all : List RackState) (shards grown : List ShardState) (shard : ShardState) (old new : List R) (rack : R)
      → all ≡ racks_of shards ++ map state (reverse old) → old ≡ new ++ rack ∷ [] → grown ≡ shards ++ shard ∷ [] → shard.rack ≡ state rack
      → all ≡ racks_of grown ++ map state (reverse new)
  goes_in all shards grown shard old new rack are old_is grown_is same =
      are ∙ ap (λ (xs : List RackState). racks_of shards ++ xs) (first_waits old new rack old_is)
      ∙ ap (λ (r : RackState). racks_of shards ++ r ∷ map state (reverse new)) (sym same)
      ∙ sym (across shards shard (map state (reverse new)))
      ∙ ap (λ (xs : List ShardState). racks_of xs ++ map state (reverse new)) (sym grown_is)

  -- the last shard gives its rack back
  pub comes_back : (all : List RackState) (shards left : List ShardState) (shard : ShardState) (old new : List R) (rack : R)
      → all ≡ racks_of shards ++ map state (reverse old) → shards ≡ left ++ shard ∷ [] → new ≡ old ++ rack ∷ [] → state rack ≡ shard.rack
      → all ≡ racks_of left ++ map state (reverse new)
  comes_back all shards left shard old new rack are shards_is new_is same =
      are ∙ ap (λ (xs : List ShardState). racks_of xs ++ map state (reverse old)) shards_is
      ∙ across left shard (map state (reverse old))
      ∙ ap (λ (r : RackState). racks_of left ++ r ∷ map state (reverse old)) (sym same)
      ∙ ap (λ (xs : List RackState). racks_of left ++ xs) (sym (first_waits new old rack new_is))

pub shards_made : (tells : Type 0) (suite : SuiteMeaning) (setup : NodeSetup) (racks : List RackState) (shards : List ShardState) → IsNodeSetup setup
    → length racks ≡ setup.shards → racks_of shards ≡ racks → AreMade tells suite setup shards → AreShardsOf tells suite setup shards
shards_made tells suite setup racks shards allowed count are made = record {
  allowed = allowed;
  count = sym (length-map shards (λ (s : ShardState). s.rack)) ∙ ap (λ (xs : List RackState). length xs) are ∙ count;
  each = λ index shard found. (made index shard found).is_shard;
}

-- the rack of a shard is the one in its place
rack_there : (racks : List RackState) (shards : List ShardState) (index : ℕ) (rack : RackState) (shard : ShardState) → racks_of shards ≡ racks
    → slice_get racks index ≡ Some rack → slice_get shards index ≡ Some shard → shard.rack ≡ rack
rack_there racks shards index rack shard are there found =
    let mapped : slice_get racks index ≡ Some shard.rack = ap (λ (xs : List RackState). slice_get xs index) (sym are)
    ∙ slice_get-map (λ (s : ShardState). s.rack) shards index ∙ ap (λ (o : Option ShardState). option_map (λ (s : ShardState). s.rack) o) found in
    sym (get_or_from_slice_get racks index shard.rack rack mapped) ∙ get_or_from_slice_get racks index rack rack there

pub node_made : (tells : Type 0) (suite : SuiteMeaning) (setup : NodeSetup) (racks : List RackState) (shards : List ShardState) (arrivals : List Arrival)
    → arrivals ≡ [] → racks_of shards ≡ racks → AreMade tells suite setup shards
    → IsNewNode setup racks (record { setup = setup; next = 1; arrivals = arrivals; workers = no_packets; shards = shards })
node_made tells suite setup racks shards arrivals none are made = record {
  setup_is = refl;
  next_is = refl;
  arrivals_are = none;
  workers_are = refl;
  count = sym (length-map shards (λ (s : ShardState). s.rack)) ∙ ap (λ (xs : List RackState). length xs) are;
  each = λ index rack shard there found.
      subst (λ (r : RackState). IsNewShard setup index r shard) (rack_there racks shards index rack shard are there found) (made index shard found).is_new;
}
