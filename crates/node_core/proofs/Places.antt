-- One of a node's shards changes, and the others stay.
use Rattle.std.proofs.Common.{◌≡◌, ◌≢◌, ℕ, ◌<◌, ◌⊎◌, inl, inr, true, false, eqb, List, length, get_or, set, Some, sym, ◌∙◌, ap, subst}
use Rattle.std.specs.List.{slice_get}
use Rattle.std.proofs.lemmas.Bool.Decides.{eqb_tells}
use Rattle.std.proofs.lemmas.List.{get_or-set_same, get_or-set_other, length-set}
use Rattle.std.proofs.lemmas.Option.{get_or_from_slice_get, slice_get-get_or, slice_get_within}
use Rattle.mix_base.specs.Suites.{SuiteMeaning}
use Rattle.mix_shard.specs.Shards.{ShardState}
use Rattle.node_core.specs.Nodes.{AreShardsOf, IsShardOf}
use Rattle.node_core.specs.declared.setup.NodeSetup.{NodeSetup}

-- what stands at another place than the one that was set
pub other_place : (shards : List ShardState) (place index : ℕ) (after shard : ShardState) → index ≢ place
    → slice_get (set shards place after) index ≡ Some shard → slice_get shards index ≡ Some shard
other_place shards place index after shard other found =
    let within : index < length shards =
    subst (λ (n : ℕ). index < n) (length-set shards place after) (slice_get_within (set shards place after) index shard found) in
    let same : get_or shards index shard ≡ shard =
    sym (get_or-set_other shards place index after shard other) ∙ get_or_from_slice_get (set shards place after) index shard shard found in
    slice_get-get_or shards index shard within ∙ ap Some same

-- what stands at the place that was set
pub same_place : (shards : List ShardState) (place index : ℕ) (before after shard : ShardState) → slice_get shards place ≡ Some before → index ≡ place
    → slice_get (set shards place after) index ≡ Some shard → after ≡ shard
same_place shards place index before after shard there same found =
    let here : slice_get (set shards place after) place ≡ Some shard = subst (λ (i : ℕ). slice_get (set shards place after) i ≡ Some shard) same found in
    sym (get_or-set_same shards place after shard (slice_get_within shards place before there)) ∙ get_or_from_slice_get (set shards place after) place shard shard here

module _ (tells : Type 0) (suite : SuiteMeaning) (setup : NodeSetup) (shards : List ShardState) (place : ℕ) (before after : ShardState) where
  -- what stands at a place after one was changed
  at_place : (index : ℕ) (shard : ShardState) → AreShardsOf tells suite setup shards → slice_get shards place ≡ Some before
      → IsShardOf tells suite setup place after → slice_get (set shards place after) index ≡ Some shard
      → ((eqb index place ≡ true) × (index ≡ place)) ⊎ ((eqb index place ≡ false) × (index ≢ place))
      → IsShardOf tells suite setup index shard
  at_place index shard all there is_after found (inl (equal, same)) =
      subst (λ (i : ℕ). IsShardOf tells suite setup i shard) (sym same)
      (subst (λ (s : ShardState). IsShardOf tells suite setup place s) (same_place shards place index before after shard there same found) is_after)
  at_place index shard all there is_after found (inr (unequal, other)) =
      all.each index shard (other_place shards place index after shard other found)

  -- a node's shards, of which one was changed to another of this place
  pub with_shard : AreShardsOf tells suite setup shards → slice_get shards place ≡ Some before → IsShardOf tells suite setup place after
      → AreShardsOf tells suite setup (set shards place after)
  with_shard all there is_after = record {
    allowed = all.allowed;
    count = length-set shards place after ∙ all.count;
    each = λ index shard found. at_place index shard all there is_after found (eqb_tells index place);
  }
