-- A node's shards crash one after the other.
use Rattle.std.proofs.Common.{◌≡◌, ◌≢◌, ℕ, ◌+◌, ◌<◌, ◌≤◌, ◌⊎◌, inl, inr, true, false, eqb, List, [], ◌∷◌, length, get_or, set, Some, None, sym, refl, ◌∙◌, ap, subst, arith}
use Rattle.std.specs.List.{All, slice_get}
use Rattle.std.proofs.lemmas.Bool.Decides.{eqb_tells}
use Rattle.std.proofs.lemmas.List.Elements.{All-cons, All-nil}
use Rattle.std.proofs.lemmas.List.{length-set}
use Rattle.std.proofs.lemmas.Option.{slice_get-get_or, slice_get_within}
use Rattle.mix_base.specs.Suites.{SuiteMeaning}
use Rattle.mix_shard.specs.Shards.{IsKept, ShardState}
use Rattle.mix_shard.specs.declared.setup.Setup.{Setup}
use Rattle.node_core.specs.Nodes.{AreShardsOf, AtEachShard, HeldFor, no_packets}
use Rattle.node_core.specs.Steps.{CrashesShard}
use Rattle.node_core.proofs.Places.{other_place, same_place}
use Rattle.node_core.specs.declared.setup.NodeSetup.{NodeSetup}

-- the shards below a place are crashed, and the others are as before
pub record CrashedBelow (tells : Type 0) (suite : SuiteMeaning) (pick : ℕ) (place : ℕ) (old new : List ShardState) : Type 0 where
  pub count : length new ≡ length old
  pub crashed : (index : ℕ) → (before after : ShardState) → index < place → slice_get old index ≡ Some before → slice_get new index ≡ Some after
      → CrashesShard tells pick before after
  pub kept : (index : ℕ) → (shard : ShardState) → index < place → slice_get new index ≡ Some shard → IsKept tells suite shard
  pub rest : (index : ℕ) → (shard : ShardState) → place ≤ index → slice_get new index ≡ Some shard → slice_get old index ≡ Some shard

injected : (one two : ShardState) → Some one ≡ Some two → one ≡ two
injected one two is = cc

-- workers that hold nothing hold nothing of another setup
pub none_held : (setup : Setup) → All (HeldFor setup) no_packets
none_held setup =
    All-cons (HeldFor setup) None (None ∷ None ∷ None ∷ []) tt (All-cons (HeldFor setup) None (None ∷ None ∷ []) tt
    (All-cons (HeldFor setup) None (None ∷ []) tt (All-cons (HeldFor setup) None [] tt (All-nil (HeldFor setup)))))

module _ (tells : Type 0) (suite : SuiteMeaning) (pick : ℕ) where
  pub none_crashed : (shards : List ShardState) → CrashedBelow tells suite pick 0 shards shards
  none_crashed shards = record {
    count = refl;
    crashed = λ index before after below was now. absurd (omega (arith, below));
    kept = λ index shard below now. absurd (omega (arith, below));
    rest = λ index shard from now. now;
  }

  module _ (place : ℕ) (old new : List ShardState) (before after : ShardState) where
    crashed_at : (index : ℕ) (was shard : ShardState) → CrashedBelow tells suite pick place old new → slice_get new place ≡ Some before
        → CrashesShard tells pick before after → index < place + 1 → slice_get old index ≡ Some was → slice_get (set new place after) index ≡ Some shard
        → ((eqb index place ≡ true) × (index ≡ place)) ⊎ ((eqb index place ≡ false) × (index ≢ place))
        → CrashesShard tells pick was shard
    crashed_at index was shard all there crashes below before_is found (inl (equal, same)) =
        let is_old : slice_get old index ≡ Some before = all.rest index before (omega (arith, same)) (ap (λ (i : ℕ). slice_get new i) same ∙ there) in
        subst (λ (s : ShardState). CrashesShard tells pick s shard) (injected before was (sym is_old ∙ before_is))
        (subst (λ (s : ShardState). CrashesShard tells pick before s) (same_place new place index before after shard there same found) crashes)
    crashed_at index was shard all there crashes below before_is found (inr (unequal, other)) =
        all.crashed index was shard (omega (arith, below, other)) before_is (other_place new place index after shard other found)

    kept_at : (index : ℕ) (shard : ShardState) → CrashedBelow tells suite pick place old new → slice_get new place ≡ Some before
        → IsKept tells suite after → index < place + 1 → slice_get (set new place after) index ≡ Some shard
        → ((eqb index place ≡ true) × (index ≡ place)) ⊎ ((eqb index place ≡ false) × (index ≢ place))
        → IsKept tells suite shard
    kept_at index shard all there keeps below found (inl (equal, same)) =
        subst (λ (s : ShardState). IsKept tells suite s) (same_place new place index before after shard there same found) keeps
    kept_at index shard all there keeps below found (inr (unequal, other)) =
        all.kept index shard (omega (arith, below, other)) (other_place new place index after shard other found)

    pub one_more_crashed : CrashedBelow tells suite pick place old new → slice_get new place ≡ Some before
        → CrashesShard tells pick before after → IsKept tells suite after
        → CrashedBelow tells suite pick (place + 1) old (set new place after)
    one_more_crashed all there crashes keeps = record {
      count = length-set new place after ∙ all.count;
      crashed = λ index was shard below before_is found. crashed_at index was shard all there crashes below before_is found (eqb_tells index place);
      kept = λ index shard below found. kept_at index shard all there keeps below found (eqb_tells index place);
      rest = λ index shard from found. all.rest index shard (omega (arith, from)) (other_place new place index after shard (λ same. absurd (omega (arith, from, same))) found);
    }

  pub all_crashed : (place : ℕ) (old new : List ShardState) → length new ≤ place → CrashedBelow tells suite pick place old new
      → AtEachShard (CrashesShard tells pick) old new
  all_crashed place old new past all = record {
    count = all.count;
    each = λ index before after was now. all.crashed index before after (omega (arith, past, slice_get_within new index after now)) was now;
  }

  pub all_kept : (place : ℕ) (old new : List ShardState) → length new ≤ place → CrashedBelow tells suite pick place old new
      → (index : ℕ) → (shard : ShardState) → slice_get new index ≡ Some shard → IsKept tells suite shard
  all_kept place old new past all index shard now = all.kept index shard (omega (arith, past, slice_get_within new index shard now)) now

  -- crashed shards of a node are that node's
  pub still_shards : (setup : NodeSetup) (old new : List ShardState) → AreShardsOf tells suite setup old
      → AtEachShard (CrashesShard tells pick) old new
      → ((index : ℕ) → (shard : ShardState) → slice_get new index ≡ Some shard → IsKept tells suite shard)
      → AreShardsOf tells suite setup new
  still_shards setup old new all crashes keeps = record {
    allowed = all.allowed;
    count = crashes.count ∙ all.count;
    each = λ index shard now.
        let within : index < length old = subst (λ (n : ℕ). index < n) crashes.count (slice_get_within new index shard now) in
        let was = slice_get-get_or old index shard within in
        let before = get_or old index shard in
        let is = all.each index before was in
        let changed = crashes.each index before shard was now in
        record {
          terms = ap (λ (s : ShardState). s.terms) changed.shard ∙ is.terms;
          active = rw (changed.shard, is.terms) refl;
          kept = keeps index shard now;
        };
  }
