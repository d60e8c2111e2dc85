use Rattle.std.proofs.Common.{◌≡◌, ◌+◌, ℕ, List, [], ◌∷◌, All, Some, length, slice_get, ap, sym, subst, ◌∙◌}
use Rattle.std.proofs.lemmas.List.{length_push}
use Rattle.std.proofs.lemmas.List.Elements.{All-append, All-cons, All-nil}
use Rattle.mix_shard.specs.Shards.{ShardState}
use Rattle.node_run.specs.Openings.{IsShardAt, IsUnused}
use Rattle.node_run.proofs.Walking.{one_behind}
use Rattle.node_run.proofs.tests.seats.shards.Goals as goal

pub loop-index-preserved : goal.loop-index-preserved
loop-index-preserved c =
    let before = c.loop-index.invariant in
    let items = c.in_ok-push.ensures.items in
    let was = c.loop-index.shards.items in
    let one = c.in_ok-shard.field-0 in
    let made = c.in_ok-shard.ensures in
    let placed : IsShardAt c.args.setup.now c.args.count (length was) one =
    subst (λ n. IsShardAt c.args.setup.now c.args.count n one) (sym before.many) (record { shape_is = made.shape; setup_is = made.setup }) in
    record {
      many = ap length items ∙ (length_push was one ∙ ap (λ n. n + 1) before.many);
      unused = subst (All (IsUnused c.args.callers)) (sym items)
          (All-append (IsUnused c.args.callers) was (one ∷ []) before.unused (All-cons (IsUnused c.args.callers) one [] made.unused (All-nil (IsUnused c.args.callers))));
      places = subst (λ (xs : List ShardState). (i : ℕ) (shard : ShardState) → slice_get xs i ≡ Some shard → IsShardAt c.args.setup.now c.args.count i shard) (sym items)
          (one_behind (λ i shard. IsShardAt c.args.setup.now c.args.count i shard) was one before.places placed);
    }
