use Rattle.std.proofs.Common.{rules, ◌≡◌, ℕ, [], ◌∷◌, List, All, Some, length, slice_get, ap, sym, subst, ◌∙◌}
use Rattle.std.proofs.lemmas.List.Elements.{All-cons, All-nil}
use Rattle.mix_shard.specs.Shards.{ShardState}
use Rattle.mix_shard.specs.declared.terms.Terms.{Terms}
use Rattle.node_run.specs.Openings.{IsShardAt, IsUnused}
use Rattle.node_run.specs.Roles.{callers_for}
use Rattle.node_run.proofs.Walking.{one_behind}
use Rattle.node_run.proofs.tests.unstarted.opened_seat.Goals as goal

pub returns : goal.returns
returns c =
    let shard = c.open.new.shard in
    let setup = c.in_ok-setup.setup in
    let items = c.in_ok-vec.ensures.items in
    let callers = c.in_ok-callers.callers in
    let many : callers ≡ callers_for (length c.in_ok-incoming.incoming.items) 2 (length c.new-2.result.items) = search rules in
    let unused : IsUnused callers shard = c.in_ok-open.ensures.unused in
    let terms = c.in_ok-open.ensures.terms in
    let placed : IsShardAt setup 1 0 shard = record {
      shape_is = ap (λ (t : Terms). t.shape) terms ∙ c.in_ok-shard.ensures.shape;
      setup_is = ap (λ (t : Terms). t.setup) terms ∙ c.in_ok-shard.ensures.setup;
    } in
    record {
      opens = record {
        some = search rules;
        few = search rules;
        working = search rules;
        callers = search rules;
        places = subst (λ (xs : List ShardState). (i : ℕ) (one : ShardState) → slice_get xs i ≡ Some one → IsShardAt setup (length xs) i one) (sym items)
            (one_behind (λ i one. IsShardAt setup 1 i one) [] shard (λ i one is. absurd (cc)) placed);
        unused = subst (λ (xs : List ShardState). All (IsUnused (callers_for (length c.in_ok-incoming.incoming.items) 2 (length c.new-2.result.items))) xs) (sym items)
            (subst (λ n. All (IsUnused n) (shard ∷ [])) many (All-cons (IsUnused callers) shard [] unused (All-nil (IsUnused callers))));
      };
      ciphertext_is = c.in_ok-setup.ensures;
    }
