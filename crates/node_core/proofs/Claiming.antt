-- A worker's packet is claimed at the shard of its tag.
use Rattle.std.proofs.Common.{◌≡◌, ℕ, zero, suc, List, [], ◌∷◌, get_or, set, Option, Some, None, Result, ap, subst, ◌∙◌}
use Rattle.std.specs.List.{All, slice_get}
use Rattle.std.proofs.lemmas.List.Elements.{All-head, All-tail}
use Rattle.mix_base.specs.Suites.{SuiteMeaning}
use Rattle.mix_shard.specs.Items.{Item}
use Rattle.mix_shard.specs.Shards.{ShardState}
use Rattle.mix_shard.specs.declared.faults.Denied.{Denied}
use Rattle.mix_shard.specs.declared.setup.Setup.{Setup}
use Rattle.node_core.specs.Nodes.{HeldFor, NodeState}
use Rattle.node_core.specs.Steps.{Admits, ClaimsFor, claimed_by, place_of, worker_at}
use Rattle.node_core.specs.declared.answers.Claimed.{Claimed}

-- what a worker holds was unwrapped under the node's setup
pub held_setup : (setup : Setup) (workers : List (Option Item)) (worker : ℕ) (item : Item) → All (HeldFor setup) workers
    → get_or workers worker None ≡ Some item → item.setup ≡ setup
held_setup setup [] worker item all holds = absurd (cc)
held_setup setup (first ∷ others) zero item all holds = subst (λ (h : Option Item). HeldFor setup h) holds (All-head (HeldFor setup) first others all)
held_setup setup (first ∷ others) (suc worker) item all holds = held_setup setup others worker item (All-tail (HeldFor setup) first others all) holds

pub item_claimed : (tells : Type 0) (suite : SuiteMeaning) (worker : ℕ) (item : Item) (answer : Claimed) (old : NodeState) (before after : ShardState) (place : ℕ)
    (result : Result (Unit {0}) Denied) → worker_at old worker ≡ Some item → place ≡ place_of old.setup item.tag → slice_get old.shards place ≡ Some before
    → Admits tells suite item result before after → answer ≡ claimed_by item.number place result
    → ClaimsFor tells suite worker (worker_at old worker) answer old (record old { workers = set old.workers worker None; shards = set old.shards place after })
item_claimed tells suite worker item answer old before after place result holds at there admits answer_is =
    rw (holds) (record {
      result = result;
      answer_is = answer_is ∙ ap (λ (p : ℕ). claimed_by item.number p result) at;
      asks = record {
        before = before;
        after = after;
        there = subst (λ (p : ℕ). slice_get old.shards p ≡ Some before) at there;
        changes = admits;
        new_is = ap (λ (p : ℕ). record old { workers = set old.workers worker None; shards = set old.shards p after }) at;
      };
    })
