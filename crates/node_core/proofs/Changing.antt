-- A shard that is made ready, rotated or armed stays its node's.
use Rattle.std.proofs.Common.{◌≡◌, ℕ, ◌<◌, Result, Ok, Err, ap, arith}
use Rattle.mix_base.specs.Suites.{SuiteMeaning}
use Rattle.mix_shard.specs.Shards.{IsKept, ShardState}
use Rattle.mix_shard.specs.declared.terms.Terms.{Terms}
use Rattle.spent_store.specs.declared.faults.OpenStore.{OpenStore}
use Rattle.spent_store.specs.declared.faults.OpenStore.TheVariants.{Foreign, OtherShape, Failed, Memory}
use Rattle.spent_store.specs.declared.summary.Book.{Book}
use Rattle.node_core.specs.Nodes.{IsShardOf}
use Rattle.node_core.specs.Steps.{Arms, Readies}
use Rattle.node_core.specs.declared.setup.NodeSetup.{NodeSetup}

-- a node is a caller of its shards
pub is_caller : (tells : Type 0) (suite : SuiteMeaning) (setup : NodeSetup) (index : ℕ) (shard : ShardState) → IsShardOf tells suite setup index shard
    → 0 < shard.terms.callers
is_caller tells suite setup index shard is =
    let one : shard.terms.callers ≡ 1 = ap (λ (t : Terms). t.callers) is.terms in
    omega (arith, one)

module _ (tells : Type 0) (suite : SuiteMeaning) (old new : ShardState) where
  pub terms_of_ready : (result : Result Book OpenStore) → Readies tells suite result old new → new.terms ≡ old.terms
  terms_of_ready (Ok book) readies = readies.ok.adds.began.terms
  terms_of_ready (Err (Foreign area at)) readies = readies.refused.began.terms
  terms_of_ready (Err (OtherShape stored)) readies = readies.refused.began.terms
  terms_of_ready (Err Failed) readies = readies.refused.began.terms
  terms_of_ready (Err Memory) readies = readies.refused.began.terms

  -- arming changes nothing that a shard keeps
  pub kept_armed : (calls : ℕ) → Arms calls old new → IsKept tells suite old → IsKept tells suite new
  kept_armed calls is kept = rw (is) (record {
    tale = kept.tale;
    reads = kept.reads;
    covers = kept.covers;
    failures = kept.failures;
    no_fewer = kept.no_fewer;
    since_made = kept.since_made;
  })
