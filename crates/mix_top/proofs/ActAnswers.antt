-- What the answers of the node's calls come to: how each may end the run.
use Rattle.std.proofs.Common.{◌≡◌, ℕ, Option, Some, None, Result, Ok, Err, sym, subst, ap, ◌∙◌}
use Rattle.std.specs.Result.{IsErr, IfErr}
use Rattle.mix_base.specs.Suites.{SuiteMeaning}
use Rattle.spent_store.specs.declared.faults.OpenStore.{OpenStore}
use Rattle.spent_store.specs.declared.summary.Book.{Book}
use Rattle.mix_shard.specs.Faults.{IsObjection, OfOpening}
use Rattle.mix_shard.specs.Items.{Item}
use Rattle.mix_shard.specs.declared.faults.Denied.{Denied}
use Rattle.mix_shard.specs.declared.faults.RotateFault.{RotateFault}
use Rattle.node_core.specs.Nodes.{AtShard, NodeState}
use Rattle.node_core.specs.Steps.{ClaimsFor, Readies, Retires, claimed_by, place_of}
use Rattle.node_core.specs.declared.answers.Claimed.{Claimed}
use Rattle.node_core.specs.declared.setup.NodeSetup.{NodeSetup}
use Rattle.lab_text.specs.declared.statuses.Status.{Status}
use Rattle.mix_top.specs.Acts.{Opens, Rotates}
use Rattle.mix_top.specs.Progress.{IsToObject}
use Rattle.mix_top.specs.Steps.{Ends, ends_opening, ends_rotation}

module _ (tells : Type 0) (suite : SuiteMeaning) (setup : NodeSetup) (shard : ℕ) (status : Status) (old new : NodeState) where
  -- an opening that neither succeeded nor failed by the disk
  pub opening_ends : (opened : Result Book OpenStore) → old.setup ≡ setup → AtShard (Readies tells suite opened) shard old new → IsErr opened
      → IfErr opened (λ fault. ends_opening setup shard fault ≡ Some status) → Ends tells suite (Opens shard) status old new
  opening_ends (Ok book) same readies fails ends = absurd (cc)
  opening_ends (Err fault) same readies fails ends = (fault, readies, ap (λ (s : NodeSetup). ends_opening s shard fault) same ∙ ends)

  -- a rotation whose opening did so, or that wanted memory
  pub rotation_ends : (moment : ℕ) (rotated : Result (Unit {0}) RotateFault) → old.setup ≡ setup → AtShard (Retires tells suite moment rotated) shard old new
      → IsErr rotated → IfErr rotated (λ fault. ends_rotation setup shard fault ≡ Some status) → Ends tells suite (Rotates moment shard) status old new
  rotation_ends moment (Ok done) same retires fails ends = absurd (cc)
  rotation_ends moment (Err fault) same retires fails ends = (fault, retires, ap (λ (s : NodeSetup). ends_rotation s shard fault) same ∙ ends)

-- what a shard's journal objects to is said by the node's answer
pub claim_objects : (tells : Type 0) (suite : SuiteMeaning) (worker : ℕ) (held : Option Item) (answer : Claimed) (old new : NodeState)
    → ClaimsFor tells suite worker held answer old new → IsToObject answer
claim_objects tells suite worker None answer old new claims = subst IsToObject (sym claims.0) tt
claim_objects tells suite worker (Some item) answer old new claims = subst IsToObject (sym claims.answer_is) (by_result claims.result claims.asks.changes.objects)
  where
    by_result : (result : Result (Unit {0}) Denied) → IfErr result (λ why. OfOpening why IsObjection) → IsToObject (claimed_by item.number (place_of old.setup item.tag) result)
    by_result (Ok done) objects = tt
    by_result (Err why) objects = objects
