-- An act gives at most one line of the report, so a report has no more lines than its run has acts.
use Rattle.std.proofs.Common.{◌≡◌, ℕ, ◌+◌, ◌≤◌, List, [], ◌∷◌, ◌++◌, length, Option, Some, None, IfSome, Result, Ok, Err, inl, inr, ap, subst, arith}
use Rattle.std.proofs.lemmas.List.{length-append}
use Rattle.mix_base.specs.Suites.{SuiteMeaning}
use Rattle.spent_store.specs.declared.faults.OpenStore.{OpenStore}
use Rattle.spent_store.specs.declared.faults.OpenStore.TheVariants as open_store
use Rattle.spent_store.specs.declared.summary.Book.{Book}
use Rattle.mix_shard.specs.declared.faults.Denied.{Denied}
use Rattle.mix_shard.specs.declared.faults.Denied.TheVariants as denied
use Rattle.mix_shard.specs.declared.faults.RotateFault.{RotateFault}
use Rattle.mix_shard.specs.declared.faults.RotateFault.TheVariants as rotate
use Rattle.node_core.specs.Nodes.{NodeState}
use Rattle.node_core.specs.declared.answers.Claimed.{Claimed}
use Rattle.node_core.specs.declared.answers.Claimed.TheVariants as claimed
use Rattle.node_core.specs.declared.answers.Peeled.{Peeled}
use Rattle.node_core.specs.declared.answers.Peeled.TheVariants as peels
use Rattle.mix_top.specs.Acts.{Act, Opens, Reopens, Receives, Peels, Claims, Sends, Rotates, Arms, Crashes}
use Rattle.mix_top.specs.Report.{Line}
use Rattle.mix_top.specs.Run.{Runs}
use Rattle.mix_top.specs.Steps.{Does, says_claimed, says_denied, says_opened, says_peeled, says_reopened, says_rotated}

abbrev IsBrief : List Line → Type 0
IsBrief lines = length lines ≤ 1

opened_brief : (shard : ℕ) (result : Result Book OpenStore) → IfSome (says_opened shard result) IsBrief
opened_brief shard (Ok book) = omega arith
opened_brief shard (Err open_store.Failed) = omega arith
opened_brief shard (Err (open_store.Foreign area at)) = tt
opened_brief shard (Err (open_store.OtherShape stored)) = tt
opened_brief shard (Err open_store.Memory) = tt

reopened_brief : (shard : ℕ) (result : Result Book OpenStore) → IfSome (says_reopened shard result) IsBrief
reopened_brief shard (Ok book) = omega arith
reopened_brief shard (Err open_store.Failed) = omega arith
reopened_brief shard (Err (open_store.Foreign area at)) = tt
reopened_brief shard (Err (open_store.OtherShape stored)) = tt
reopened_brief shard (Err open_store.Memory) = tt

peeled_brief : (worker : ℕ) (answer : Peeled) → IsBrief (says_peeled worker answer)
peeled_brief worker (peels.Holding number) = omega arith
peeled_brief worker (peels.Refused number why) = omega arith
peeled_brief worker peels.Idle = omega arith
peeled_brief worker peels.Busy = omega arith

denied_brief : (number shard : ℕ) (why : Denied) → IfSome (says_denied number shard why) IsBrief
denied_brief number shard (denied.Retired floor) = omega arith
denied_brief number shard denied.Spent = omega arith
denied_brief number shard denied.ShardFull = omega arith
denied_brief number shard denied.Disk = omega arith
denied_brief number shard (denied.Journal why) = tt
denied_brief number shard denied.Memory = tt

claimed_brief : (worker : ℕ) (answer : Claimed) → IfSome (says_claimed worker answer) IsBrief
claimed_brief worker (claimed.Accepted number) = omega arith
claimed_brief worker (claimed.Denied number shard why) = denied_brief number shard why
claimed_brief worker claimed.Empty = omega arith

rotated_brief : (shard : ℕ) (result : Result (Unit {0}) RotateFault) → IfSome (says_rotated shard result) IsBrief
rotated_brief shard (Ok done) = omega arith
rotated_brief shard (Err rotate.RootFull) = omega arith
rotated_brief shard (Err rotate.Disk) = omega arith
rotated_brief shard (Err (rotate.Journal why)) = tt
rotated_brief shard (Err rotate.Memory) = tt

-- where an answer gives these lines
given_brief : (made : Option (List Line)) (lines : List Line) → IfSome made IsBrief → made ≡ Some lines → IsBrief lines
given_brief made lines brief is = subst (λ (o : Option (List Line)). IfSome o IsBrief) is brief

no_more : (lines : List Line) (few : ℕ) → few ≤ 1 → length lines ≡ few → IsBrief lines
no_more lines few at_most is = omega (arith, at_most, is)

module _ (tells : Type 0) (suite : SuiteMeaning) where
  act_brief : (act : Act) (lines : List Line) (old new : NodeState) → Does tells suite act lines old new → IsBrief lines
  act_brief (Opens shard) lines old new does = given_brief (says_opened shard does.0) lines (opened_brief shard does.0) does.2
  act_brief (Reopens shard) lines old new does = given_brief (says_reopened shard does.0) lines (reopened_brief shard does.0) does.2
  act_brief (Receives moment packet) lines old new does = no_more lines 0 (omega arith) (ap length does.1)
  act_brief (Peels worker) lines old new does = let same = ap length does.2 in let brief = peeled_brief worker does.0 in omega (arith, same, brief)
  act_brief (Claims worker) lines old new does = given_brief (says_claimed worker does.0) lines (claimed_brief worker does.0) does.2
  act_brief (Sends moment) lines old new (inl none) = no_more lines 1 (omega arith) (ap length none.2)
  act_brief (Sends moment) lines old new (inr sent) = no_more lines 1 (omega arith) (ap length sent.2)
  act_brief (Rotates moment shard) lines old new does = given_brief (says_rotated shard does.0) lines (rotated_brief shard does.0) does.2
  act_brief (Arms shard calls) lines old new does = no_more lines 0 (omega arith) (ap length does.1)
  act_brief (Crashes pick) lines old new does = no_more lines 0 (omega arith) (ap length does.1)

  pub run_brief : (acts : List Act) (old new : NodeState) (said : List Line) → Runs tells suite old acts said new → length said ≤ length acts
  run_brief [] old new said (none, same) = let few = ap length none in omega (arith, few)
  run_brief (act ∷ acts) old new said (between, front, back, does, run, joined) =
      let whole = ap length joined in
      let parts = length-append front back in
      let one = act_brief act front old between does in
      let others = run_brief acts between new back run in
      omega (arith, whole, parts, one, others)
