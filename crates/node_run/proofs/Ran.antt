-- What came of the threads of a life, one fact from another.
use Rattle.std.proofs.Common.{List}
use Rattle.std.specs.Global.{Vec}
use Rattle.mix_shard.specs.Items.{Item}
use Rattle.mix_shard.specs.declared.entries.Told.{Told}
use Rattle.turn_lock.specs.Seen.{Caller}
use Rattle.node_actors.specs.declared.actors.works.Left as gave
use Rattle.node_run.specs.Runs.{HasNoThread, IfLeft, IfUnrun, IfUnstaffed}
use Rattle.node_run.specs.declared.life.opening.Desk.{Desk}
use Rattle.node_run.specs.declared.life.running.Outcome.{Outcome}
use Rattle.node_run.specs.declared.life.running.Outcome.TheVariants.{Left, NoThread, Memory, Unstaffed}

module _ {R S N O K M D Z W : Type 0} where
  pub left_so : (P Q : List (gave.Left (Caller Told) Item N O) → Type 0) → ((lefts : List (gave.Left (Caller Told) Item N O)) → P lefts → Q lefts) → (came : Outcome R S N O K M D Z W)
      → IfLeft came P → IfLeft came Q
  left_so P Q so (Left lefts) is = so lefts.items is
  left_so P Q so (NoThread hands) is = tt
  left_so P Q so (Memory hands) is = tt
  left_so P Q so (Unstaffed desks) is = tt

  pub unrun_so : (P Q : List (Vec (Caller Told)) → Type 0) → ((hands : List (Vec (Caller Told))) → P hands → Q hands) → (came : Outcome R S N O K M D Z W)
      → IfUnrun came P → IfUnrun came Q
  unrun_so P Q so (Left lefts) is = tt
  unrun_so P Q so (NoThread hands) is = so hands.items is
  unrun_so P Q so (Memory hands) is = so hands.items is
  unrun_so P Q so (Unstaffed desks) is = tt

  -- where all were made
  pub all_made : (Q : List (Desk R S N O K M D Z W) → Type 0) → (came : Outcome R S N O K M D Z W) → IfUnstaffed came (λ _. ⊥) → IfUnstaffed came Q
  all_made Q (Left lefts) is = tt
  all_made Q (NoThread hands) is = tt
  all_made Q (Memory hands) is = tt
  all_made Q (Unstaffed desks) is = absurd is

  -- where one couldn't be started nobody left anything
  pub nobody_left : (Q : List (gave.Left (Caller Told) Item N O) → Type 0) → (came : Outcome R S N O K M D Z W) → HasNoThread came → IfLeft came Q
  nobody_left Q (Left lefts) is = absurd is
  nobody_left Q (NoThread hands) is = tt
  nobody_left Q (Memory hands) is = absurd is
  nobody_left Q (Unstaffed desks) is = absurd is
