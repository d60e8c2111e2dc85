-- What came of the threads of a life.
use Rattle.std.specs.Prelude.{⊤, List}
use Rattle.std.specs.Global.{Vec}
use Rattle.mix_shard.specs.Items.{Item}
use Rattle.mix_shard.specs.declared.entries.Told.{Told}
use Rattle.turn_lock.specs.Seen.{Caller}
use Rattle.node_actors.specs.declared.actors.works.Left.{Left}
use Rattle.node_run.specs.declared.life.opening.Desk.{Desk}
use Rattle.node_run.specs.declared.life.running.Outcome as came
use Rattle.node_run.specs.declared.life.running.Outcome.TheVariants as which

module _ {R S N O K M D Z W : Type 0} where
  -- where all have ended: what they left
  abbrev pub IfLeft : came.Outcome R S N O K M D Z W → (List (Left (Caller Told) Item N O) → Type 0) → Type 0
  IfLeft (which.Left lefts) holds = holds lefts.items
  IfLeft _ holds = ⊤

  -- where none was run: the passes of each
  abbrev pub IfUnrun : came.Outcome R S N O K M D Z W → (List (Vec (Caller Told)) → Type 0) → Type 0
  IfUnrun (which.NoThread hands) holds = holds hands.items
  IfUnrun (which.Memory hands) holds = holds hands.items
  IfUnrun _ holds = ⊤

  -- where none was made: what was there for them
  abbrev pub IfUnstaffed : came.Outcome R S N O K M D Z W → (List (Desk R S N O K M D Z W) → Type 0) → Type 0
  IfUnstaffed (which.Unstaffed desks) holds = holds desks.items
  IfUnstaffed _ holds = ⊤

  -- one couldn't be started
  abbrev pub HasNoThread : came.Outcome R S N O K M D Z W → Type 0
  HasNoThread (which.NoThread hands) = ⊤
  HasNoThread _ = ⊥
