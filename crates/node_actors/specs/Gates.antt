-- Words of the proof alone: what the threads of one call know of their gate, and of which actors they are.
use Rattle.std.specs.Prelude.{◌≡◌, ℕ, Bool, true, false, List, ◌++◌, All, map, reverse}
use Rattle.std.specs.declared.sync.OnceToken.{OnceToken}
use Rattle.node_actors.specs.declared.spawner.running.Outcome.{Outcome}
use Rattle.node_actors.specs.declared.spawner.running.Outcome.TheVariants.{Acted, Back}
use Rattle.node_actors.specs.declared.spawner.running.Answer.{Answer}
use Rattle.node_actors.specs.declared.spawner.running.Asked.{Asked}
use Rattle.node_actors.specs.declared.spawner.running.NotStarted.{NotStarted}
use Rattle.node_actors.specs.declared.spawner.running.NotStarted.TheVariants.{Refused, Memory}

-- the gate of this name has said this word
abbrev pub IsToken : ℕ → Bool → OnceToken Bool → Type 0
IsToken gate word token = (token.of ≡ gate) × (token.value ≡ word)

module _ {A D : Type 0} (gives : A → D → Type 0) where
  -- after go what the actor gave, after back the actor as it was
  abbrev pub IsOutcome : A → Outcome A D → Bool → Type 0
  IsOutcome actor (Acted done) word = (word ≡ true) × gives actor done
  IsOutcome actor (Back same) word = (word ≡ false) × (same ≡ actor)

  -- an answer of this actor, by what this gate has said
  abbrev pub IsAnswer : A → ℕ → Answer A D → Type 0
  IsAnswer actor gate answer = (answer.order.of ≡ gate) × IsOutcome actor answer.outcome answer.order.value

module _ {A : Type 0} where
  -- all actors: those that are left, and behind them those of the threads that wait at this gate, the last thread's first
  abbrev pub AreFrom : ℕ → List A → List A → List (Asked A) → Type 0
  AreFrom gate left actors asked = All (λ a. a.gate.value.id ≡ gate) asked × (actors ≡ left ++ reverse (map (λ a. a.actor.value) asked))

  -- the actors that weren't run
  abbrev pub unstarted : NotStarted A → List A
  unstarted (Refused actors) = actors.items
  unstarted (Memory actors) = actors.items
