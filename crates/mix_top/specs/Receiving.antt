-- Words of private functions and proofs alone: what it is to take the lines of a report one after the other.
use Rattle.std.specs.Prelude.{◌≡◌, ℕ, List, [], ◌++◌, Option, take}
use Rattle.sphinx_unwrap.specs.declared.outcome.Out.{Out}
use Rattle.lab_text.specs.Given.{Gave}
use Rattle.mix_shard.specs.Items.{Item}
use Rattle.mix_top.specs.Report.{Line, text}

-- Two relations say what a receiver took between: these lines, or of these a front before it refused. Nothing taken changes
-- nothing, what is taken behind lines is taken with them, and all lines are a front of themselves.
pub record TakesInTurn {R : Type 0} (took took_front : R → R → List Line → Type 0) : Type 0 where
  pub nothing : (receiver : R) → took receiver receiver []
  pub behind : (old between new : R) (first others : List Line) → took old between first → took between new others → took old new (first ++ others)
  pub front_behind : (old between new : R) (first others : List Line) → took old between first → took_front between new others
      → took_front old new (first ++ others)
  pub whole_front : (old new : R) (lines : List Line) → took old new lines → took_front old new lines

-- what the line of a packet that is handed on says of it
pub record IsSaidOf (item : Item) (number epoch : ℕ) (tag : List ℕ) (out : Out) : Type 0 where
  pub number_is : item.number ≡ number
  pub epoch_is : item.epoch ≡ epoch
  pub tag_is : item.tag ≡ tag
  pub out_is : item.out ≡ out

-- where a sink tells, it was given the text of these lines; or a front of it
abbrev pub GaveText : Option (List ℕ) → Option (List ℕ) → List Line → Type 0
GaveText before after lines = Gave before after (λ bytes. bytes ≡ text lines)

abbrev pub GaveFront : Option (List ℕ) → Option (List ℕ) → List Line → Type 0
GaveFront before after lines = Gave before after (λ bytes. (count : ℕ) × (bytes ≡ take count (text lines)))
