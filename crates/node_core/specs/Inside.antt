-- Words that only a node's own body uses.
use Rattle.std.specs.Prelude.{◌≡◌, ℕ, List, Option, None, Some, Contains, slice_get}
use Rattle.due_queue.specs.Queues.{IsDue, IsFirstDue, NoneDue, NotAfter}
use Rattle.due_queue.specs.declared.queue.Next.{Next}
use Rattle.mix_shard.specs.Items.{Item, whens}
use Rattle.mix_shard.specs.Shards.{ShardState}

-- what is due first of all that the shard of this place holds, and no later than anything that is due of what was seen
pub record StandsFirst (moment : ℕ) (shards : List ShardState) (seen : List Item) (place : ℕ) (next : Next) : Type 0 where
  pub shard : ShardState
  pub there : slice_get shards place ≡ Some shard
  pub item : Item
  pub found : IsFirstDue whens None moment shard.state.held item
  pub next_is : next ≡ whens item
  pub first : (other : Item) → Contains seen other → IsDue None moment (whens other) → NotAfter next (whens other)

-- what a search among the shards has found after it has seen these items
abbrev pub HasFound : ℕ → List ShardState → List Item → Option (ℕ × Next) → Type 0
HasFound moment shards seen None = NoneDue whens None moment seen
HasFound moment shards seen (Some found) = StandsFirst moment shards seen found.0 found.1
