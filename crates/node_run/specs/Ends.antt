-- A node that has ended: what its closing asks of what the callers left, and what it gives.
use Rattle.std.specs.Prelude.{◌≡◌, ◌<◌, ℕ, false, List, [], Some, length, slice_get}
use Rattle.std.specs.Global.{Vec}
use Rattle.mix_base.specs.Suites.{SuiteMeaning}
use Rattle.mix_shard.specs.Items.{Item}
use Rattle.mix_shard.specs.Origins.{origin_of}
use Rattle.mix_shard.specs.Shards.{IsKept, ShardState}
use Rattle.mix_shard.specs.declared.entries.Told.{Told}
use Rattle.turn_lock.specs.Seen.{Caller, Lock}
use Rattle.node_actors.specs.declared.actors.works.Left.{Left}
use Rattle.node_run.specs.Accounts.{dropped_of, hands_of, unsent_of}
use Rattle.node_run.specs.Closings.{AreHands}
use Rattle.node_run.specs.Gatherings.{all_of, count_in, link_in, link_out_in, local_in, receiver_in, senders_in}
use Rattle.node_run.specs.Halls.{HallState}
use Rattle.node_run.specs.Openings.{AreFreshHands}
use Rattle.node_run.specs.Settlings.{CanSettle}

module _ {N O : Type 0} where
  -- the callers of this hall have ended, and left this
  pub record CanEnd (hall : HallState) (lefts : List (Left (Caller Told) Item N O)) : Type 0 where
    pub hands : AreHands hall.locks (hands_of lefts)
    pub settle : CanSettle hall.queues (all_of receiver_in lefts) (all_of senders_in lefts)

  -- a node's links and local packets are those that its callers left, in the callers' order; its counts are the sums of theirs
  pub record IsEnd (lefts : List (Left (Caller Told) Item N O)) (incoming : List N) (outgoing : List (List ℕ × O)) (local : List Item) (unsent dropped : ℕ)
      : Type 0 where
    pub incoming_are : incoming ≡ all_of link_in lefts
    pub outgoing_are : outgoing ≡ all_of link_out_in lefts
    pub local_are : local ≡ local_in lefts
    pub unsent_is : unsent ≡ count_in unsent_of lefts
    pub dropped_is : dropped ≡ count_in dropped_of lefts

-- ---- a life that didn't begin

-- each caller's passes, as the locks were made
abbrev pub AreUnused : HallState → List (Vec (Caller Told)) → Type 0
AreUnused hall hands = AreFreshHands hall.locks hall.callers hands

-- the shard behind a lock as it was handed in: it holds nothing, and nobody is done
pub record IsBack (tells : Type 0) (suite : SuiteMeaning) (lock : Lock Told) (shard : ShardState) : Type 0 where
  pub origin : origin_of shard ≡ lock.origin
  pub told : shard.told ≡ lock.story
  pub kept : IsKept tells suite shard
  pub empty : shard.state.held ≡ []
  pub open_still : (caller : ℕ) → caller < shard.terms.callers → slice_get shard.state.done caller ≡ Some false

-- those behind these locks, in their order
pub record AreBack (tells : Type 0) (suite : SuiteMeaning) (locks : List (Lock Told)) (shards : List ShardState) : Type 0 where
  pub many : length shards ≡ length locks
  pub each : (i : ℕ) (lock : Lock Told) (shard : ShardState) → slice_get locks i ≡ Some lock → slice_get shards i ≡ Some shard → IsBack tells suite lock shard
