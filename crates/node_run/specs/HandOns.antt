-- What was handed on: the takings of a caller are those of its take log, each is of a packet that was accepted at that
-- shard, and none is handed on twice.
use Rattle.std.specs.Prelude.{◌≡◌, false, ◌++◌, ℕ, ◌+◌, ◌-◌, ◌*◌, ◌^◌, All, List, Option, Some, flat_map, map, min, slice_get}
use Rattle.std.specs.List.{AllZip}
use Rattle.mix_base.specs.Suites.{SuiteMeaning}
use Rattle.mix_shard.specs.Entries.{has_opened}
use Rattle.mix_shard.specs.Items.{Item}
use Rattle.mix_shard.specs.Laws.{NoneTwice, accepted}
use Rattle.mix_shard.specs.declared.entries.Told.{Told}
use Rattle.turn_lock.specs.Seen.{Caller}
use Rattle.node_actors.specs.Calls.{takes}
use Rattle.node_actors.specs.Fates.{IsUnwrapped}
use Rattle.node_actors.specs.Handing.{HandsOver, KeepsLocal, link_out}
use Rattle.node_actors.specs.Takings.{IsTakeOf, WasAccepted, taken_at, unsent_in}
use Rattle.node_actors.specs.declared.actors.takings.Taking.{Taking}
use Rattle.node_actors.specs.declared.actors.works.Left.{Left}
use Rattle.node_actors.specs.declared.actors.works.Work.{Work}
use Rattle.node_actors.specs.declared.actors.works.Work.TheVariants.{Connected, Kept}
use Rattle.node_run.specs.Accounts.{calls_of, takings_of, unsent_of}
use Rattle.node_run.specs.Lefts.{Staffing}
use Rattle.node_run.specs.Orders.{Differ}

-- the packet was accepted at its shard since the lock was made
abbrev pub IsAcceptedAt : List (List Told) → Taking Item → Type 0
IsAcceptedAt tales taking = (tale : List Told) × (slice_get tales taking.shard ≡ Some tale) × WasAccepted tale taking.item.value

-- between two openings of its journal a shard accepts no pair of epoch and tag twice
abbrev pub AcceptsOnceBetween : List Told → Type 0
AcceptsOnceBetween tale = (first stretch last : List Told) → tale ≡ first ++ (stretch ++ last) → has_opened stretch ≡ false → NoneTwice (accepted stretch)

-- the number and the pair of each packet that was taken out
abbrev pub taken_numbers : List (Taking Item) → List ℕ
taken_numbers log = map (λ taking. taking.item.value.number) log

abbrev pub taken_pairs : List (Taking Item) → List (ℕ × List ℕ)
taken_pairs log = map (λ taking. (taking.item.value.epoch, taking.item.value.tag)) log

module _ {N O C : Type 0} (suite : SuiteMeaning) (given : O → Option (List (List ℕ))) (faults : O → ℕ) (node : Staffing N O C) where
  -- a caller's take log: at each shard the caller's takings are those of the log, one for one and in its order; each
  -- packet was accepted there, and is unwrapped under the keys live at its receipt; and those that weren't handed on
  -- are counted
  pub record HasTakings (tales : List (List Told)) (caller : ℕ) (work : Work Item N O) : Type 0 where
    pub takes_are : (i : ℕ) (tale : List Told) → slice_get tales i ≡ Some tale
        → AllZip (IsTakeOf caller) (taken_at i (takings_of work)) (takes (calls_of caller tale))
    pub accepted : All (IsAcceptedAt tales) (takings_of work)
    pub items : All (λ taking. let item = taking.item.value in IsUnwrapped suite node.hall.setup item.number item.at item.packet item) (takings_of work)
    pub unsent : unsent_of work ≡ min (unsent_in (takings_of work)) (2 ^ 64 - 1)

  -- the connector of a link: see HandsOver
  abbrev pub HasHandedOver : List ℕ × O → Work Item N O → Type 0
  HasHandedOver out (Connected hop link log unsent) =
      (hop ≡ out.0) × HandsOver out.0 (link_out given faults out.1) (link_out given faults link) log.items
  HasHandedOver out _ = ⊥

  -- the local connector: see KeepsLocal
  abbrev pub HasKept : Work Item N O → Type 0
  HasKept (Kept local log unsent) = KeepsLocal (map (λ out. out.0) node.outgoing) local.items log.items
  HasKept _ = ⊥

  -- no packet is taken out twice; nor is a pair of epoch and tag, where the racks tell their contents; and where they
  -- don't, none is accepted twice between two openings
  pub record HandOns (tells : Type 0) (lefts : List (Left (Caller Told) Item N O)) (tales : List (List Told)) : Type 0 where
    pub takings : (caller : ℕ) (gave : Left (Caller Told) Item N O) → slice_get lefts caller ≡ Some gave → HasTakings tales caller gave.work
    pub local : (gave : Left (Caller Told) Item N O) → slice_get lefts 1 ≡ Some gave → HasKept gave.work
    pub links : (place : ℕ) (out : List ℕ × O) (gave : Left (Caller Told) Item N O) → slice_get node.outgoing place ≡ Some out
        → slice_get lefts (2 * place + 3) ≡ Some gave → HasHandedOver out gave.work
    pub once : Differ (flat_map (λ gave. taken_numbers (takings_of gave.work)) lefts)
    pub pairs_once : tells → Differ (flat_map (λ gave. taken_pairs (takings_of gave.work)) lefts)
    pub between : (i : ℕ) (tale : List Told) → slice_get tales i ≡ Some tale → AcceptsOnceBetween tale
