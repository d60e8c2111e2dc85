-- The shards of a node as they are opened on its racks, and how a run ends for a rack that isn't.
use Rattle.std.specs.Prelude.{◌≡◌, ◌⊎◌, ⊤, ℕ, ◌+◌, ◌^◌, ◌<◌, ◌≤◌, List, [], ◌∷◌, Option, Some, slice_get, Result, Ok, IsOk}
use Rattle.std.specs.Result.{result_err}
use Rattle.mix_base.specs.Faults.{Rose}
use Rattle.mix_base.specs.Shards.{IsShape}
use Rattle.mix_base.specs.Suites.{SuiteMeaning}
use Rattle.mix_base.specs.declared.shards.Shape.{Shape}
use Rattle.replay_disk.specs.Disk.{RackState}
use Rattle.spent_store.specs.Books.{StoredBook}
use Rattle.spent_store.specs.Changes.{made}
use Rattle.spent_store.specs.Journals.{sound_with}
use Rattle.spent_store.specs.Stores.{book_in}
use Rattle.spent_store.specs.declared.faults.Objection.{Objection}
use Rattle.spent_store.specs.declared.faults.Objection.TheVariants as objections
use Rattle.spent_store.specs.declared.faults.OpenStore.{OpenStore}
use Rattle.spent_store.specs.declared.faults.OpenStore.TheVariants as faults
use Rattle.lab_text.specs.declared.statuses.Status.{Status}
use Rattle.lab_text.specs.declared.statuses.Status.TheVariants.{Disk, Foreign, OtherShape, Memory}
use Rattle.mix_shard.specs.Shards.{BeganAlike, IsKept, ShardState, new_shard}
use Rattle.mix_shard.specs.Tale.{began}
use Rattle.mix_shard.specs.declared.entries.Entry.TheVariants.{Reopened}
use Rattle.mix_shard.specs.declared.entries.Told.{Told}
use Rattle.mix_shard.specs.declared.terms.Terms.{Terms}
use Rattle.net_run.specs.declared.opening.NodePlan.{NodePlan}

-- ---- what is asked

-- 1 to 16 shards, and somebody who opens them
pub record IsPlan (plan : NodePlan) : Type 0 where
  pub some : 1 ≤ plan.shards
  pub most : plan.shards ≤ 16
  pub callers : 0 < plan.callers

-- a shard of the node, and its terms
abbrev pub shape_at : NodePlan → ℕ → Shape
shape_at plan index = record { shards = plan.shards; index = index }

abbrev pub terms_at : NodePlan → ℕ → Terms
terms_at plan index = record { shape = shape_at plan index; setup = plan.setup; limit = 2 ^ 26; callers = plan.callers }

-- what a rack says as that shard's
abbrev pub book_at : NodePlan → ℕ → RackState → Result StoredBook Objection
book_at plan index rack = book_in rack.areas (shape_at plan index) (2 ^ 26)

-- a shard of the node to which nothing was done
pub record IsFresh (plan : NodePlan) (shape : Shape) (shard : ShardState) : Type 0 where
  pub allowed : IsShape shape
  pub shape_is : shape ≡ shape_at plan shape.index
  pub callers : 0 < plan.callers
  pub fresh : shard ≡ new_shard (terms_at plan shape.index) shard.rack shard.spare

-- ---- a shard that was opened

-- the one entry of its tale, which says so
pub record IsOpening (told : List Told) : Type 0 where
  pub entry : Told
  pub floor : ℕ
  pub pairs : ℕ
  pub only : told ≡ entry ∷ []
  pub entry_is : entry.entry ≡ Reopened 0 floor pairs

-- shard INDEX of the node, made on this rack and opened: nothing is held and nobody has ended; its book is what the rack
-- said, with its root made
pub record IsOpened (tells : Type 0) (suite : SuiteMeaning) (plan : NodePlan) (index : ℕ) (rack : RackState) (shard : ShardState) : Type 0 where
  pub began_on : BeganAlike (new_shard (terms_at plan index) rack 0) shard
  pub opening : IsOpening shard.told
  pub book : StoredBook
  pub state : shard.state ≡ record (began (terms_at plan index) rack.areas) { journal = sound_with book }
  pub read : tells → (said : StoredBook) × (book_at plan index rack ≡ Ok said) × (book ≡ made (shape_at plan index) said)
  pub arms : shard.rack.arms ≡ rack.arms
  pub crashes : shard.rack.crashes ≡ rack.crashes
  pub kept : IsKept tells suite shard

-- on these racks shard INDEX of the node and those behind it
abbrev pub AreOpened : Type 0 → SuiteMeaning → NodePlan → ℕ → List RackState → List ShardState → Type 0
AreOpened tells suite plan index [] [] = ⊤
AreOpened tells suite plan index (rack ∷ racks) (shard ∷ shards) =
    IsOpened tells suite plan index rack shard × AreOpened tells suite plan (index + 1) racks shards
AreOpened tells suite plan index _ _ = ⊥

-- ---- a rack that isn't opened

-- how the run ends by the answer of its journal
abbrev pub fault_status : ℕ → Shape → OpenStore → Status
fault_status number shape faults.Failed = Disk number shape.index
fault_status number shape (faults.Foreign area at) = Foreign number shape.index area at
fault_status number shape (faults.OtherShape stored) = OtherShape number shape.index stored shape
fault_status number shape faults.Memory = Memory

-- this is against what it says
abbrev pub IsAgainst : NodePlan → ℕ → RackState → Objection → Type 0
IsAgainst plan index rack objection = result_err (book_at plan index rack) ≡ Some objection

-- the cause of a status, which names the node and the shard: the disk failed, or where the rack tells, it holds what no
-- store of this shape has written; want of memory has none
abbrev pub StopsOpening : Type 0 → NodePlan → ℕ → RackState → RackState → Status → Type 0
StopsOpening tells plan index old new (Disk node shard) = (node ≡ plan.number) × (shard ≡ index) × Rose old.faults new.faults
StopsOpening tells plan index old new (Foreign node shard area at) =
    (node ≡ plan.number) × (shard ≡ index) × (tells → IsAgainst plan index old (objections.Foreign area at))
StopsOpening tells plan index old new (OtherShape node shard stored asked) =
    (node ≡ plan.number) × (shard ≡ index) × (asked ≡ shape_at plan index) × (tells → IsAgainst plan index old (objections.OtherShape stored))
StopsOpening tells plan index old new Memory = ⊤
StopsOpening tells plan index old new _ = ⊥

-- the first rack that isn't opened is the cause of the status; those before it have books
pub record IsStoppedBy (tells : Type 0) (plan : NodePlan) (old new : List RackState) (status : Status) : Type 0 where
  pub index : ℕ
  pub was : RackState
  pub is : RackState
  pub was_there : slice_get old index ≡ Some was
  pub is_there : slice_get new index ≡ Some is
  pub stops : StopsOpening tells plan index was is status
  pub before : tells → (i : ℕ) (rack : RackState) → i < index → slice_get old i ≡ Some rack → IsOk (book_at plan i rack)

-- how the run ends for a node whose shards aren't opened
abbrev pub StopsNode : Type 0 → NodePlan → List RackState → List RackState → Status → Type 0
StopsNode tells plan old new status = (status ≡ Memory) ⊎ IsStoppedBy tells plan old new status
