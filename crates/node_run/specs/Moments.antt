-- The moments of a life: each is one that the node's clock may give.
use Rattle.std.specs.Prelude.{◌≡◌, ⊤, ℕ, All, List, Some, slice_get}
use Rattle.mix_shard.specs.Items.{Item}
use Rattle.mix_shard.specs.declared.entries.Entry.{Entry}
use Rattle.mix_shard.specs.declared.entries.Entry.TheVariants.{Claim, Take, Rotate, Done, Reopened}
use Rattle.mix_shard.specs.declared.entries.Told.{Told}
use Rattle.turn_lock.specs.Seen.{Caller}
use Rattle.node_actors.specs.declared.actors.works.Left.{Left}
use Rattle.node_run.specs.Accounts.{fates_of}

-- the receipt of a claim, and the moment of a taking or of a rotation, are such
abbrev pub IsAtMoment : (ℕ → Type 0) → Entry → Type 0
IsAtMoment may (Claim caller number epoch tag at answer) = may at
IsAtMoment may (Take caller number dest moment) = may moment
IsAtMoment may (Rotate caller moment answer) = may moment
IsAtMoment may (Done caller) = ⊤
IsAtMoment may (Reopened caller floor pairs) = ⊤

-- so are the receipts in the fate logs, and what was told of the shards since their locks were made
pub record KeepsMoments {N O : Type 0} (may : ℕ → Type 0) (lefts : List (Left (Caller Told) Item N O)) (tales : List (List Told)) : Type 0 where
  pub receipts : (caller : ℕ) (gave : Left (Caller Told) Item N O) → slice_get lefts caller ≡ Some gave → All (λ dealt. may dealt.receipt) (fates_of gave.work)
  pub entries : (i : ℕ) (tale : List Told) → slice_get tales i ≡ Some tale → All (λ told. IsAtMoment may told.entry) tale
