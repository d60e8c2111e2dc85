-- The tales of a node's shards since their locks were made: of each caller they have what its passes made.
use Rattle.std.proofs.Common.{◌≡◌, ℕ, zero, suc, ◌<◌, List, [], ◌∷◌, ◌++◌, length, append_assoc, refl, sym, ap, subst, ◌∙◌, arith, Option, Some}
use Rattle.std.specs.Prelude.{All, Contains, slice_get}
use Rattle.std.proofs.lemmas.List.{drop_at}
use Rattle.std.proofs.lemmas.List.Elements.{All-contains}
use Rattle.mix_base.specs.Suites.{SuiteMeaning}
use Rattle.mix_shard.specs.Entries.{caller_of}
use Rattle.mix_shard.specs.Items.{Item}
use Rattle.mix_shard.specs.Shards.{ShardState}
use Rattle.mix_shard.specs.declared.entries.Told.{Told}
use Rattle.turn_lock.specs.Seen.{Caller, Lock}
use Rattle.turn_lock.specs.Stories.{Begins, after}
use Rattle.node_actors.specs.declared.actors.works.Left.{Left}
use Rattle.node_run.specs.Accounts.{calls_of, hands_of, tales_since}
use Rattle.node_run.specs.Closings.{AreClosed, IsClosed}
use Rattle.node_run.specs.Halls.{IsHall, IsHallLock}
use Rattle.node_run.specs.Lefts.{AreLeft, AreSettled, Staffing}
use Rattle.node_run.specs.Roles.{callers_for, role_of}
use Rattle.node_run.proofs.Elements.{at_one, get_low, get_there, there_at}
use Rattle.node_run.proofs.Outcomes.{Account, account}

-- ---- the tale of one shard

module _ (locks : List (Lock Told)) where
  -- a lock, its shard, and what was told since
  pub record IsTale (shards : List ShardState) (i : ℕ) (tale : List Told) : Type 0 where
    pub lock : Lock Told
    pub shard : ShardState
    pub lock_is : slice_get locks i ≡ Some lock
    pub shard_is : slice_get shards i ≡ Some shard
    pub tale_is : tale ≡ after lock.story shard.told

pub tale_at : (locks : List (Lock Told)) (shards : List ShardState) (i : ℕ) (tale : List Told) → slice_get (tales_since locks shards) i ≡ Some tale → IsTale locks shards i tale
tale_at [] shards i tale is = absurd (cc)
tale_at (lock ∷ locks) [] i tale is = absurd (cc)
tale_at (lock ∷ locks) (shard ∷ shards) zero tale is =
    let same : after lock.story shard.told ≡ tale = cc in
    record { lock = lock; shard = shard; lock_is = refl; shard_is = refl; tale_is = sym same }
tale_at (lock ∷ locks) (shard ∷ shards) (suc i) tale is =
    let rest = tale_at locks shards i tale is in
    record { lock = rest.lock; shard = rest.shard; lock_is = rest.lock_is; shard_is = rest.shard_is; tale_is = rest.tale_is }

pub tale_of : (locks : List (Lock Told)) (shards : List ShardState) (i : ℕ) (lock : Lock Told) (shard : ShardState) → slice_get locks i ≡ Some lock → slice_get shards i ≡ Some shard
    → slice_get (tales_since locks shards) i ≡ Some (after lock.story shard.told)
tale_of [] shards i lock shard is is' = absurd (cc)
tale_of (one ∷ locks) [] i lock shard is is' = absurd (cc)
tale_of (one ∷ locks) (other ∷ shards) zero lock shard is is' =
    let same : one ≡ lock = cc in
    let same' : other ≡ shard = cc in
    λ i. Some (after (same i).story (same' i).told)
tale_of (one ∷ locks) (other ∷ shards) (suc i) lock shard is is' = tale_of locks shards i lock shard is is'

module _ {N O : Type 0} (locks : List (Lock Told)) (lefts : List (Left (Caller Told) Item N O)) (shards : List ShardState)
    (closed : AreClosed locks (hands_of lefts) shards) where
  pub hand_at : (ls : List (Left (Caller Told) Item N O)) (caller : ℕ) (gave : Left (Caller Told) Item N O) → slice_get ls caller ≡ Some gave
      → slice_get (hands_of ls) caller ≡ Some gave.passes.items
  hand_at [] caller gave is = absurd (cc)
  hand_at (one ∷ ls) zero gave is = let same : one ≡ gave = cc in ap (λ (g : Left (Caller Told) Item N O). Some g.passes.items) same
  hand_at (one ∷ ls) (suc caller) gave is = hand_at ls caller gave is

  pub since_is : (lock : Lock Told) (i : ℕ) (shard : ShardState) → (c : IsClosed lock (hands_of lefts) i shard) → after lock.story shard.told ≡ c.since
  since_is lock i shard c = ap (λ (tale : List Told). after lock.story tale) c.told ∙ drop_at lock.story c.since (length lock.story) refl

  -- what a caller did there is what its pass made
  pub calls_are : (i : ℕ) (tale : List Told) (caller : ℕ) (gave : Left (Caller Told) Item N O) (pass : Caller Told) → slice_get (tales_since locks shards) i ≡ Some tale
      → slice_get lefts caller ≡ Some gave → slice_get gave.passes.items i ≡ Some pass → calls_of caller tale ≡ pass.made
  calls_are i tale caller gave pass at is of =
      let is_tale = tale_at locks shards i tale at in
      let c = closed.each i is_tale.lock is_tale.shard is_tale.lock_is is_tale.shard_is in
      ap (λ (t : List Told). calls_of caller t) (is_tale.tale_is ∙ since_is is_tale.lock i is_tale.shard c) ∙ c.calls caller gave.passes.items pass (hand_at lefts caller gave is) of

  -- each entry is of one of the callers
  pub caller_low : (i : ℕ) (tale : List Told) → slice_get (tales_since locks shards) i ≡ Some tale → (lock : Lock Told) × (slice_get locks i ≡ Some lock) × All (λ told. caller_of told.entry < lock.callers) tale
  caller_low i tale at =
      let is_tale = tale_at locks shards i tale at in
      let c = closed.each i is_tale.lock is_tale.shard is_tale.lock_is is_tale.shard_is in (
        is_tale.lock,
        is_tale.lock_is,
        subst (λ (t : List Told). All (λ told. caller_of told.entry < is_tale.lock.callers) t) (sym (is_tale.tale_is ∙ since_is is_tale.lock i is_tale.shard c)) c.others,
      )

  -- what a pass had seen since is a front of the tale
  pub seen_since : (i : ℕ) (tale : List Told) (caller : ℕ) (gave : Left (Caller Told) Item N O) (pass : Caller Told) (lock : Lock Told)
      → slice_get (tales_since locks shards) i ≡ Some tale → slice_get locks i ≡ Some lock
      → slice_get lefts caller ≡ Some gave → slice_get gave.passes.items i ≡ Some pass → Begins lock.story pass.seen → Begins (after lock.story pass.seen) tale
  seen_since i tale caller gave pass lock at lock_is is of begun =
      let is_tale = tale_at locks shards i tale at in
      let same : is_tale.lock ≡ lock = at_one locks i is_tale.lock lock is_tale.lock_is lock_is in
      let c = closed.each i is_tale.lock is_tale.shard is_tale.lock_is is_tale.shard_is in
      let seen = c.seen caller gave.passes.items pass (hand_at lefts caller gave is) of in
      let tale_is : tale ≡ after lock.story is_tale.shard.told = is_tale.tale_is ∙ ap (λ (l : Lock Told). after l.story is_tale.shard.told) same in
      let first : after lock.story pass.seen ≡ begun.0 = ap (λ (t : List Told). after lock.story t) (sym begun.1) ∙ drop_at lock.story begun.0 (length lock.story) refl in
      let whole : lock.story ++ (begun.0 ++ seen.0) ≡ is_tale.shard.told =
      sym (append_assoc lock.story begun.0 seen.0) ∙ (ap (λ (t : List Told). t ++ seen.0) begun.1 ∙ seen.1) in
      let rest : after lock.story is_tale.shard.told ≡ begun.0 ++ seen.0 =
      ap (λ (t : List Told). after lock.story t) (sym whole) ∙ drop_at lock.story (begun.0 ++ seen.0) (length lock.story) refl in
      (seen.0, ap (λ (t : List Told). t ++ seen.0) first ∙ sym (tale_is ∙ rest))

-- ---- a node that has ended

-- what its callers left, what lies between them, and its shards once their locks were closed
pub record HasEnded {N O C : Type 0} (suite : SuiteMeaning) (left : N → Option (List ℕ)) (in_faults : N → ℕ) (given : O → Option (List (List ℕ))) (out_faults : O → ℕ)
    (may_give : C → ℕ → Type 0) (node : Staffing N O C) (lefts : List (Left (Caller Told) Item N O)) (shards : List ShardState) : Type 0 where
  pub are : AreLeft suite left in_faults given out_faults may_give node lefts
  pub settled : AreSettled suite left in_faults given out_faults may_give node lefts
  pub closed : AreClosed node.hall.locks (hands_of lefts) shards
  pub hall : IsHall node.hall
  pub workers_are : length node.hall.queues ≡ node.workers
  pub callers_are : node.hall.callers ≡ callers_for (length node.incoming) node.workers (length node.outgoing)
  pub some : 0 < node.workers

module _ {N O C : Type 0} (suite : SuiteMeaning) (left : N → Option (List ℕ)) (in_faults : N → ℕ) (given : O → Option (List (List ℕ))) (out_faults : O → ℕ)
    (may_give : C → ℕ → Type 0) (node : Staffing N O C) (lefts : List (Left (Caller Told) Item N O)) (shards : List ShardState)
    (ended : HasEnded suite left in_faults given out_faults may_give node lefts shards) where
  abbrev pub tales : List (List Told)
  tales = tales_since node.hall.locks shards

  pub account_of : (caller : ℕ) (gave : Left (Caller Told) Item N O) → slice_get lefts caller ≡ Some gave
      → Account suite left in_faults given out_faults may_give node caller gave.passes.items gave.work
  account_of caller gave is =
      account suite left in_faults given out_faults may_give node (role_of (length node.incoming) node.workers (length node.outgoing) caller) caller gave (ended.are.each caller gave is)

  -- a caller's pass to a shard, and what it made there
  pub pass_at : (i caller : ℕ) (tale : List Told) (gave : Left (Caller Told) Item N O) → slice_get tales i ≡ Some tale → slice_get lefts caller ≡ Some gave
      → (pass : Caller Told) × (slice_get gave.passes.items i ≡ Some pass) × (calls_of caller tale ≡ pass.made)
  pass_at i caller tale gave at is =
      let is_tale = tale_at node.hall.locks shards i tale at in
      let low = get_low node.hall.locks i is_tale.lock is_tale.lock_is in
      let pass = get_there gave.passes.items i (omega (arith, low, (account_of caller gave is).many)) in
      (pass.0, pass.1, calls_are node.hall.locks lefts shards ended.closed i tale caller gave pass.0 at is pass.1)

  -- the caller of an entry is one of the node's
  pub caller_at : (i : ℕ) (tale : List Told) (told : Told) → slice_get tales i ≡ Some tale → Contains tale told
      → (gave : Left (Caller Told) Item N O) × (slice_get lefts (caller_of told.entry) ≡ Some gave)
  caller_at i tale told at found =
      let lock = caller_low node.hall.locks lefts shards ended.closed i tale at in
      let low : caller_of told.entry < lock.0.callers = All-contains (λ (t : Told). caller_of t.entry < lock.0.callers) tale told lock.2 found in
      let is_lock = All-contains (IsHallLock node.hall) node.hall.locks lock.0 ended.hall.each (there_at node.hall.locks i lock.0 lock.1) in
      get_there lefts (caller_of told.entry) (omega (arith, low, is_lock.many, ended.are.many))
