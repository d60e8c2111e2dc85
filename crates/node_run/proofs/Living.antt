-- The shards of a node once it has ended: nothing is held, and whoever may claim is done; and what was accepted lasts.
use Rattle.std.proofs.Common.{◌≡◌, ℕ, ◌+◌, ◌*◌, ◌%◌, Bool, true, false, List, [], ◌++◌, length, refl, sym, ap, subst, ◌∙◌, inr, arith, append_assoc, Option, Some, Result, if◌then◌else◌}
use Rattle.std.specs.Prelude.{All, Contains, IsTrue, slice_get}
use Rattle.std.proofs.lemmas.List.{append_cancel_left}
use Rattle.std.proofs.lemmas.List.Elements.{All-contains, Contains-append_right}
use Rattle.mix_base.specs.Suites.{SuiteMeaning}
use Rattle.mix_base.proofs.Members.{Contains-head}
use Rattle.spent_store.specs.Books.{IsCovered, StoredBook}
use Rattle.spent_store.specs.Stores as stores
use Rattle.spent_store.specs.declared.faults.Objection.{Objection}
use Rattle.mix_shard.specs.Entries.{caller_of}
use Rattle.mix_shard.specs.Items.{Item}
use Rattle.mix_shard.specs.Laws.{AllCover, accepted}
use Rattle.mix_shard.specs.Shards.{IsDrained, IsKept, ShardState}
use Rattle.mix_shard.specs.Tale.{began}
use Rattle.mix_shard.specs.declared.entries.Entry.{Entry}
use Rattle.mix_shard.specs.declared.entries.Entry.TheVariants.{Claim, Take, Rotate, Done, Reopened}
use Rattle.mix_shard.specs.declared.entries.Told.{Told}
use Rattle.mix_shard.proofs.Covering.{accepted_stays}
use Rattle.turn_lock.specs.Seen.{Caller}
use Rattle.turn_lock.specs.Stories.{after}
use Rattle.node_actors.specs.Calls.{AreByClaimers, IsSpent, is_claim, terms_in}
use Rattle.node_actors.specs.Logging.{LeavesRotator}
use Rattle.node_actors.specs.Seats.{AllSpent}
use Rattle.node_actors.specs.Leaving.{seat_with}
use Rattle.node_actors.specs.declared.actors.works.Left.{Left}
use Rattle.node_actors.specs.declared.actors.works.Work.{Work}
use Rattle.node_actors.specs.declared.actors.works.Work.TheVariants.{Rotated}
use Rattle.node_actors.proofs.Drained.{spent_is_drained, stays_spent}
use Rattle.node_run.specs.Accounts.{tales_since}
use Rattle.node_run.specs.Halls.{IsHallLock, fresh_seat}
use Rattle.node_run.specs.Lefts.{LeftAs, Staffing, new_rotator}
use Rattle.node_run.specs.Lives.{CoversAccepted, Lives, Rests}
use Rattle.node_run.specs.Orders.{claimed_number}
use Rattle.node_run.specs.declared.roles.Role.{Role}
use Rattle.node_run.proofs.Arriving.{record_is}
use Rattle.node_run.proofs.Between.{opened_first}
use Rattle.node_run.proofs.Claiming.{claim_record}
use Rattle.node_run.proofs.Elements.{all_each, at_there, get_low, get_there, there_at}
use Rattle.node_run.proofs.Joining.{HasEnded, account_of, hand_at, since_is, tale_of}
use Rattle.node_run.proofs.Playing.{is_rotator, rotator_low}

even_by : (is_handed : Bool) (a b : ℕ) → (if is_handed then 2 * a else 2 * b) % 2 ≡ 0
even_by true a b = omega arith
even_by false a b = omega arith

claim_is : (entry : Entry) → is_claim entry ≡ true → (number : ℕ) × Contains (claimed_number entry) number
claim_is (Claim caller number epoch tag at answer) yes' = (number, Contains-head number [])
claim_is (Take caller number dest moment) yes' = absurd (cc)
claim_is (Rotate caller moment answer) yes' = absurd (cc)
claim_is (Done caller) yes' = absurd (cc)
claim_is (Reopened caller floor pairs) yes' = absurd (cc)

-- whatever a crash leaves of a rack, it covers what was accepted
lasts : (tells : Type 0) (suite : SuiteMeaning) (shard : ShardState) → IsKept tells suite shard → tells → CoversAccepted shard
lasts tells suite shard kept t image =
    let start = began shard.terms shard.first.areas in
    let Covers : ℕ × List ℕ → Type 0 = λ pair. IsCovered (stores.opened shard.terms.shape shard.terms.limit shard.rack.areas image) pair.0 pair.1 in
    all_each Covers (accepted shard.told) (λ pair found.
    let opened = opened_first tells suite shard.terms start shard.state shard.told pair kept.tale refl found in
    let covered = All-contains (AllCover shard.state.journal) (accepted shard.told) pair
    (accepted_stays tells t suite shard.terms start shard.state shard.told kept.tale) found in
    All-contains (λ (book : Result StoredBook Objection). IsCovered book pair.0 pair.1) shard.state.journal.books
    (stores.opened shard.terms.shape shard.terms.limit shard.rack.areas image) covered (kept.covers t (inr opened) image))

module _ {N O C : Type 0} (suite : SuiteMeaning) (left : N → Option (List ℕ)) (in_faults : N → ℕ) (given : O → Option (List (List ℕ))) (out_faults : O → ℕ)
    (may_give : C → ℕ → Type 0) (node : Staffing N O C) where
  rotator_spent : (caller : ℕ) (passes : List (Caller Told)) (work : Work Item N O)
      → LeavesRotator may_give (new_rotator suite left in_faults given out_faults may_give node caller) passes work
      → AllSpent (seat_with (fresh_seat node.hall caller) passes)
  rotator_spent caller passes Rotated leaves = leaves.0.spent
  rotator_spent caller passes _ leaves = absurd leaves

  module _ (lefts : List (Left (Caller Told) Item N O)) (shards : List ShardState)
      (ended : HasEnded suite left in_faults given out_faults may_give node lefts shards) (tells : Type 0) (kept : All (IsKept tells suite) shards) where
    abbrev Gave : Type 0
    Gave = Left (Caller Told) Item N O

    abbrev tales : List (List Told)
    tales = tales_since node.hall.locks shards

    -- a claim is of one of the even callers
    even_claim : (i : ℕ) (tale : List Told) (told : Told) → slice_get tales i ≡ Some tale → Contains tale told → is_claim told.entry ≡ true → caller_of told.entry % 2 ≡ 0
    even_claim i tale told at found claims' =
        let number = claim_is told.entry claims' in
        let of = claim_record suite left in_faults given out_faults may_give node lefts shards ended i tale told number.0 at found number.1 in
        let arrived = record_is suite left in_faults given out_faults may_give node lefts ended.are ended.settled ended.workers_are ended.callers_are ended.some
        (caller_of told.entry) of.gave of.dealt of.gave_is of.recorded in
        ap (λ (n : ℕ). n % 2) arrived.dealer ∙ even_by arrived.taken.handed (length node.incoming + arrived.taken.worker) arrived.place

    shard_drained : (i : ℕ) (shard : ShardState) → slice_get shards i ≡ Some shard → IsKept tells suite shard → IsDrained shard
    shard_drained i shard is is_kept =
        let low = get_low shards i shard is in
        let lock = get_there node.hall.locks i (omega (arith, low, ended.closed.many)) in
        let c = ended.closed.each i lock.0 shard lock.1 is in
        let is_lock = All-contains (IsHallLock node.hall) node.hall.locks lock.0 ended.hall.each (there_at node.hall.locks i lock.0 lock.1) in
        let rotator = 2 * length node.outgoing + 3 in
        let few = rotator_low (length node.incoming) node.workers (length node.outgoing) in
        let gave = get_there lefts rotator (omega (arith, few, ended.callers_are, ended.are.many)) in
        let leaves = subst (λ (r : Role). LeftAs suite left in_faults given out_faults may_give node r rotator gave.0)
        (is_rotator (length node.incoming) node.workers (length node.outgoing)) (ended.are.each rotator gave.0 gave.1) in
        let accounted = account_of suite left in_faults given out_faults may_give node lefts shards ended rotator gave.0 gave.1 in
        let pass = get_there gave.0.passes.items i (omega (arith, low, ended.closed.many, accounted.many)) in
        let seen = c.seen rotator gave.0.passes.items pass.0 (hand_at node.hall.locks lefts shards ended.closed lefts rotator gave.0 gave.1) pass.1 in
        let story = accounted.saw i lock.0 pass.0 lock.1 pass.1 in
        let callers : (terms_in lock.0.origin).callers ≡ shard.terms.callers = ap (λ (o : List (List ℕ)). (terms_in o).callers) (sym c.origin) in
        let spent : IsSpent shard.terms.callers pass.0.seen =
        subst (λ (n : ℕ). IsSpent n pass.0.seen) callers (rotator_spent rotator gave.0.passes.items gave.0.work leaves i lock.0 pass.0 lock.1 pass.1) in
        let tale = after lock.0.story shard.told in
        let at = tale_of node.hall.locks shards i lock.0 shard lock.1 is in
        let whole : lock.0.story ++ (story.0 ++ seen.0) ≡ lock.0.story ++ c.since =
        sym (append_assoc lock.0.story story.0 seen.0) ∙ (ap (λ (t : List Told). t ++ seen.0) story.1 ∙ (seen.1 ∙ c.told)) in
        let rest : story.0 ++ seen.0 ≡ tale =
        append_cancel_left lock.0.story (story.0 ++ seen.0) c.since whole ∙ sym (since_is node.hall.locks lefts shards ended.closed lock.0 i shard c) in
        let among : (told : Told) → Contains seen.0 told → Contains tale told = λ told found.
        subst (λ (t : List Told). Contains t told) rest (Contains-append_right story.0 seen.0 told found) in
        let may : AreByClaimers seen.0 =
        all_each (λ (told : Told). IsTrue (is_claim told.entry) → caller_of told.entry % 2 ≡ 0) seen.0 (λ told found claims'. even_claim i tale told at (among told found) claims') in
        spent_is_drained tells suite shard is_kept (stays_spent tells suite shard is_kept pass.0.seen seen.0 (sym seen.1) spent may)

    pub lives : Lives tells suite node.hall.locks lefts shards
    lives = record {
      closed = ended.closed;
      kept = kept;
      drained = all_each IsDrained shards (λ shard found.
          let at = at_there shards shard found in
          shard_drained at.0 shard at.1 (All-contains (IsKept tells suite) shards shard kept found));
    }

    pub rests : Rests tells shards
    rests t = all_each CoversAccepted shards (λ shard found. lasts tells suite shard (All-contains (IsKept tells suite) shards shard kept found) t)
