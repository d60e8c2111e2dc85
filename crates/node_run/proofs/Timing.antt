-- Each moment of a life is one that the node's clock may give.
use Rattle.std.proofs.Common.{◌≡◌, ℕ, ◌==◌, true, List, length, refl, sym, ap, subst, ◌∙◌, Option, Some, eq-eqb}
use Rattle.std.specs.Prelude.{Contains, slice_get}
use Rattle.std.proofs.lemmas.List.Elements.{All-contains}
use Rattle.mix_base.specs.Suites.{SuiteMeaning}
use Rattle.mix_base.proofs.Members.{Contains-filter}
use Rattle.mix_shard.specs.Entries.{caller_of}
use Rattle.mix_shard.specs.Items.{Item}
use Rattle.mix_shard.specs.Shards.{ShardState}
use Rattle.mix_shard.specs.declared.entries.Answer.{Answer}
use Rattle.mix_shard.specs.declared.entries.Entry.{Entry}
use Rattle.mix_shard.specs.declared.entries.Entry.TheVariants.{Claim, Take, Rotate, Done, Reopened}
use Rattle.mix_shard.specs.declared.entries.Told.{Told}
use Rattle.turn_lock.specs.Seen.{Caller}
use Rattle.node_actors.specs.Calls.{claims, is_claim}
use Rattle.node_actors.specs.Fates.{IsClaimOf, items_at}
use Rattle.node_actors.specs.Packets.{Packet}
use Rattle.node_actors.specs.Seats.{IsMomentOf}
use Rattle.node_actors.specs.declared.actors.fates.Dealt.{Dealt}
use Rattle.node_actors.specs.declared.actors.listening.Taken.{Taken}
use Rattle.node_actors.specs.declared.actors.works.Left.{Left}
use Rattle.node_run.specs.Accounts.{calls_of, course_of, fates_of, tales_since}
use Rattle.node_run.specs.Lefts.{Staffing}
use Rattle.node_run.specs.Moments.{IsAtMoment, KeepsMoments}
use Rattle.node_run.proofs.Arriving.{listener_at, record_is}
use Rattle.node_run.proofs.Claiming.{claims_logged, record_of}
use Rattle.node_run.proofs.Elements.{all_each, zip_right}
use Rattle.node_run.proofs.Joining.{HasEnded, account_of, caller_at, pass_at}

-- the receipt in the entry of a claim
abbrev claim_at : Entry → ℕ
claim_at (Claim caller number epoch tag at answer) = at
claim_at _ = 0

module _ {N O C : Type 0} (suite : SuiteMeaning) (left : N → Option (List ℕ)) (in_faults : N → ℕ) (given : O → Option (List (List ℕ))) (out_faults : O → ℕ)
    (may_give : C → ℕ → Type 0) (node : Staffing N O C) (lefts : List (Left (Caller Told) Item N O)) (shards : List ShardState)
    (ended : HasEnded suite left in_faults given out_faults may_give node lefts shards) where
  abbrev Gave : Type 0
  Gave = Left (Caller Told) Item N O

  abbrev tales : List (List Told)
  tales = tales_since node.hall.locks shards

  abbrev may : ℕ → Type 0
  may = may_give node.clock

  -- the receipts of records are those of the packets that listeners took
  receipt_given : (caller : ℕ) (gave : Gave) (dealt : Dealt Item) → slice_get lefts caller ≡ Some gave → Contains (fates_of gave.work) dealt → may dealt.receipt
  receipt_given caller gave dealt is found =
      let arrived = record_is suite left in_faults given out_faults may_give node lefts ended.are ended.settled ended.workers_are ended.callers_are ended.some caller gave dealt is found in
      let listening = listener_at suite left in_faults given out_faults may_give node lefts ended.are ended.settled ended.workers_are ended.callers_are ended.some arrived.place arrived.listener arrived.low arrived.there in
      let receipt : dealt.receipt ≡ arrived.taken.receipt = ap (λ (p : Packet). p.receipt) arrived.packet_is in
      subst may (sym receipt) (All-contains (λ (taken : Taken). may taken.receipt) (course_of arrived.listener.work) arrived.taken listening.receipts arrived.is_taken)

  -- and so are those of claims
  claim_given : (i : ℕ) (tale : List Told) (told : Told) (caller number epoch : ℕ) (tag : List ℕ) (at : ℕ) (answer : Answer) → slice_get tales i ≡ Some tale → Contains tale told
      → told.entry ≡ Claim caller number epoch tag at answer → may at
  claim_given i tale told caller number epoch tag at answer there found is =
      let who = caller_of told.entry in
      let gave = caller_at suite left in_faults given out_faults may_give node lefts shards ended i tale told there found in
      let claims' : is_claim told.entry ≡ true = ap is_claim is in
      let call : Contains (calls_of who tale) told = Contains-filter (λ (t : Told). caller_of t.entry == who) tale told found (eq-eqb who who refl) in
      let claim : Contains (claims (calls_of who tale)) told = Contains-filter (λ (t : Told). is_claim t.entry) (calls_of who tale) told call claims' in
      let of = zip_right (IsClaimOf who) (items_at (length node.hall.locks) i (fates_of gave.0.work)) (claims (calls_of who tale)) told
      (claims_logged suite left in_faults given out_faults may_give node lefts shards ended i who tale gave.0 there gave.1) claim in
      let record_is' = record_of suite left in_faults given out_faults may_give node lefts shards ended i who tale gave.0 of.0 gave.1 of.1 in
      let receipt : at ≡ record_is'.0.dealt.receipt =
      ap claim_at (sym is ∙ of.2.entry_is) ∙ (ap (λ (item : Item). item.at) (sym record_is'.1) ∙ record_is'.0.receipt_is) in
      subst may (sym receipt) (receipt_given who record_is'.0.gave record_is'.0.dealt record_is'.0.gave_is record_is'.0.recorded)

  moment_given : (i : ℕ) (tale : List Told) (told : Told) → slice_get tales i ≡ Some tale → Contains tale told → IsMomentOf may told.entry
  moment_given i tale told at found =
      let who = caller_of told.entry in
      let gave = caller_at suite left in_faults given out_faults may_give node lefts shards ended i tale told at found in
      let pass = pass_at suite left in_faults given out_faults may_give node lefts shards ended i who tale gave.0 at gave.1 in
      let accounted = account_of suite left in_faults given out_faults may_give node lefts shards ended who gave.0 gave.1 in
      let call : Contains (calls_of who tale) told = Contains-filter (λ (t : Told). caller_of t.entry == who) tale told found (eq-eqb who who refl) in
      All-contains (λ (t : Told). IsMomentOf may t.entry) pass.0.made told (accounted.moves i pass.0 pass.1) (subst (λ (entries : List Told). Contains entries told) pass.2 call)

  entry_given : (i : ℕ) (tale : List Told) (told : Told) (entry : Entry) → slice_get tales i ≡ Some tale → Contains tale told → told.entry ≡ entry → IsMomentOf may entry → IsAtMoment may entry
  entry_given i tale told (Claim caller number epoch tag at answer) there found is given' = claim_given i tale told caller number epoch tag at answer there found is
  entry_given i tale told (Take caller number dest moment) there found is given' = given'
  entry_given i tale told (Rotate caller moment answer) there found is given' = given'
  entry_given i tale told (Done caller) there found is given' = tt
  entry_given i tale told (Reopened caller floor pairs) there found is given' = tt

  pub moments : KeepsMoments may lefts tales
  moments = record {
    receipts = λ caller gave is. all_each (λ (dealt : Dealt Item). may dealt.receipt) (fates_of gave.work) (λ dealt found. receipt_given caller gave dealt is found);
    entries = λ i tale at. all_each (λ (told : Told). IsAtMoment may told.entry) tale
        (λ told found. entry_given i tale told told.entry at found refl (moment_given i tale told at found));
  }
