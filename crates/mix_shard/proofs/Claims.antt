-- A claim's refusals, as the store's faults and as the shard's.
use Rattle.std.proofs.Common.{◌≡◌, ℕ, Bool, true, false, List, [], ◌∷◌, Option, Some, Ok, Err, refl, sym, ap, subst, ◌∙◌, arith}
use Rattle.std.specs.Result.{IsErrOf}
use Rattle.replay_disk.specs.Disk.{Areas, Owes, RackState}
use Rattle.spent_store.specs.Stores.{StoreState}
use Rattle.spent_store.specs.declared.faults.ClaimFault.{ClaimFault}
use Rattle.spent_store.specs.declared.faults.ClaimFault.TheVariants.{Retired, Spent, ShardFull, Failed}
use Rattle.mix_shard.specs.Entries.{claim_answer, is_disk, packet_of}
use Rattle.mix_shard.specs.Faults.{OfOpening, admit_answer, of_claim}
use Rattle.mix_shard.specs.Items.{Item}
use Rattle.mix_shard.specs.Kept.{state_of}
use Rattle.mix_shard.specs.Shards.{IsClaimEntry}
use Rattle.mix_shard.specs.declared.causes.Cause.{Cause}
use Rattle.mix_shard.specs.declared.entries.Answer.{Answer}
use Rattle.mix_shard.specs.declared.entries.Entry.TheVariants as entries
use Rattle.mix_shard.specs.declared.entries.Told.{Told}
use Rattle.mix_shard.specs.declared.faults.Denied.{Denied}
use Rattle.mix_shard.specs.declared.faults.Denied.TheVariants as denied
use Rattle.mix_shard.specs.declared.terms.Terms.{Terms}

-- a refusal is no failure of the disk
pub no_disk : (fault : ClaimFault) → (fault ≡ Failed → ⊥) → is_disk (claim_answer (Err fault)) ≡ false
no_disk (Retired floor) never = refl
no_disk Spent never = refl
no_disk ShardFull never = refl
no_disk Failed never = absurd (never refl)

pub not_disk : (fault : ClaimFault) → (fault ≡ Failed → ⊥) → of_claim fault ≡ denied.Disk → ⊥
not_disk (Retired floor) never same = cc
not_disk Spent never same = cc
not_disk ShardFull never same = cc
not_disk Failed never same = never refl

-- nor one of the opening
opens_none : (fault : ClaimFault) → OfOpening (of_claim fault) (λ why. ⊥)
opens_none (Retired floor) = tt
opens_none Spent = tt
opens_none ShardFull = tt
opens_none Failed = tt

pub no_opening : (fault : ClaimFault) (why : Denied) → why ≡ of_claim fault → OfOpening why (λ cause. ⊥)
no_opening fault why same = subst (λ (d : Denied). OfOpening d (λ cause. ⊥)) (sym same) (opens_none fault)

answers_same : (fault : ClaimFault) → admit_answer (Err (of_claim fault)) ≡ Some (claim_answer (Err fault))
answers_same (Retired floor) = refl
answers_same Spent = refl
answers_same ShardFull = refl
answers_same Failed = refl

-- the entry has the answer
pub answers_alike : (caller : ℕ) (item : Item) (fault : ClaimFault) (why : Denied) (one : Told) → why ≡ of_claim fault
    → one.entry ≡ entries.Claim caller item.number item.epoch item.tag item.at (claim_answer (Err fault)) → packet_of one ≡ Some item.packet
    → IsClaimEntry caller item (admit_answer (Err why)) (one ∷ [])
answers_alike caller item fault why one same entry_is packet =
    let answer : admit_answer (Err why) ≡ Some (claim_answer (Err fault)) = ap (λ (d : Denied). admit_answer (Err d)) same ∙ answers_same fault in
    subst (λ (a : Option Answer). IsClaimEntry caller item a (one ∷ [])) (sym answer) (one, refl, entry_is, packet)

-- the rack's count didn't rise
pub owes_claim : (fault : ClaimFault) (why : Denied) (old mid new : RackState) → why ≡ of_claim fault → (fault ≡ Failed → ⊥) → mid ≡ record old { room = mid.room }
    → Owes 14 (IsErrOf {T = Unit {0}} (Err fault) Failed) mid new → Owes 14 (IsErrOf {T = Unit {0}} (Err why) denied.Disk) old new
owes_claim fault why old mid new same never room owes =
    let faults : mid.faults ≡ old.faults = ap (λ (r : RackState). r.faults) room in
    let calls : mid.calls ≡ old.calls = ap (λ (r : RackState). r.calls) room in
    record {
      rose = λ failed. absurd (not_disk fault never (sym same ∙ cause failed));
      no_fault = λ fine. owes.no_fault (λ failed. never (failed_is failed)) ∙ faults;
      no_fewer = omega (arith, owes.no_fewer, calls);
      calls = omega (arith, owes.calls, calls);
      arms = owes.arms ∙ ap (λ (r : RackState). r.arms) room;
      crashes = owes.crashes ∙ ap (λ (r : RackState). r.crashes) room;
    }
  where
    cause : IsErrOf {T = Unit {0}} (Err why) denied.Disk → why ≡ denied.Disk
    cause failed = cc

    failed_is : IsErrOf {T = Unit {0}} (Err fault) Failed → fault ≡ Failed
    failed_is failed = cc

-- a store that was asked for room is as it was, and so is what is held
pub waiting_alike : (terms : Terms) (first : Areas) (store : Option StoreState) (causes : List Cause) (held held' : List Item) (done : List Bool) (one changed : StoreState)
    → store ≡ Some one → changed.book ≡ one.book → held' ≡ held
    → state_of terms first (Some changed) causes held' done ≡ state_of terms first store causes held done
waiting_alike terms first store causes held held' done one changed is book items =
    (λ i. record { journal = record { is_sound = true; books = Ok (book i) ∷ [] }; held = items i; done = done })
    ∙ ap (λ (s : Option StoreState). state_of terms first s causes held done) (sym is)
