-- The entries of a tale by what was called: claims, takes, and the entry by which a caller ends; and the terms that an origin
-- spells.
use Rattle.std.specs.Prelude.{ℕ, ◌==◌, ◌%◌, ◌<◌, ◌≡◌, All, Bool, true, false, IsTrue, List, [], filter, length, slice_index, slice_index_or}
use Rattle.std.specs.List.{list_any}
use Rattle.mix_shard.specs.Entries.{caller_of}
use Rattle.mix_shard.specs.declared.entries.Answer.TheVariants.{Taken}
use Rattle.mix_shard.specs.declared.entries.Entry.{Entry}
use Rattle.mix_shard.specs.declared.entries.Entry.TheVariants.{Claim, Take, Done}
use Rattle.mix_shard.specs.declared.entries.Told.{Told}
use Rattle.mix_shard.specs.declared.terms.Terms.{Terms}

-- the caller ends by this entry
abbrev pub ends_by : ℕ → Entry → Bool
ends_by caller (Done who) = who == caller
ends_by caller _ = false

-- the caller has ended
abbrev pub has_ended : ℕ → List Told → Bool
has_ended caller tale = list_any (λ told. ends_by caller told.entry) tale

abbrev pub is_claim : Entry → Bool
is_claim (Claim caller number epoch tag at answer) = true
is_claim _ = false

-- a claim that was accepted
abbrev pub is_accepted : Entry → Bool
is_accepted (Claim caller number epoch tag at Taken) = true
is_accepted _ = false

abbrev pub is_take : Entry → Bool
is_take (Take caller number dest moment) = true
is_take _ = false

-- those of a tale, in its order
abbrev pub claims : List Told → List Told
claims tale = filter (λ told. is_claim told.entry) tale

abbrev pub takes : List Told → List Told
takes tale = filter (λ told. is_take told.entry) tale

abbrev pub acceptances : List Told → List Told
acceptances tale = filter (λ told. is_accepted told.entry) tale

-- as many packets were taken out as were accepted
abbrev pub HoldsNothing : List Told → Type 0
HoldsNothing tale = length (takes tale) ≡ length (acceptances tale)

-- every caller of an even number below this one has ended, and nothing is held
pub record IsSpent (callers : ℕ) (tale : List Told) : Type 0 where
  pub ended : (caller : ℕ) → caller < callers → caller % 2 ≡ 0 → has_ended caller tale ≡ true
  pub empty : HoldsNothing tale

-- each claim among these is one of a caller of an even number
abbrev pub AreByClaimers : List Told → Type 0
AreByClaimers tale = All (λ told. IsTrue (is_claim told.entry) → caller_of told.entry % 2 ≡ 0) tale

-- the terms that the origin of a shard spells
abbrev pub terms_in : List (List ℕ) → Terms
terms_in origin =
    let numbers = slice_index_or origin 0 [] in
    record {
      shape = record { shards = slice_index numbers 0; index = slice_index numbers 1 };
      setup = record {
        geometry = record { ct = slice_index numbers 2; hops = slice_index numbers 3; body = slice_index numbers 4 };
        times = record { epoch = slice_index numbers 5; grace = slice_index numbers 6 };
        seed = slice_index_or origin 1 [];
      };
      limit = slice_index numbers 7;
      callers = slice_index numbers 8;
    }
