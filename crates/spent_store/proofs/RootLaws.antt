-- The laws of root records: what is spelled is read again, and what is read is spelled by the bytes that were read.
use Rattle.std.specs.Prelude.{◌≡◌, ℕ, ◌<◌, ◌^◌, List, [], ◌∷◌, ◌++◌, map}
use Rattle.std.proofs.Common.{ap, ◌∙◌}
use Rattle.std.proofs.lemmas.List.{map-append}
use Rattle.std.proofs.lemmas.Nat.{from_be_bytes-to_be_bytes_8}
use Rattle.gate_log.specs.Records.{records}
use Rattle.spent_store.specs.Root.{root_record, spell_root, roots_in}
use Rattle.spent_store.specs.declared.root.RootRecord.TheVariants.{Made, Begin, Floor}

-- ---- a record that is spelled is read again

pub made_read : (value : ℕ) → value < 2 ^ 64 → root_record (spell_root (Made value)) ≡ Made value
made_read value small = ap Made (from_be_bytes-to_be_bytes_8 value small)

pub begin_read : (epoch : ℕ) → epoch < 2 ^ 64 → root_record (spell_root (Begin epoch)) ≡ Begin epoch
begin_read epoch small = ap Begin (from_be_bytes-to_be_bytes_8 epoch small)

pub floor_read : (epoch : ℕ) → epoch < 2 ^ 64 → root_record (spell_root (Floor epoch)) ≡ Floor epoch
floor_read epoch small = ap Floor (from_be_bytes-to_be_bytes_8 epoch small)

-- ---- a root with one record more

pub roots_more : (old new : List ℕ) (bytes : List ℕ) → records 9 new ≡ records 9 old ++ bytes ∷ [] → roots_in new ≡ roots_in old ++ root_record bytes ∷ []
roots_more old new bytes more = ap (λ (found : List (List ℕ)). map root_record found) more ∙ map-append root_record (records 9 old) (bytes ∷ [])

-- ---- nine bytes that are read are spelled again
