-- Records of one size that stand one after the other.
use Rattle.std.specs.Prelude.{ℕ, ◌/◌, List, length}
use Rattle.std.specs.Simd.{first_chunks}
use Rattle.spent_store.specs.Books.{EpochLog, log_bytes}

-- the records of this size, cut out from the front on
abbrev pub cut : ℕ → List ℕ → List (List ℕ)
cut size joined = first_chunks size (length joined / size) joined

-- an epoch's log, from the tags of areas 1 and 2
abbrev pub cut_log : List ℕ → List ℕ → ℕ → EpochLog
cut_log one two epoch = record { epoch = epoch; tags = cut 32 (log_bytes one two epoch) }
