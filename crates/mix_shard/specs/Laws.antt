-- The law of a tale: what is accepted stays in every book of the journal or below its floor, and isn't accepted again; a
-- book gets no pair that was neither there nor claimed; and a journal that was opened is this shard's own.
use Rattle.std.specs.Prelude.{◌≡◌, ◌⊎◌, ⊤, ℕ, true, List, [], ◌∷◌, All, Contains, flat_map, IsOk, Result, Ok, Err}
use Rattle.spent_store.specs.Books.{StoredBook, IsCovered, pairs}
use Rattle.spent_store.specs.Journals as journals
use Rattle.spent_store.specs.declared.faults.Objection.{Objection}
use Rattle.mix_shard.specs.Entries.{has_opened}
use Rattle.mix_shard.specs.Shards.{ShardState}
use Rattle.mix_shard.specs.Tale.{began}
use Rattle.mix_shard.specs.declared.entries.Answer.TheVariants.{Disk, Taken}
use Rattle.mix_shard.specs.declared.entries.Entry.{Entry}
use Rattle.mix_shard.specs.declared.entries.Entry.TheVariants.{Claim}
use Rattle.mix_shard.specs.declared.entries.Told.{Told}

-- the journal when the tale began
abbrev pub first_journal : ShardState → journals.Journal
first_journal shard = (began shard.terms shard.first.areas).journal

-- ---- pairs of epoch and tag

-- the pair of a claim that was accepted
abbrev pub accepted_by : Entry → List (ℕ × List ℕ)
accepted_by (Claim caller number epoch tag at Taken) = (epoch, tag) ∷ []
accepted_by _ = []

-- the same, or the disk failed in it: then the pair may be spent or not; a claim that was refused spends nothing
abbrev pub claimed_by : Entry → List (ℕ × List ℕ)
claimed_by (Claim caller number epoch tag at Taken) = (epoch, tag) ∷ []
claimed_by (Claim caller number epoch tag at Disk) = (epoch, tag) ∷ []
claimed_by _ = []

-- those of a tale, in its order
abbrev pub accepted : List Told → List (ℕ × List ℕ)
accepted tale = flat_map (λ told. accepted_by told.entry) tale

abbrev pub claimed : List Told → List (ℕ × List ℕ)
claimed tale = flat_map (λ told. claimed_by told.entry) tale

-- no pair stands twice
abbrev pub NoneTwice : List (ℕ × List ℕ) → Type 0
NoneTwice [] = ⊤
NoneTwice (pair ∷ others) = ¬ Contains others pair × NoneTwice others

-- the pairs that are spent in a book; what is objected to has none
abbrev pub pairs_in : Result StoredBook Objection → List (ℕ × List ℕ)
pairs_in (Ok book) = pairs book
pairs_in (Err objection) = []

-- those of all books of a journal
abbrev pub all_pairs : journals.Journal → List (ℕ × List ℕ)
all_pairs journal = flat_map pairs_in journal.books

-- ---- the law

-- the pair is spent in every book of the journal, or below its floor; what is objected to covers nothing
abbrev pub AllCover : journals.Journal → ℕ × List ℕ → Type 0
AllCover journal pair = All (λ book. IsCovered book pair.0 pair.1) journal.books

-- every book covers each pair that was accepted
abbrev pub KeepsAccepted : List Told → journals.Journal → Type 0
KeepsAccepted told journal = All (AllCover journal) (accepted told)

-- every book covers each pair that all books covered before; so does the one that a crash leaves, which is one of those
abbrev pub KeepsCovered : journals.Journal → journals.Journal → Type 0
KeepsCovered old new = (pair : ℕ × List ℕ) → AllCover old pair → AllCover new pair

-- no pair was accepted that all books covered before
abbrev pub AcceptsNew : journals.Journal → List Told → Type 0
AcceptsNew old told = All (λ pair. ¬ AllCover old pair) (accepted told)

-- each pair in a book was in one before, or was claimed and not refused
abbrev pub AddsOnlyClaimed : journals.Journal → List Told → journals.Journal → Type 0
AddsOnlyClaimed old told new = All (λ pair. Contains (all_pairs old) pair ⊎ Contains (claimed told) pair) (all_pairs new)

-- nothing in the journal is objected to
abbrev pub AreBooks : journals.Journal → Type 0
AreBooks journal = All IsOk journal.books

-- so it is once the journal was opened, or where it was so before
abbrev pub IsOwn : journals.Journal → List Told → journals.Journal → Type 0
IsOwn old told new = AreBooks old ⊎ (has_opened told ≡ true) → AreBooks new
