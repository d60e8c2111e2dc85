-- The definitions of a book and of its changes on worked examples, each by computing. The roots that no store writes
-- are told apart, and what claims leave on a disk is read as they left it.
use Rattle.std.proofs.Common.{◌≡◌, ℕ, true, List, [], ◌∷◌, ◌++◌, replicate, None, Some, Ok, Err, refl}
use Rattle.std.specs.Int.{to_be_bytes, w64}
use Rattle.mix_base.specs.declared.shards.Shape.{Shape}
use Rattle.spent_store.specs.Books.{StoredBook, book_of, spent}
use Rattle.spent_store.specs.Changes.{raised, claimed, made}
use Rattle.spent_store.specs.Journals.{claim_refusal, is_root_full}
use Rattle.spent_store.specs.declared.faults.ClaimFault.TheVariants.{Retired, Spent, ShardFull}
use Rattle.spent_store.specs.declared.faults.Objection.TheVariants.{Foreign, OtherShape}
use Rattle.spent_store.specs.declared.root.RootRecord.TheVariants.{Made, Begin, Floor}

abbrev shape_of : ℕ → ℕ → Shape
shape_of shards index = record { shards = shards; index = index }

abbrev limit : ℕ
limit = 67108864

-- a root record behind its open gate
abbrev written : ℕ → ℕ → List ℕ
written kind value = 1 ∷ kind ∷ to_be_bytes w64 value

-- made for one shard
abbrev made_for_one : List ℕ
made_for_one = written 1 256

abbrev end : List ℕ
end = 0 ∷ []

-- ---- roots that no store for one shard writes

twelve_zeros : book_of (replicate 12 0) [] [] (shape_of 1 0) limit ≡ Err (Foreign 0 0)
twelve_zeros = refl

begin_first : book_of (written 2 0 ++ end) [] [] (shape_of 1 0) limit ≡ Err (Foreign 0 1)
begin_first = refl

seventeen_shards : book_of (written 1 4352 ++ end) [] [] (shape_of 1 0) limit ≡ Err (Foreign 0 1)
seventeen_shards = refl

floor_of_zero : book_of (made_for_one ++ written 3 0 ++ end) [] [] (shape_of 1 0) limit ≡ Err (Foreign 0 11)
floor_of_zero = refl

begin_two_above : book_of (made_for_one ++ written 2 2 ++ end) [] [] (shape_of 1 0) limit ≡ Err (Foreign 0 11)
begin_two_above = refl

kind_nine : book_of (made_for_one ++ written 9 0 ++ end) [] [] (shape_of 1 0) limit ≡ Err (Foreign 0 11)
kind_nine = refl

begun_twice : book_of (made_for_one ++ written 2 0 ++ written 2 0 ++ end) [] [] (shape_of 1 0) limit ≡ Err (Foreign 0 21)
begun_twice = refl

below_the_floor : book_of (made_for_one ++ written 3 18446744073709551615 ++ written 2 0 ++ end) [] [] (shape_of 1 0) limit ≡ Err (Foreign 0 21)
below_the_floor = refl

made_for_two : book_of (written 1 512 ++ end) [] [] (shape_of 1 0) limit ≡ Err (OtherShape (shape_of 2 0))
made_for_two = refl

made_twice : book_of (made_for_one ++ written 1 512 ++ end) [] [] (shape_of 1 0) limit ≡ Err (Foreign 0 11)
made_twice = refl

-- the number of records comes before what they say
three_of_two : book_of (written 9 0 ++ written 9 0 ++ written 9 0 ++ end) [] [] (shape_of 1 0) 2 ≡ Err (Foreign 0 20)
three_of_two = refl

-- the shape comes before the logs, and area 1 before area 2
abbrev three_tags : List ℕ
three_tags = 1 ∷ replicate 32 7 ++ 1 ∷ replicate 32 7 ++ 1 ∷ replicate 32 8 ++ end

shape_before_logs : book_of (written 1 512 ++ written 2 0 ++ end) three_tags [] (shape_of 1 0) 2 ≡ Err (OtherShape (shape_of 2 0))
shape_before_logs = refl

log_too_long : book_of (made_for_one ++ written 2 1 ++ end) [] three_tags (shape_of 1 0) 2 ≡ Err (Foreign 2 66)
log_too_long = refl

first_log_first : book_of (made_for_one ++ written 2 1 ++ written 2 0 ++ end) (1 ∷ replicate 32 9 ++ three_tags) (1 ∷ replicate 32 9 ++ three_tags) (shape_of 1 0) 3 ≡ Err (Foreign 1 99)
first_log_first = refl

-- a log of an epoch that hasn't begun isn't looked at
log_not_begun : book_of (made_for_one ++ written 2 1 ++ end) three_tags [] (shape_of 1 0) 2 ≡ Ok (record { floor = 0; logs = record { epoch = 1; tags = [] } ∷ []; roots = Made 256 ∷ Begin 1 ∷ [] })
log_not_begun = refl

-- ---- roots that stores write

abbrev empty_book : StoredBook
empty_book = record { floor = 0; logs = []; roots = [] }

eleven_zeros : book_of (replicate 11 0) [] [] (shape_of 1 0) limit ≡ Ok empty_book
eleven_zeros = refl

for_four_of_eight : book_of (written 1 1024 ++ end) [] [] (shape_of 8 0) limit ≡ Err (OtherShape (shape_of 4 0))
for_four_of_eight = refl

for_four_of_four : book_of (written 1 1024 ++ end) [] [] (shape_of 4 0) limit ≡ Ok (record { floor = 0; logs = []; roots = Made 1024 ∷ [] })
for_four_of_four = refl

abbrev tag_A : List ℕ
tag_A = replicate 32 10

abbrev tag_B : List ℕ
tag_B = replicate 32 11

-- the book that a store opens an empty root to
abbrev fresh : StoredBook
fresh = made (shape_of 1 0) empty_book

-- a claim of epoch 1 where 0 is the least live: area 2 has the tag
claimed_one : book_of (made_for_one ++ written 2 1 ++ end) [] (1 ∷ tag_A ++ end) (shape_of 1 0) limit ≡ Ok (claimed 1 (tag_A ∷ []) 0 fresh)
claimed_one = refl

-- a claim of epoch 5 where 5 is the least live
claimed_five : book_of (made_for_one ++ written 3 5 ++ written 2 5 ++ end) end (1 ∷ tag_A ++ end) (shape_of 1 0) limit ≡ Ok (claimed 5 (tag_A ∷ []) 5 fresh)
claimed_five = refl

then_four : claim_refusal limit 4 tag_B 4 (claimed 5 (tag_A ∷ []) 5 fresh) ≡ Some (Retired 5)
then_four = refl

-- ---- a store whose logs have at most two records

abbrev two_spent : StoredBook
two_spent = claimed 0 (tag_B ∷ []) 0 (claimed 0 (tag_A ∷ []) 0 fresh)

first_is_taken : claim_refusal 2 0 tag_A 0 fresh ≡ None
first_is_taken = refl

second_is_taken : claim_refusal 2 0 tag_B 0 (claimed 0 (tag_A ∷ []) 0 fresh) ≡ None
second_is_taken = refl

log_full : claim_refusal 2 0 (replicate 32 12) 0 two_spent ≡ Some ShardFull
log_full = refl

spent_before_full : claim_refusal 2 0 tag_A 0 two_spent ≡ Some Spent
spent_before_full = refl

root_without_room : claim_refusal 2 2 (replicate 32 13) 2 two_spent ≡ Some ShardFull
root_without_room = refl

retire_full : is_root_full 2 1 two_spent ≡ true
retire_full = refl

two_spent_read : book_of (made_for_one ++ written 2 0 ++ end) (1 ∷ tag_A ++ 1 ∷ tag_B ++ end) [] (shape_of 1 0) 2 ≡ Ok two_spent
two_spent_read = refl

counted : spent two_spent ≡ 2
counted = refl

-- ---- a floor that rises drops what is below it

both_live : raised 1 (claimed 1 (tag_B ∷ []) 0 (claimed 0 (tag_A ∷ []) 0 fresh)) ≡ record { floor = 1; logs = record { epoch = 1; tags = tag_B ∷ [] } ∷ []; roots = Made 256 ∷ Begin 0 ∷ Begin 1 ∷ Floor 1 ∷ [] }
both_live = refl
