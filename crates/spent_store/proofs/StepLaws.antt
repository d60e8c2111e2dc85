-- What the bytes of a store say while one step of a change is being written: the book before the step or the book
-- after it, whatever stands in an area that no begun epoch uses. And the books that an opening which didn't succeed
-- leaves.
use Rattle.std.specs.Prelude.{◌≡◌, ℕ, ◌+◌, ◌^◌, ◌<◌, ◌≤◌, ◌==◌, ◌⊎◌, nat_lt, Bool, true, false, List, [], ◌∷◌, length, map, Contains, Some, None, Result, Ok, if◌then◌else◌}
use Rattle.std.specs.List.{list_any}
use Rattle.std.proofs.Common.{refl, sym, ap, ◌∙◌, inl, inr, arith}
use Rattle.std.proofs.lemmas.Bool.{ne_eqb, eqb-false, ltb-false, or_from, or_parts}
use Rattle.std.proofs.lemmas.List.{length-map, get_or-map}
use Rattle.std.proofs.lemmas.List.Elements.{Contains-append_left, Contains-append_right}
use Rattle.mix_base.specs.declared.shards.Shape.{Shape}
use Rattle.gate_log.specs.Log.{IsOldOrWith}
use Rattle.gate_log.specs.Records.{records}
use Rattle.spent_store.specs.Root.{IsNear, AreNear, spell_root, roots_in, begun_of, shape_value, is_shape}
use Rattle.spent_store.specs.Books.{StoredBook, begun, has_begun, area_of, log_bytes, is_used, unrecorded, book_of}
use Rattle.spent_store.specs.Changes.{raised, begun_with, added, made, made_where_read}
use Rattle.spent_store.specs.Journals.{Journal, unopened}
use Rattle.spent_store.proofs.BookLaws.{both_areas, book_parts, begun_said, roots_said, root_count, same_book, empty_book, book_unrecorded, none_mapped}
use Rattle.spent_store.proofs.ChangeLaws.{other_area, floor_added, begin_added, tag_added, made_first}
use Rattle.spent_store.specs.declared.root.RootRecord.{RootRecord}
use Rattle.spent_store.specs.declared.root.RootRecord.TheVariants.{Made, Begin, Floor}
use Rattle.spent_store.specs.declared.faults.Objection.{Objection}
use Rattle.spent_store.specs.declared.faults.Objection.TheVariants.{Foreign}

-- ---- bytes that say the same

-- each area that the book uses has the records that it had
pub record LogsStay (book : StoredBook) (one two one' two' : List ℕ) : Type 0 where
  pub first : is_used 1 (begun book) ≡ true → records 32 one' ≡ records 32 one
  pub second : is_used 2 (begun book) ≡ true → records 32 two' ≡ records 32 two

pub logs_same : (book : StoredBook) (one two : List ℕ) → LogsStay book one two one two
logs_same book one two = record { first = λ used. refl; second = λ used. refl }

-- the same of an epoch's area and its neighbour's
pub logs_stay : (book : StoredBook) (epoch : ℕ) (one two one' two' : List ℕ)
    → (is_used (area_of epoch) (begun book) ≡ true → records 32 (log_bytes one' two' epoch) ≡ records 32 (log_bytes one two epoch))
    → (is_used (area_of (epoch + 1)) (begun book) ≡ true → records 32 (log_bytes one' two' (epoch + 1)) ≡ records 32 (log_bytes one two (epoch + 1)))
    → LogsStay book one two one' two'
logs_stay book epoch one two one' two' here there =
    let areas = both_areas (λ (area : ℕ) (old new : List ℕ). is_used area (begun book) ≡ true → records 32 new ≡ records 32 old) epoch one two one' two' here there in
    record { first = areas.0; second = areas.1 }

-- a book with a root record stays while the records of its root and of the areas that it uses stay
pub book_stays : (root one two root' one' two' : List ℕ) (shape : Shape) (limit : ℕ) (book : StoredBook) → book_of root one two shape limit ≡ Ok book → 0 < length book.roots
    → records 9 root' ≡ records 9 root → LogsStay book one two one' two' → book_of root' one' two' shape limit ≡ Ok book
book_stays root one two root' one' two' shape limit book ok some same stay =
    let epochs : begun book ≡ begun_of (roots_in root) = begun_said root one two shape limit book ok in
    same_book root one two root' one' two' shape limit (omega (arith, some, root_count root one two shape limit book ok)) same
    (λ used. stay.first (ap (λ (found : List ℕ). is_used 1 found) epochs ∙ used)) (λ used. stay.second (ap (λ (found : List ℕ). is_used 2 found) epochs ∙ used))
    ∙ ok

-- ---- the area of an epoch that hasn't begun

areas_differ : (floor epoch other : ℕ) → IsNear floor epoch → IsNear floor other → (other == epoch) ≡ false → (area_of other == area_of epoch) ≡ false
areas_differ floor epoch other near near_other differ =
    let beside = other_area floor epoch other near near_other (λ same. eqb-false other epoch differ (sym same)) in
    ne_eqb (area_of other) (area_of epoch) (λ same. omega (arith, same, beside))

-- no begun epoch uses it
pub area_unused : (floor epoch : ℕ) (epochs : List ℕ) → AreNear floor epochs → IsNear floor epoch → list_any (λ other. other == epoch) epochs ≡ false → is_used (area_of epoch) epochs ≡ false
area_unused floor epoch [] near at new = refl
area_unused floor epoch (a ∷ []) near at new = or_from (area_of a == area_of epoch) false (areas_differ floor epoch a at near (or_parts (a == epoch) _ new).0) refl
area_unused floor epoch (a ∷ b ∷ []) near at new =
    let parts = or_parts (a == epoch) _ new in
    or_from (area_of a == area_of epoch) _ (areas_differ floor epoch a at near.0 parts.0)
    (or_from (area_of b == area_of epoch) false (areas_differ floor epoch b at near.1 (or_parts (b == epoch) _ parts.1).0) refl)
area_unused floor epoch (a ∷ b ∷ c ∷ others) near at new = absurd near

-- so it may hold anything
pub logs_stay_beside : (book : StoredBook) (epoch : ℕ) (one two one' two' : List ℕ) → AreNear book.floor (begun book) → IsNear book.floor epoch → has_begun epoch book ≡ false
    → (is_used (area_of (epoch + 1)) (begun book) ≡ true → records 32 (log_bytes one' two' (epoch + 1)) ≡ records 32 (log_bytes one two (epoch + 1)))
    → LogsStay book one two one' two'
logs_stay_beside book epoch one two one' two' near at new there =
    let unused : is_used (area_of epoch) (begun book) ≡ false = area_unused book.floor epoch (begun book) near at new in
    logs_stay book epoch one two one' two' (λ used. absurd (cc)) there

-- ---- one step of a change

-- a record of the floor is being written
pub floor_step : (root one two root' one' two' : List ℕ) (shape : Shape) (limit floor : ℕ) (book : StoredBook) → book_of root one two shape limit ≡ Ok book → 0 < length book.roots
    → length book.roots < limit → floor < 2 ^ 64 → book.floor < floor → LogsStay book one two one' two' → IsOldOrWith (records 9 root) (spell_root (Floor floor) ∷ []) (records 9 root')
    → (book_of root' one' two' shape limit ≡ Ok book) ⊎ (book_of root' one' two' shape limit ≡ Ok (raised floor book))
floor_step root one two root' one' two' shape limit floor book ok some room small above stay old_or_with =
    elim old_or_with [
      | inl old ↦ inl (book_stays root one two root' one' two' shape limit book ok some old stay)
      | inr more ↦ inr (floor_added root one' two' root' shape limit floor book (book_stays root one two root one' two' shape limit book ok some refl stay) some room small above more)
    ]

-- an epoch's beginning is being written, and its area has no records
pub begin_step : (root one two root' one' two' : List ℕ) (shape : Shape) (limit epoch : ℕ) (book : StoredBook) → book_of root one two shape limit ≡ Ok book → 0 < length book.roots
    → length book.roots < limit → epoch < 2 ^ 64 → IsNear book.floor epoch → has_begun epoch book ≡ false → records 32 (log_bytes one' two' epoch) ≡ []
    → LogsStay book one two one' two' → IsOldOrWith (records 9 root) (spell_root (Begin epoch) ∷ []) (records 9 root')
    → (book_of root' one' two' shape limit ≡ Ok book) ⊎ (book_of root' one' two' shape limit ≡ Ok (begun_with epoch book))
begin_step root one two root' one' two' shape limit epoch book ok some room small near new empty stay old_or_with =
    elim old_or_with [
      | inl old ↦ inl (book_stays root one two root' one' two' shape limit book ok some old stay)
      | inr more ↦ inr (begin_added root one' two' root' shape limit epoch book (book_stays root one two root one' two' shape limit book ok some refl stay) some room small near new empty more)
    ]

-- tags are being written in the log of a begun epoch
pub tag_step : (root one two root' one' two' : List ℕ) (shape : Shape) (limit epoch : ℕ) (tags : List (List ℕ)) (book : StoredBook) → book_of root one two shape limit ≡ Ok book → 0 < length book.roots
    → has_begun epoch book ≡ true → length (records 32 (log_bytes one two epoch)) + length tags ≤ limit → records 9 root' ≡ records 9 root
    → (is_used (area_of (epoch + 1)) (begun book) ≡ true → records 32 (log_bytes one' two' (epoch + 1)) ≡ records 32 (log_bytes one two (epoch + 1)))
    → IsOldOrWith (records 32 (log_bytes one two epoch)) tags (records 32 (log_bytes one' two' epoch))
    → (book_of root' one' two' shape limit ≡ Ok book) ⊎ (book_of root' one' two' shape limit ≡ Ok (added epoch tags book))
tag_step root one two root' one' two' shape limit epoch tags book ok some there room same beside old_or_with =
    let moved : book_of root' one two shape limit ≡ Ok book = book_stays root one two root' one two shape limit book ok some same (logs_same book one two) in
    elim old_or_with [
      | inl old ↦ inl (book_stays root one two root' one' two' shape limit book ok some same (logs_stay book epoch one two one' two' (λ used. old) beside))
      | inr more ↦ inr (tag_added root' one two one' two' shape limit epoch tags book moved there room more beside)
    ]

-- ---- the first record of a root

-- a root without a record, and its book
pub record IsBare (root : List ℕ) (book : StoredBook) : Type 0 where
  pub no_records : records 9 root ≡ []
  pub short : length root ≤ 11
  pub is_empty : book ≡ empty_book

few_bytes : (many : Bool) → (if many then Some (Foreign 0 0) else None) ≡ None → many ≡ false
few_bytes true none = absurd (cc)
few_bytes false none = refl

pub unrecorded_root : (root one two : List ℕ) (shape : Shape) (limit : ℕ) (book : StoredBook) → book_of root one two shape limit ≡ Ok book → book.roots ≡ [] → IsBare root book
unrecorded_root root one two shape limit book ok none =
    let no_roots : roots_in root ≡ [] = sym (roots_said root one two shape limit book ok) ∙ none in
    let no_records : records 9 root ≡ [] = none_mapped (records 9 root) no_roots in
    let recorded : unrecorded (length root) [] ≡ None = ap (λ (found : List RootRecord). unrecorded (length root) found) (sym no_roots) ∙ (book_parts root one two shape limit book ok).0.recorded in
    let short : length root ≤ 11 = ltb-false 11 (length root) (few_bytes (nat_lt 11 (length root)) recorded) in
    let said : Ok book ≡ Ok empty_book = sym ok ∙ book_unrecorded root one two shape limit no_records short in
    record { no_records = no_records; short = short; is_empty = cc }

-- the first record of a root is being written: there are at most 11 bytes while it isn't there
pub made_step : (root one two root' one' two' : List ℕ) (shape : Shape) (limit : ℕ) (book : StoredBook) → book_of root one two shape limit ≡ Ok book → book.roots ≡ [] → is_shape shape ≡ true
    → 0 < limit → (records 9 root' ≡ [] → length root' ≤ 11) → IsOldOrWith (records 9 root) (spell_root (Made (shape_value shape)) ∷ []) (records 9 root')
    → (book_of root' one' two' shape limit ≡ Ok book) ⊎ (book_of root' one' two' shape limit ≡ Ok (made shape book))
made_step root one two root' one' two' shape limit book ok none good some short old_or_with =
    let bare = unrecorded_root root one two shape limit book ok none in
    let empty : book_of root one' two' shape limit ≡ Ok book = book_unrecorded root one' two' shape limit bare.no_records bare.short ∙ (λ i. Ok (sym bare.is_empty i)) in
    elim old_or_with [
      | inl old ↦
          let none_there : records 9 root' ≡ [] = old ∙ bare.no_records in
          inl (book_unrecorded root' one' two' shape limit none_there (short none_there) ∙ (λ i. Ok (sym bare.is_empty i)))
      | inr more ↦ inr (made_first root one' two' root' shape limit book empty bare.no_records good some more)
    ]

-- ---- the books after an opening that didn't succeed

-- a book that was there still is
pub unopened-old : (shape : Shape) (journal : Journal) (book : Result StoredBook Objection) → Contains journal.books book → Contains (unopened shape journal).books book
unopened-old shape journal book there = Contains-append_left journal.books (map (made_where_read shape) journal.books) book there

-- and it is there with its root made
pub unopened-made : (shape : Shape) (journal : Journal) (book : Result StoredBook Objection) → Contains journal.books book → Contains (unopened shape journal).books (made_where_read shape book)
unopened-made shape journal book there =
    Contains-append_right journal.books (map (made_where_read shape) journal.books) (made_where_read shape book) (mapped there)
  where
    mapped : Contains journal.books book → Contains (map (made_where_read shape) journal.books) (made_where_read shape book)
    mapped (k, within, at) =
        (k, omega (arith, within, length-map journal.books (made_where_read shape)), get_or-map (made_where_read shape) journal.books k book (made_where_read shape book) within ∙ ap (made_where_read shape) at)
