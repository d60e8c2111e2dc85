-- What the book of a store depends on: the records of its root, and those of the areas whose log is of a begun epoch.
use Rattle.std.specs.Prelude.{◌≡◌, ℕ, ◌+◌, ◌*◌, ◌%◌, ◌<◌, ◌≤◌, ◌==◌, nat_lt, Bool, true, false, List, [], ◌∷◌, length, map, Option, Some, None, Ok, if◌then◌else◌}
use Rattle.std.proofs.Common.{refl, sym, subst, ap, ◌∙◌, inl, inr, arith}
use Rattle.std.proofs.lemmas.Bool.{cases_lt, eq-eqb, ne_eqb, le-ltb, or_left, or_right}
use Rattle.std.proofs.lemmas.List.{length-map}
use Rattle.mix_base.specs.declared.shards.Shape.{Shape}
use Rattle.gate_log.specs.Records.{records}
use Rattle.spent_store.specs.Root.{AreNear, root_record, roots_in, floor_of, begun_of}
use Rattle.spent_store.specs.Books.{EpochLog, StoredBook, begun, area_of, log_bytes, log_in, is_used, overfull, unrecorded, amiss, other_shape, overfull_log, objections, first_of, unless, spelled_book, book_of}
use Rattle.spent_store.proofs.NearLaws.{begun_near}
use Rattle.spent_store.specs.declared.root.RootRecord.{RootRecord}
use Rattle.spent_store.specs.declared.faults.Objection.{Objection}
use Rattle.spent_store.specs.declared.faults.Objection.TheVariants.{Foreign}

-- ---- the logs of epochs

pub log_bytes-one : (one two : List ℕ) (epoch : ℕ) → area_of epoch ≡ 1 → log_bytes one two epoch ≡ one
log_bytes-one one two epoch even = rw (eq-eqb (area_of epoch) 1 even) refl

pub log_bytes-two : (one two : List ℕ) (epoch : ℕ) → area_of epoch ≡ 2 → log_bytes one two epoch ≡ two
log_bytes-two one two epoch odd = rw (ne_eqb (area_of epoch) 1 (λ even. omega (arith, even, odd))) refl

-- what holds of the areas of an epoch and of the next one, and of their bytes before and now, holds of each area
pub both_areas : (P : ℕ → List ℕ → List ℕ → Type 0) (epoch : ℕ) (one two one' two' : List ℕ) → P (area_of epoch) (log_bytes one two epoch) (log_bytes one' two' epoch)
    → P (area_of (epoch + 1)) (log_bytes one two (epoch + 1)) (log_bytes one' two' (epoch + 1)) → P 1 one one' × P 2 two two'
both_areas P epoch one two one' two' here there =
    elim (cases_lt (epoch % 2) 1) [
      | inl even ↦
          let first : area_of epoch ≡ 1 = omega arith in
          let second : area_of (epoch + 1) ≡ 2 = omega arith in (
            rw (log_bytes-one one two epoch first, log_bytes-one one' two' epoch first, first) at here,
            rw (log_bytes-two one two (epoch + 1) second, log_bytes-two one' two' (epoch + 1) second, second) at there,
          )
      | inr odd ↦
          let first : area_of (epoch + 1) ≡ 1 = omega arith in
          let second : area_of epoch ≡ 2 = omega arith in (
            rw (log_bytes-one one two (epoch + 1) first, log_bytes-one one' two' (epoch + 1) first, first) at there,
            rw (log_bytes-two one two epoch second, log_bytes-two one' two' epoch second, second) at here,
          )
    ]

-- the logs of some epochs are of these epochs
pub log_epochs : (one two epochs : List ℕ) → map (λ (log : EpochLog). log.epoch) (map (log_in one two) epochs) ≡ epochs
log_epochs one two [] = refl
log_epochs one two (epoch ∷ epochs) = ap (λ (rest : List ℕ). epoch ∷ rest) (log_epochs one two epochs)

-- ---- where nothing is against the bytes

-- nothing is against these bytes
pub record IsUnobjected (root one two : List ℕ) (shape : Shape) (limit : ℕ) : Type 0 where
  pub counted : overfull limit 0 9 root ≡ None
  pub recorded : unrecorded (length root) (roots_in root) ≡ None
  pub in_order : amiss (roots_in root) ≡ None
  pub shaped : other_shape shape (roots_in root) ≡ None
  pub first_log : overfull_log limit 1 one (begun_of (roots_in root)) ≡ None
  pub second_log : overfull_log limit 2 two (begun_of (roots_in root)) ≡ None

unless_ok : (objection : Option Objection) (spelled book : StoredBook) → unless objection spelled ≡ Ok book → (objection ≡ None) × (spelled ≡ book)
unless_ok None spelled book ok = (refl, cc)
unless_ok (Some objection) spelled book ok = absurd (cc)

none_first : (objection : Option Objection) (others : List (Option Objection)) → first_of (objection ∷ others) ≡ None → (objection ≡ None) × (first_of others ≡ None)
none_first None others none = (refl, none)
none_first (Some objection) others none = absurd (cc)

-- a book is given where nothing is against the bytes, and is the one that they spell
pub book_parts : (root one two : List ℕ) (shape : Shape) (limit : ℕ) (book : StoredBook) → book_of root one two shape limit ≡ Ok book
    → IsUnobjected root one two shape limit × (spelled_book root one two ≡ book)
book_parts root one two shape limit book ok =
    let parts = unless_ok (first_of (objections root one two shape limit)) (spelled_book root one two) book ok in
    let counted = none_first _ _ parts.0 in
    let recorded = none_first _ _ counted.1 in
    let in_order = none_first _ _ recorded.1 in
    let shaped = none_first _ _ in_order.1 in
    let first_log = none_first _ _ shaped.1 in
    let second_log = none_first _ _ first_log.1 in
    (record { counted = counted.0; recorded = recorded.0; in_order = in_order.0; shaped = shaped.0; first_log = first_log.0; second_log = second_log.0 }, parts.1)

-- where nothing is against them
pub book_spelled : (root one two : List ℕ) (shape : Shape) (limit : ℕ) → IsUnobjected root one two shape limit → book_of root one two shape limit ≡ Ok (spelled_book root one two)
book_spelled root one two shape limit none = rw (none.counted, none.recorded, none.in_order, none.shaped, none.first_log, none.second_log) refl

-- its floor, its begun epochs and its root records are those of the root
pub floor_said : (root one two : List ℕ) (shape : Shape) (limit : ℕ) (book : StoredBook) → book_of root one two shape limit ≡ Ok book → book.floor ≡ floor_of (roots_in root)
floor_said root one two shape limit book ok = ap (λ (b : StoredBook). b.floor) (sym (book_parts root one two shape limit book ok).1)

pub begun_said : (root one two : List ℕ) (shape : Shape) (limit : ℕ) (book : StoredBook) → book_of root one two shape limit ≡ Ok book → begun book ≡ begun_of (roots_in root)
begun_said root one two shape limit book ok = ap (λ (b : StoredBook). begun b) (sym (book_parts root one two shape limit book ok).1) ∙ log_epochs one two (begun_of (roots_in root))

pub roots_said : (root one two : List ℕ) (shape : Shape) (limit : ℕ) (book : StoredBook) → book_of root one two shape limit ≡ Ok book → book.roots ≡ roots_in root
roots_said root one two shape limit book ok = ap (λ (b : StoredBook). b.roots) (sym (book_parts root one two shape limit book ok).1)

-- the root has a record for each of the book
pub root_count : (root one two : List ℕ) (shape : Shape) (limit : ℕ) (book : StoredBook) → book_of root one two shape limit ≡ Ok book → length book.roots ≡ length (records 9 root)
root_count root one two shape limit book ok = ap (λ (roots : List RootRecord). length roots) (roots_said root one two shape limit book ok) ∙ length-map (records 9 root) root_record

-- no others have begun than the floor and the one above it
pub near_said : (root one two : List ℕ) (shape : Shape) (limit : ℕ) (book : StoredBook) → book_of root one two shape limit ≡ Ok book → AreNear book.floor (begun book)
near_said root one two shape limit book ok =
    subst (λ (floor : ℕ). AreNear floor (begun book)) (sym (floor_said root one two shape limit book ok))
    (subst (λ (epochs : List ℕ). AreNear (floor_of (roots_in root)) epochs) (sym (begun_said root one two shape limit book ok))
    (begun_near (roots_in root) (book_parts root one two shape limit book ok).0.in_order))

-- ---- what a book depends on

-- whether a log is overfull depends on its records alone
pub same_overfull : (limit area size : ℕ) (bytes bytes' : List ℕ) → length (records size bytes') ≡ length (records size bytes) → overfull limit area size bytes' ≡ overfull limit area size bytes
same_overfull limit area size bytes bytes' same = ap (λ (n : ℕ). if nat_lt limit n then Some (Foreign area (limit * (size + 1))) else None) same

same_where : (used : Bool) (limit area : ℕ) (bytes bytes' : List ℕ) → (used ≡ true → records 32 bytes' ≡ records 32 bytes)
    → (if used then overfull limit area 32 bytes' else None) ≡ (if used then overfull limit area 32 bytes else None)
same_where true limit area bytes bytes' same = same_overfull limit area 32 bytes bytes' (ap (λ (found : List (List ℕ)). length found) (same refl))
same_where false limit area bytes bytes' same = refl

same_log : (one two one' two' : List ℕ) (epoch : ℕ) → (area_of epoch == 1 ≡ true → records 32 one' ≡ records 32 one) → (area_of epoch == 2 ≡ true → records 32 two' ≡ records 32 two)
    → log_in one' two' epoch ≡ log_in one two epoch
same_log one two one' two' epoch first second =
    elim (cases_lt (epoch % 2) 1) [
      | inl even ↦
          let in_one : area_of epoch == 1 ≡ true = eq-eqb (area_of epoch) 1 (omega arith) in
          rw in_one (ap (λ (tags : List (List ℕ)). record { epoch = epoch; tags = tags }) (first in_one))
      | inr odd ↦
          let in_two : area_of epoch ≡ 2 = omega arith in
          rw (ne_eqb (area_of epoch) 1 (λ one. omega (arith, one, in_two)))
          (ap (λ (tags : List (List ℕ)). record { epoch = epoch; tags = tags }) (second (eq-eqb (area_of epoch) 2 in_two)))
    ]

same_logs : (one two one' two' begun : List ℕ) → (is_used 1 begun ≡ true → records 32 one' ≡ records 32 one) → (is_used 2 begun ≡ true → records 32 two' ≡ records 32 two)
    → map (log_in one' two') begun ≡ map (log_in one two) begun
same_logs one two one' two' [] first second = refl
same_logs one two one' two' (epoch ∷ epochs) first second =
    let here : log_in one' two' epoch ≡ log_in one two epoch
    = same_log one two one' two' epoch (λ in_one. first (or_left (area_of epoch == 1) (is_used 1 epochs) in_one)) (λ in_two. second (or_left (area_of epoch == 2) (is_used 2 epochs) in_two)) in
    let later : map (log_in one' two') epochs ≡ map (log_in one two) epochs
    = same_logs one two one' two' epochs (λ used. first (or_right (area_of epoch == 1) (is_used 1 epochs) used)) (λ used. second (or_right (area_of epoch == 2) (is_used 2 epochs) used)) in
    λ i. here i ∷ later i

pub some_recorded : (bytes : List ℕ) (roots : List RootRecord) → 0 < length roots → unrecorded (length bytes) roots ≡ None
some_recorded bytes [] some = absurd (omega arith)
some_recorded bytes (root ∷ roots) some = refl

same_unrecorded : (bytes bytes' : List ℕ) (roots : List RootRecord) → (roots ≡ [] → nat_lt 11 (length bytes') ≡ nat_lt 11 (length bytes)) → unrecorded (length bytes') roots ≡ unrecorded (length bytes) roots
same_unrecorded bytes bytes' [] same = ap (λ (many : Bool). if many then Some (Foreign 0 0) else None) (same refl)
same_unrecorded bytes bytes' (root ∷ roots) same = refl

pub none_mapped : (found : List (List ℕ)) → map root_record found ≡ [] → found ≡ []
none_mapped [] none = refl
none_mapped (bytes ∷ others) none = absurd (cc)

-- the same records of the root, and the same records in each area that a begun epoch uses, make the same book or the
-- same objection; of a root without a record it also matters whether it has more than 11 bytes
pub same_answer : (root one two root' one' two' : List ℕ) (shape : Shape) (limit : ℕ) → records 9 root' ≡ records 9 root
    → (records 9 root ≡ [] → nat_lt 11 (length root') ≡ nat_lt 11 (length root))
    → (is_used 1 (begun_of (roots_in root)) ≡ true → records 32 one' ≡ records 32 one) → (is_used 2 (begun_of (roots_in root)) ≡ true → records 32 two' ≡ records 32 two)
    → book_of root' one' two' shape limit ≡ book_of root one two shape limit
same_answer root one two root' one' two' shape limit same bare first second =
    let roots : roots_in root' ≡ roots_in root = ap (λ (found : List (List ℕ)). map root_record found) same in
    let counted : overfull limit 0 9 root' ≡ overfull limit 0 9 root = same_overfull limit 0 9 root root' (ap (λ (found : List (List ℕ)). length found) same) in
    let recorded : unrecorded (length root') (roots_in root') ≡ unrecorded (length root) (roots_in root)
    = ap (λ (found : List RootRecord). unrecorded (length root') found) roots ∙ same_unrecorded root root' (roots_in root) (λ none. bare (none_mapped (records 9 root) none)) in
    let first_log : overfull_log limit 1 one' (begun_of (roots_in root')) ≡ overfull_log limit 1 one (begun_of (roots_in root))
    = ap (λ (found : List RootRecord). overfull_log limit 1 one' (begun_of found)) roots ∙ same_where (is_used 1 (begun_of (roots_in root))) limit 1 one one' first in
    let second_log : overfull_log limit 2 two' (begun_of (roots_in root')) ≡ overfull_log limit 2 two (begun_of (roots_in root))
    = ap (λ (found : List RootRecord). overfull_log limit 2 two' (begun_of found)) roots ∙ same_where (is_used 2 (begun_of (roots_in root))) limit 2 two two' second in
    let logs : map (log_in one' two') (begun_of (roots_in root')) ≡ map (log_in one two) (begun_of (roots_in root))
    = ap (λ (found : List RootRecord). map (log_in one' two') (begun_of found)) roots ∙ same_logs one two one' two' (begun_of (roots_in root)) first second in
    λ i. unless (first_of (counted i ∷ recorded i ∷ amiss (roots i) ∷ other_shape shape (roots i) ∷ first_log i ∷ second_log i ∷ []))
    (record { floor = floor_of (roots i); logs = logs i; roots = roots i })

-- of a root that has a record, the records alone matter
pub same_book : (root one two root' one' two' : List ℕ) (shape : Shape) (limit : ℕ) → 0 < length (records 9 root) → records 9 root' ≡ records 9 root
    → (is_used 1 (begun_of (roots_in root)) ≡ true → records 32 one' ≡ records 32 one) → (is_used 2 (begun_of (roots_in root)) ≡ true → records 32 two' ≡ records 32 two)
    → book_of root' one' two' shape limit ≡ book_of root one two shape limit
same_book root one two root' one' two' shape limit some same first second =
    same_answer root one two root' one' two' shape limit same (λ none. absurd (omega (arith, some, ap (λ (found : List (List ℕ)). length found) none))) first second

-- ---- a root without a record

-- nothing begun, nothing spent, and no record in the root
abbrev pub empty_book : StoredBook
empty_book = record { floor = 0; logs = []; roots = [] }

-- it gives the empty book, whatever stands in the other areas
pub book_unrecorded : (root one two : List ℕ) (shape : Shape) (limit : ℕ) → records 9 root ≡ [] → length root ≤ 11 → book_of root one two shape limit ≡ Ok empty_book
book_unrecorded root one two shape limit none short = rw (none, le-ltb 11 (length root) short, le-ltb limit 0 (omega arith)) refl
