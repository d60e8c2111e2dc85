-- What records more make of a book: a floor that rises, an epoch that begins, tags that are spent, and the first
-- record of a root.
use Rattle.std.specs.Prelude.{◌≡◌, ℕ, ◌+◌, ◌*◌, ◌/◌, ◌%◌, ◌^◌, ◌<◌, ◌≤◌, ◌==◌, ◌&&◌, ◌||◌, ◌⊎◌, not, nat_le, nat_lt, Bool, true, false, List, [], ◌∷◌, ◌++◌, length, map, filter, Option, None, Ok, if◌then◌else◌, cond}
use Rattle.std.specs.List.{list_any}
use Rattle.std.specs.Option.{option_map}
use Rattle.std.proofs.Common.{refl, sym, ap, subst, ◌∙◌, inl, inr, arith, append-nil, append_assoc}
use Rattle.std.proofs.lemmas.Bool.{cases_eq, cases_order, cases_Bool, eq-eqb, ne_eqb, eqb-true, lt-leb, le-ltb, or_left, or_right, or_from, or_cases, not_from_true, and_parts, leb-true, ltb-true}
use Rattle.std.proofs.lemmas.List.{length-append, length-map, map-append}
use Rattle.std.proofs.lemmas.List.Folds.{list_any-append}
use Rattle.mix_base.specs.declared.shards.Shape.{Shape}
use Rattle.gate_log.specs.Records.{records}
use Rattle.spent_store.specs.Root.{IsNear, AreNear, root_record, spell_root, roots_in, floor_of, floor_after, begun_of, begun_after, shape_value, value_shape, is_shape, is_amiss_at, is_amiss, first_amiss}
use Rattle.spent_store.specs.Books.{EpochLog, StoredBook, begun, has_begun, area_of, log_bytes, log_in, is_used, overfull, amiss, other_shape, overfull_log, spelled_book, book_of}
use Rattle.spent_store.specs.Changes.{raised, begun_with, log_with, added, with_made, made}
use Rattle.spent_store.proofs.RootLaws.{made_read, begin_read, floor_read, roots_more}
use Rattle.spent_store.proofs.StandingLaws.{floor_more, begun_more}
use Rattle.spent_store.proofs.NearLaws.{none_found, none_mapped, begun_near}
use Rattle.spent_store.proofs.BookLaws.{both_areas, log_bytes-one, log_bytes-two, log_epochs, IsUnobjected, book_parts, begun_said, book_spelled, some_recorded, same_overfull, empty_book}
use Rattle.spent_store.specs.declared.root.RootRecord.{RootRecord}
use Rattle.spent_store.specs.declared.root.RootRecord.TheVariants.{Made, Begin, Floor, Other}
use Rattle.spent_store.specs.declared.faults.Objection.{Objection}
use Rattle.spent_store.specs.declared.faults.Objection.TheVariants.{Foreign}

-- ---- one root record more

-- a root in order stays so with a record more that isn't amiss
none_amiss_more : (front rest : List RootRecord) (root : RootRecord) → first_amiss front rest ≡ None → is_amiss (front ++ rest) root ≡ false → first_amiss front (rest ++ root ∷ []) ≡ None
none_amiss_more front [] root none right =
    let test : is_amiss front root ≡ false = subst (λ (before : List RootRecord). is_amiss before root ≡ false) (append-nil front) right in
    rw test refl
none_amiss_more front (first ∷ rest) root none right =
    let parts = none_found (is_amiss front first) (length front) (first_amiss (front ++ first ∷ []) rest) none in
    let later : is_amiss ((front ++ first ∷ []) ++ rest) root ≡ false = subst (λ (before : List RootRecord). is_amiss before root ≡ false) (sym (append_assoc front (first ∷ []) rest)) right in
    rw parts.0 (none_amiss_more (front ++ first ∷ []) rest root parts.1 later)

in_order_more : (roots : List RootRecord) (root : RootRecord) → amiss roots ≡ None → is_amiss roots root ≡ false → amiss (roots ++ root ∷ []) ≡ None
in_order_more roots root none right =
    ap (λ (place : Option ℕ). option_map (λ before. Foreign 0 (before * 10 + 1)) place) (none_amiss_more [] roots root (none_mapped (first_amiss [] roots) none) right)

-- the first record says the shape
shaped_more : (shape : Shape) (roots : List RootRecord) (root : RootRecord) → 0 < length roots → other_shape shape (roots ++ root ∷ []) ≡ other_shape shape roots
shaped_more shape [] root some = absurd (omega arith)
shaped_more shape (Made value ∷ roots) root some = refl
shaped_more shape (Begin epoch ∷ roots) root some = refl
shaped_more shape (Floor epoch ∷ roots) root some = refl
shaped_more shape (Other kind value ∷ roots) root some = refl

not_first : (roots : List RootRecord) (floor : ℕ) (epochs : List ℕ) (root : RootRecord) → 0 < length roots → is_amiss_at false floor epochs root ≡ false → is_amiss_at (length roots == 0) floor epochs root ≡ false
not_first roots floor epochs root some right = rw (ne_eqb (length roots) 0 (λ none. omega (arith, none))) right

-- nothing is against a log that isn't used, or has room
none_where : (used : Bool) (found : Option Objection) → (used ≡ true → found ≡ None) → (if used then found else None) ≡ None
none_where true found none = none refl
none_where false found none = refl

where_none : (used : Bool) (found : Option Objection) → (if used then found else None) ≡ None → used ≡ true → found ≡ None
where_none true found none used = none
where_none false found none used = absurd (cc)

not_overfull : (limit area size : ℕ) (bytes : List ℕ) → length (records size bytes) ≤ limit → overfull limit area size bytes ≡ None
not_overfull limit area size bytes few = rw (le-ltb limit (length (records size bytes)) few) refl

-- what one record more of a root leads to, where it isn't amiss: nothing is against the bytes, unless it is against
-- the logs
root_more : (root one two root' : List ℕ) (shape : Shape) (limit : ℕ) (more : RootRecord) → IsUnobjected root one two shape limit → 0 < length (roots_in root) → length (roots_in root) < limit
    → roots_in root' ≡ roots_in root ++ more ∷ [] → is_amiss_at false (floor_of (roots_in root)) (begun_of (roots_in root)) more ≡ false
    → overfull_log limit 1 one (begun_after (begun_of (roots_in root)) more) ≡ None → overfull_log limit 2 two (begun_after (begun_of (roots_in root)) more) ≡ None
    → book_of root' one two shape limit ≡ Ok (record { floor = floor_after (floor_of (roots_in root)) more; logs = map (log_in one two) (begun_after (begun_of (roots_in root)) more); roots = roots_in root ++ more ∷ [] })
root_more root one two root' shape limit more none some room is right first second =
    let roots = roots_in root in
    let right_there : is_amiss roots more ≡ false = not_first roots (floor_of roots) (begun_of roots) more some right in
    let floor : floor_of (roots_in root') ≡ floor_after (floor_of roots) more = ap (λ (found : List RootRecord). floor_of found) is ∙ floor_more roots more in
    let epochs : begun_of (roots_in root') ≡ begun_after (begun_of roots) more = ap (λ (found : List RootRecord). begun_of found) is ∙ begun_more (length roots == 0) roots more right_there in
    let number : length (records 9 root') ≤ limit
    = omega (arith, length-map (records 9 root') root_record, ap (λ (found : List RootRecord). length found) is, length-append roots (more ∷ [])) in
    let some' : 0 < length (roots_in root') = omega (arith, ap (λ (found : List RootRecord). length found) is, length-append roots (more ∷ [])) in
    let none' : IsUnobjected root' one two shape limit
    = record {
      counted = not_overfull limit 0 9 root' number;
      recorded = some_recorded root' (roots_in root') some';
      in_order = ap (λ (found : List RootRecord). amiss found) is ∙ in_order_more roots more none.in_order right_there;
      shaped = ap (λ (found : List RootRecord). other_shape shape found) is ∙ shaped_more shape roots more some ∙ none.shaped;
      first_log = ap (λ (found : List ℕ). overfull_log limit 1 one found) epochs ∙ first;
      second_log = ap (λ (found : List ℕ). overfull_log limit 2 two found) epochs ∙ second;
    } in
    book_spelled root' one two shape limit none' ∙ (λ i. Ok (record { floor = floor i; logs = map (log_in one two) (epochs i); roots = is i }))

-- ---- a floor that rises

-- an area that is used after the floor rose was used before
pub still_used : (area floor : ℕ) (epochs : List ℕ) → is_used area (filter (λ epoch. nat_le floor epoch) epochs) ≡ true → is_used area epochs ≡ true
still_used area floor [] used = used
still_used area floor (epoch ∷ epochs) used =
    elim (cases_Bool (nat_le floor epoch)) [
      | inl kept ↦
          elim (or_cases (area_of epoch == area) (is_used area (filter (λ e. nat_le floor e) epochs)) (rw kept at used)) [
            | inl here ↦ or_left (area_of epoch == area) (is_used area epochs) here
            | inr later ↦ or_right (area_of epoch == area) (is_used area epochs) (still_used area floor epochs later)
          ]
      | inr dropped ↦ or_right (area_of epoch == area) (is_used area epochs) (still_used area floor epochs (rw dropped at used))
    ]

-- the logs of the epochs that a floor leaves
logs_kept_one : (one two : List ℕ) (epoch : ℕ) (kept : Bool) (epochs : List ℕ) (logs : List EpochLog) → map (log_in one two) epochs ≡ logs
    → map (log_in one two) (cond kept (epoch ∷ epochs) epochs) ≡ cond kept (log_in one two epoch ∷ logs) logs
logs_kept_one one two epoch true epochs logs same = ap (λ (rest : List EpochLog). log_in one two epoch ∷ rest) same
logs_kept_one one two epoch false epochs logs same = same

logs_kept : (one two : List ℕ) (floor : ℕ) (epochs : List ℕ)
    → map (log_in one two) (filter (λ epoch. nat_le floor epoch) epochs) ≡ filter (λ (log : EpochLog). nat_le floor log.epoch) (map (log_in one two) epochs)
logs_kept one two floor [] = refl
logs_kept one two floor (epoch ∷ epochs) =
    logs_kept_one one two epoch (nat_le floor epoch) (filter (λ e. nat_le floor e) epochs) (filter (λ (log : EpochLog). nat_le floor log.epoch) (map (log_in one two) epochs))
    (logs_kept one two floor epochs)

raised_above : (floor : ℕ) (book : StoredBook) → book.floor < floor
    → raised floor book ≡ record { floor = floor; logs = filter (λ (log : EpochLog). nat_le floor log.epoch) book.logs; roots = book.roots ++ Floor floor ∷ [] }
raised_above floor book above = rw (lt-leb floor book.floor above) refl

floor_spelled : (root one two root' : List ℕ) (shape : Shape) (limit floor : ℕ) → IsUnobjected root one two shape limit → 0 < length (roots_in root) → length (roots_in root) < limit
    → floor < 2 ^ 64 → floor_of (roots_in root) < floor → records 9 root' ≡ records 9 root ++ spell_root (Floor floor) ∷ []
    → book_of root' one two shape limit ≡ Ok (raised floor (spelled_book root one two))
floor_spelled root one two root' shape limit floor none some room small above more =
    let roots = roots_in root in
    let is : roots_in root' ≡ roots ++ Floor floor ∷ [] = roots_more root root' (spell_root (Floor floor)) more ∙ ap (λ (last : RootRecord). roots ++ last ∷ []) (floor_read floor small) in
    let first : overfull_log limit 1 one (filter (λ epoch. nat_le floor epoch) (begun_of roots)) ≡ None
    = none_where _ _ (λ used. where_none _ _ none.first_log (still_used 1 floor (begun_of roots) used)) in
    let second : overfull_log limit 2 two (filter (λ epoch. nat_le floor epoch) (begun_of roots)) ≡ None
    = none_where _ _ (λ used. where_none _ _ none.second_log (still_used 2 floor (begun_of roots) used)) in
    root_more root one two root' shape limit (Floor floor) none some room is (lt-leb floor (floor_of roots) above) first second
    ∙ (λ i. Ok (record { floor = floor; logs = logs_kept one two floor (begun_of roots) i; roots = roots ++ Floor floor ∷ [] }))
    ∙ (λ i. Ok (sym (raised_above floor (spelled_book root one two) above) i))

-- one Floor record more, above the floor, raises the floor of the book
pub floor_added : (root one two root' : List ℕ) (shape : Shape) (limit floor : ℕ) (book : StoredBook) → book_of root one two shape limit ≡ Ok book → 0 < length book.roots → length book.roots < limit
    → floor < 2 ^ 64 → book.floor < floor → records 9 root' ≡ records 9 root ++ spell_root (Floor floor) ∷ []
    → book_of root' one two shape limit ≡ Ok (raised floor book)
floor_added root one two root' shape limit floor book ok some room small above more =
    let parts = book_parts root one two shape limit book ok in
    let is = parts.1 in
    floor_spelled root one two root' shape limit floor parts.0
    (subst (λ (b : StoredBook). 0 < length b.roots) (sym is) some) (subst (λ (b : StoredBook). length b.roots < limit) (sym is) room) small
    (subst (λ (b : StoredBook). b.floor < floor) (sym is) above) more
    ∙ (λ i. Ok (raised floor (is i)))

-- ---- an epoch that begins

-- an epoch that may begin isn't amiss
begin_right : (floor epoch : ℕ) (epochs : List ℕ) → IsNear floor epoch → list_any (λ other. other == epoch) epochs ≡ false → is_amiss_at false floor epochs (Begin epoch) ≡ false
begin_right floor epoch epochs near new = or_from (list_any (λ other. other == epoch) epochs) (not (epoch == floor || epoch == floor + 1)) new (not_from_true (epoch == floor || epoch == floor + 1) (
    elim (cases_eq epoch floor) [
      | inl same ↦ or_left (epoch == floor) (epoch == floor + 1) (eq-eqb epoch floor same)
      | inr above ↦ or_right (epoch == floor) (epoch == floor + 1) (eq-eqb epoch (floor + 1) (omega (arith, near.0, near.1, above)))
    ]))

-- a log that begins is empty
begun_log : (limit area epoch : ℕ) (bytes epochs : List ℕ) → overfull_log limit area bytes epochs ≡ None → (area_of epoch ≡ area → records 32 bytes ≡ []) → overfull_log limit area bytes (epochs ++ epoch ∷ []) ≡ None
begun_log limit area epoch bytes epochs none empty =
    none_where _ _ (λ used.
    elim (or_cases (is_used area epochs) (is_used area (epoch ∷ [])) (sym (list_any-append (λ e. area_of e == area) epochs (epoch ∷ [])) ∙ used)) [
      | inl before ↦ where_none _ _ none before
      | inr new ↦
          elim (or_cases (area_of epoch == area) false new) [
            | inl here ↦ not_overfull limit area 32 bytes (omega (arith, ap (λ (found : List (List ℕ)). length found) (empty (eqb-true (area_of epoch) area here))))
            | inr nowhere ↦ absurd (cc)
          ]
    ])

begun_new : (epoch : ℕ) (book : StoredBook) → has_begun epoch book ≡ false
    → begun_with epoch book ≡ record book { logs = book.logs ++ record { epoch = epoch; tags = [] } ∷ []; roots = book.roots ++ Begin epoch ∷ [] }
begun_new epoch book new = rw new refl

begin_spelled : (root one two root' : List ℕ) (shape : Shape) (limit epoch : ℕ) → IsUnobjected root one two shape limit → 0 < length (roots_in root) → length (roots_in root) < limit
    → epoch < 2 ^ 64 → IsNear (floor_of (roots_in root)) epoch → list_any (λ other. other == epoch) (begun_of (roots_in root)) ≡ false → records 32 (log_bytes one two epoch) ≡ []
    → records 9 root' ≡ records 9 root ++ spell_root (Begin epoch) ∷ []
    → book_of root' one two shape limit ≡ Ok (begun_with epoch (spelled_book root one two))
begin_spelled root one two root' shape limit epoch none some room small near new empty more =
    let roots = roots_in root in
    let is : roots_in root' ≡ roots ++ Begin epoch ∷ [] = roots_more root root' (spell_root (Begin epoch)) more ∙ ap (λ (last : RootRecord). roots ++ last ∷ []) (begin_read epoch small) in
    let first : overfull_log limit 1 one (begun_of roots ++ epoch ∷ []) ≡ None
    = begun_log limit 1 epoch one (begun_of roots) none.first_log (λ here. ap (λ (bytes : List ℕ). records 32 bytes) (sym (log_bytes-one one two epoch here)) ∙ empty) in
    let second : overfull_log limit 2 two (begun_of roots ++ epoch ∷ []) ≡ None
    = begun_log limit 2 epoch two (begun_of roots) none.second_log (λ here. ap (λ (bytes : List ℕ). records 32 bytes) (sym (log_bytes-two one two epoch here)) ∙ empty) in
    let logs : map (log_in one two) (begun_of roots ++ epoch ∷ []) ≡ map (log_in one two) (begun_of roots) ++ record { epoch = epoch; tags = [] } ∷ []
    = map-append (log_in one two) (begun_of roots) (epoch ∷ []) ∙ (λ i. map (log_in one two) (begun_of roots) ++ record { epoch = epoch; tags = empty i } ∷ []) in
    let new_there : has_begun epoch (spelled_book root one two) ≡ false
    = ap (λ (epochs : List ℕ). list_any (λ other. other == epoch) epochs) (log_epochs one two (begun_of roots)) ∙ new in
    root_more root one two root' shape limit (Begin epoch) none some room is (begin_right (floor_of roots) epoch (begun_of roots) near new) first second
    ∙ (λ i. Ok (record { floor = floor_of roots; logs = logs i; roots = roots ++ Begin epoch ∷ [] }))
    ∙ (λ i. Ok (sym (begun_new epoch (spelled_book root one two) new_there) i))

-- one Begin record more, of the floor or the epoch above it, that hasn't begun and whose area has no records, begins
-- the epoch
pub begin_added : (root one two root' : List ℕ) (shape : Shape) (limit epoch : ℕ) (book : StoredBook) → book_of root one two shape limit ≡ Ok book → 0 < length book.roots → length book.roots < limit
    → epoch < 2 ^ 64 → IsNear book.floor epoch → has_begun epoch book ≡ false → records 32 (log_bytes one two epoch) ≡ []
    → records 9 root' ≡ records 9 root ++ spell_root (Begin epoch) ∷ []
    → book_of root' one two shape limit ≡ Ok (begun_with epoch book)
begin_added root one two root' shape limit epoch book ok some room small near new empty more =
    let parts = book_parts root one two shape limit book ok in
    let is = parts.1 in
    let epochs : begun book ≡ begun_of (roots_in root) = begun_said root one two shape limit book ok in
    begin_spelled root one two root' shape limit epoch parts.0
    (subst (λ (b : StoredBook). 0 < length b.roots) (sym is) some) (subst (λ (b : StoredBook). length b.roots < limit) (sym is) room) small
    (subst (λ (b : StoredBook). IsNear b.floor epoch) (sym is) near) (subst (λ (found : List ℕ). list_any (λ other. other == epoch) found ≡ false) epochs new) empty more
    ∙ (λ i. Ok (begun_with epoch (is i)))

-- ---- tags that are spent

-- of two different epochs that are the floor or the one above it, each has the area of the other's neighbour
pub other_area : (floor epoch other : ℕ) → IsNear floor epoch → IsNear floor other → (epoch ≡ other → ⊥) → area_of other ≡ area_of (epoch + 1)
other_area floor epoch other near near_other differ =
    elim (cases_order epoch other) [
      | inl same ↦ absurd (differ same)
      | inr ordered ↦
          elim ordered [
            | inl below ↦ let next : other ≡ epoch + 1 = omega (arith, near.0, near_other.1, below) in ap area_of next
            | inr above ↦ let next : epoch ≡ other + 1 = omega (arith, near.1, near_other.0, above) in omega (arith, next)
          ]
    ]

-- epochs of one area have one log
same_area : (one two : List ℕ) (epoch other : ℕ) → area_of other ≡ area_of epoch → log_bytes one two other ≡ log_bytes one two epoch
same_area one two epoch other same = ap (λ (area : ℕ). if area == 1 then one else two) same

log_here : (one two one' two' : List ℕ) (epoch : ℕ) (tags : List (List ℕ)) (other : ℕ) → records 32 (log_bytes one' two' epoch) ≡ records 32 (log_bytes one two epoch) ++ tags → other ≡ epoch
    → log_in one' two' other ≡ log_with epoch tags (log_in one two other)
log_here one two one' two' epoch tags other more same =
    rw (eq-eqb other epoch same)
    (λ i. record {
      epoch = other;
      tags = ((λ j. records 32 (log_bytes one' two' (same j))) ∙ more ∙ (λ j. records 32 (log_bytes one two (sym same j)) ++ tags)) i;
    })

log_there : (one two one' two' : List ℕ) (epoch : ℕ) (tags : List (List ℕ)) (other : ℕ) → records 32 (log_bytes one' two' (epoch + 1)) ≡ records 32 (log_bytes one two (epoch + 1))
    → area_of other ≡ area_of (epoch + 1) → log_in one' two' other ≡ log_with epoch tags (log_in one two other)
log_there one two one' two' epoch tags other rest apart =
    rw (ne_eqb other epoch (λ same. omega (arith, same, apart)))
    (λ i. record {
      epoch = other;
      tags = (ap (λ (bytes : List ℕ). records 32 bytes) (same_area one' two' (epoch + 1) other apart) ∙ rest
          ∙ ap (λ (bytes : List ℕ). records 32 bytes) (sym (same_area one two (epoch + 1) other apart))) i;
    })

log_more : (floor : ℕ) (one two one' two' : List ℕ) (epoch : ℕ) (tags : List (List ℕ)) (epochs : List ℕ) → AreNear floor epochs → list_any (λ other. other == epoch) epochs ≡ true
    → records 32 (log_bytes one' two' epoch) ≡ records 32 (log_bytes one two epoch) ++ tags
    → (is_used (area_of (epoch + 1)) epochs ≡ true → records 32 (log_bytes one' two' (epoch + 1)) ≡ records 32 (log_bytes one two (epoch + 1)))
    → map (log_in one' two') epochs ≡ map (log_with epoch tags) (map (log_in one two) epochs)
log_more floor one two one' two' epoch tags [] near there more rest = absurd (cc)
log_more floor one two one' two' epoch tags (a ∷ []) near there more rest =
    elim (or_cases (a == epoch) false there) [
      | inl here ↦ λ i. log_here one two one' two' epoch tags a more (eqb-true a epoch here) i ∷ []
      | inr nowhere ↦ absurd (cc)
    ]
log_more floor one two one' two' epoch tags (a ∷ b ∷ []) near there more rest =
    elim (cases_eq a epoch) [
      | inl here ↦
          let apart : area_of b ≡ area_of (epoch + 1) = other_area floor a b near.0 near.1 near.2 ∙ ap (λ (e : ℕ). area_of (e + 1)) here in
          let used : is_used (area_of (epoch + 1)) (a ∷ b ∷ []) ≡ true
          = or_right (area_of a == area_of (epoch + 1)) (is_used (area_of (epoch + 1)) (b ∷ [])) (or_left (area_of b == area_of (epoch + 1)) false (eq-eqb (area_of b) (area_of (epoch + 1)) apart)) in
          λ i. log_here one two one' two' epoch tags a more here i ∷ log_there one two one' two' epoch tags b (rest used) apart i ∷ []
      | inr elsewhere ↦
          let there_b : (b == epoch || false) ≡ true = rw (ne_eqb a epoch elsewhere) at there in
          elim (or_cases (b == epoch) false there_b) [
            | inl here ↦
                let is : b ≡ epoch = eqb-true b epoch here in
                let apart : area_of a ≡ area_of (epoch + 1) = other_area floor b a near.1 near.0 (λ same. near.2 (sym same)) ∙ ap (λ (e : ℕ). area_of (e + 1)) is in
                let used : is_used (area_of (epoch + 1)) (a ∷ b ∷ []) ≡ true
                = or_left (area_of a == area_of (epoch + 1)) (is_used (area_of (epoch + 1)) (b ∷ [])) (eq-eqb (area_of a) (area_of (epoch + 1)) apart) in
                λ i. log_there one two one' two' epoch tags a (rest used) apart i ∷ log_here one two one' two' epoch tags b more is i ∷ []
            | inr nowhere ↦ absurd (cc)
          ]
    ]
log_more floor one two one' two' epoch tags (a ∷ b ∷ c ∷ others) near there more rest = absurd near

-- where an area is used, the same records, or one more where there is room
abbrev IsSameOrMore : ℕ → ℕ → List (List ℕ) → List ℕ → List ℕ → List ℕ → Type 0
IsSameOrMore limit area tags epochs old new = is_used area epochs ≡ true → (records 32 new ≡ records 32 old) ⊎ ((records 32 new ≡ records 32 old ++ tags) × (length (records 32 old) + length tags ≤ limit))

still_within : (limit area : ℕ) (tags : List (List ℕ)) (epochs old new : List ℕ) → overfull_log limit area old epochs ≡ None → IsSameOrMore limit area tags epochs old new → overfull_log limit area new epochs ≡ None
still_within limit area tags epochs old new none how =
    none_where _ _ (λ used.
    elim (how used) [
      | inl same ↦ same_overfull limit area 32 old new (ap (λ (found : List (List ℕ)). length found) same) ∙ where_none _ _ none used
      | inr more ↦
          not_overfull limit area 32 new (omega (arith, more.1, ap (λ (found : List (List ℕ)). length found) more.0, length-append (records 32 old) tags))
    ])

-- more records in the area of a begun epoch's log spend these tags in it, whatever stands in the other area where that
-- isn't used
pub tag_added : (root one two one' two' : List ℕ) (shape : Shape) (limit epoch : ℕ) (tags : List (List ℕ)) (book : StoredBook) → book_of root one two shape limit ≡ Ok book
    → has_begun epoch book ≡ true → length (records 32 (log_bytes one two epoch)) + length tags ≤ limit
    → records 32 (log_bytes one' two' epoch) ≡ records 32 (log_bytes one two epoch) ++ tags
    → (is_used (area_of (epoch + 1)) (begun book) ≡ true → records 32 (log_bytes one' two' (epoch + 1)) ≡ records 32 (log_bytes one two (epoch + 1)))
    → book_of root one' two' shape limit ≡ Ok (added epoch tags book)
tag_added root one two one' two' shape limit epoch tags book ok there room more rest =
    let parts = book_parts root one two shape limit book ok in
    let is = parts.1 in
    let roots = roots_in root in
    let epochs : begun book ≡ begun_of roots = begun_said root one two shape limit book ok in
    let begun_there : list_any (λ other. other == epoch) (begun_of roots) ≡ true = subst (λ (found : List ℕ). list_any (λ other. other == epoch) found ≡ true) epochs there in
    let beside : is_used (area_of (epoch + 1)) (begun_of roots) ≡ true → records 32 (log_bytes one' two' (epoch + 1)) ≡ records 32 (log_bytes one two (epoch + 1))
    = λ used. rest (ap (λ (found : List ℕ). is_used (area_of (epoch + 1)) found) epochs ∙ used) in
    let logs : map (log_in one' two') (begun_of roots) ≡ map (log_with epoch tags) (map (log_in one two) (begun_of roots))
    = log_more (floor_of roots) one two one' two' epoch tags (begun_of roots) (begun_near roots parts.0.in_order) begun_there more beside in
    let areas
    = both_areas (λ (area : ℕ) (old new : List ℕ). IsSameOrMore limit area tags (begun_of roots) old new) epoch one two one' two' (λ used. inr (more, room)) (λ used. inl (beside used)) in
    let none : IsUnobjected root one' two' shape limit
    = record {
      counted = parts.0.counted;
      recorded = parts.0.recorded;
      in_order = parts.0.in_order;
      shaped = parts.0.shaped;
      first_log = still_within limit 1 tags (begun_of roots) one one' parts.0.first_log areas.0;
      second_log = still_within limit 2 tags (begun_of roots) two two' parts.0.second_log areas.1;
    } in
    book_spelled root one' two' shape limit none ∙ (λ i. Ok (record { floor = floor_of roots; logs = logs i; roots = roots })) ∙ (λ i. Ok (added epoch tags (is i)))

-- ---- the first record of a root

-- what a good shape is
record IsGood (shape : Shape) : Type 0 where
  shards : shape.shards ≤ 16
  index : shape.index < shape.shards

good_shape : (shape : Shape) → is_shape shape ≡ true → IsGood shape
good_shape shape good =
    let some : Bool = nat_le 1 shape.shards in
    let few : Bool = nat_le shape.shards 16 in
    let within : Bool = nat_lt shape.index shape.shards in
    let rest = and_parts few within (and_parts some (few && within) good).1 in
    record { shards = leb-true shape.shards 16 rest.0; index = ltb-true shape.index shape.shards rest.1 }

-- a shape is that of its value
value_shape-shape_value : (shape : Shape) → is_shape shape ≡ true → value_shape (shape_value shape) ≡ shape
value_shape-shape_value shape good =
    let bounds = good_shape shape good in
    let high : (shape.shards * 256 + shape.index) / 256 ≡ shape.shards = omega arith in
    let low : (shape.shards * 256 + shape.index) % 256 ≡ shape.index = omega arith in
    λ i. record { shards = high i; index = low i }

small_value : (shape : Shape) → is_shape shape ≡ true → shape_value shape < 2 ^ 64
small_value shape good =
    let bounds = good_shape shape good in
    omega arith

made_in_order : (shape : Shape) → is_shape shape ≡ true → amiss (Made (shape_value shape) ∷ []) ≡ None
made_in_order shape good =
    let right : is_amiss [] (Made (shape_value shape)) ≡ false
    = not_from_true (is_shape (value_shape (shape_value shape))) (ap (λ (of : Shape). is_shape of) (value_shape-shape_value shape good) ∙ good) in
    rw right refl

-- the first record of a root without one makes it the root of the shape
pub made_first : (root one two root' : List ℕ) (shape : Shape) (limit : ℕ) (book : StoredBook) → book_of root one two shape limit ≡ Ok book → records 9 root ≡ [] → is_shape shape ≡ true → 0 < limit
    → records 9 root' ≡ records 9 root ++ spell_root (Made (shape_value shape)) ∷ []
    → book_of root' one two shape limit ≡ Ok (made shape book)
made_first root one two root' shape limit book ok empty good some more =
    let value : ℕ = shape_value shape in
    let none_there : roots_in root ≡ [] = ap (λ (found : List (List ℕ)). map root_record found) empty in
    let is : spelled_book root one two ≡ book = (book_parts root one two shape limit book ok).1 in
    let was : empty_book ≡ book = (λ i. record { floor = floor_of (sym none_there i); logs = map (log_in one two) (begun_of (sym none_there i)); roots = sym none_there i }) ∙ is in
    let single : records 9 root' ≡ spell_root (Made value) ∷ [] = more ∙ (λ i. empty i ++ spell_root (Made value) ∷ []) in
    let roots : roots_in root' ≡ Made value ∷ [] = ap (λ (found : List (List ℕ)). map root_record found) single ∙ (λ i. made_read value (small_value shape good) i ∷ []) in
    let none : IsUnobjected root' one two shape limit
    = record {
      counted = not_overfull limit 0 9 root' (omega (arith, ap (λ (found : List (List ℕ)). length found) single));
      recorded = some_recorded root' (roots_in root') (omega (arith, ap (λ (found : List RootRecord). length found) roots));
      in_order = ap (λ (found : List RootRecord). amiss found) roots ∙ made_in_order shape good;
      shaped = ap (λ (found : List RootRecord). other_shape shape found) roots ∙ (rw (eq-eqb value value refl) refl);
      first_log = ap (λ (found : List RootRecord). overfull_log limit 1 one (begun_of found)) roots;
      second_log = ap (λ (found : List RootRecord). overfull_log limit 2 two (begun_of found)) roots;
    } in
    book_spelled root' one two shape limit none
    ∙ (λ i. Ok (record { floor = floor_of (roots i); logs = map (log_in one two) (begun_of (roots i)); roots = roots i }))
    ∙ (λ i. Ok (made shape (was i)))

-- a book of a root with a record is made already
pub made_before : (shape : Shape) (book : StoredBook) → 0 < length book.roots → made shape book ≡ book
made_before shape book some = (λ i. record book { roots = kept book.roots some i })
  where
    kept : (roots : List RootRecord) → 0 < length roots → with_made shape roots ≡ roots
    kept [] none = absurd (omega arith)
    kept (root ∷ roots) there = refl
