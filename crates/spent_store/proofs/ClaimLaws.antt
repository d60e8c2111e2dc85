-- What a claim or a retirement that isn't refused finds in the book, and what holds of the stages that it passes.
use Rattle.std.specs.Prelude.{◌≡◌, ℕ, suc, ◌+◌, ◌<◌, ◌≤◌, ◌==◌, ◌||◌, nat_le, nat_lt, Bool, true, false, List, [], ◌∷◌, ◌++◌, length, map, filter, Option, Some, None, if◌then◌else◌}
use Rattle.std.specs.List.{list_any, flat_map}
use Rattle.std.proofs.Common.{refl, sym, ap, ◌∙◌, inl, inr, arith}
use Rattle.std.proofs.lemmas.Bool.{cases_lt, cases_Bool, eq-eqb, ne_eqb, lt-leb, le-leb, leb-false, ltb-false, or_left, or_right, or_parts}
use Rattle.std.proofs.lemmas.List.{length-append, map-append}
use Rattle.std.proofs.lemmas.List.Elements.{filter-append}
use Rattle.std.proofs.lemmas.List.Folds.{list_any-append}
use Rattle.spent_store.specs.Root.{IsNear}
use Rattle.spent_store.specs.Books.{EpochLog, StoredBook, begun, has_begun, pairs, is_spent}
use Rattle.spent_store.specs.Changes.{raised, begun_with, log_with, added}
use Rattle.spent_store.specs.Journals.{is_full, claim_refusal}
use Rattle.spent_store.specs.declared.root.RootRecord.{RootRecord}
use Rattle.spent_store.specs.declared.root.RootRecord.TheVariants.{Begin, Floor}
use Rattle.spent_store.specs.declared.faults.ClaimFault.{ClaimFault}
use Rattle.spent_store.specs.declared.faults.ClaimFault.TheVariants.{Retired, Spent, ShardFull}

-- ---- how many tags an epoch has

-- how many of the pairs are of an epoch
abbrev pub pair_count : ℕ → List EpochLog → ℕ
pair_count epoch logs = length (filter (λ (pair : ℕ × List ℕ). pair.0 == epoch) (flat_map (λ (log : EpochLog). map (λ tag. (log.epoch, tag)) log.tags) logs))

abbrev of_epoch : ℕ → ℕ × List ℕ → Bool
of_epoch epoch pair = pair.0 == epoch

-- all pairs of a log, or none
all_pairs : (epoch here : ℕ) (tags : List (List ℕ)) → here ≡ epoch → length (filter (of_epoch epoch) (map (λ tag. (here, tag)) tags)) ≡ length tags
all_pairs epoch here [] same = refl
all_pairs epoch here (tag ∷ tags) same = rw (eq-eqb here epoch same) (ap suc (all_pairs epoch here tags same))

no_pairs : (epoch here : ℕ) (tags : List (List ℕ)) → (here ≡ epoch → ⊥) → length (filter (of_epoch epoch) (map (λ tag. (here, tag)) tags)) ≡ 0
no_pairs epoch here [] differ = refl
no_pairs epoch here (tag ∷ tags) differ = rw (ne_eqb here epoch differ) (no_pairs epoch here tags differ)

count_first : (epoch : ℕ) (log : EpochLog) (logs : List EpochLog) → pair_count epoch (log ∷ logs) ≡ length (filter (of_epoch epoch) (map (λ tag. (log.epoch, tag)) log.tags)) + pair_count epoch logs
count_first epoch log logs =
    let front : List (ℕ × List ℕ) = map (λ tag. (log.epoch, tag)) log.tags in
    let rest : List (ℕ × List ℕ) = flat_map (λ (other : EpochLog). map (λ tag. (other.epoch, tag)) other.tags) logs in
    ap length (filter-append (of_epoch epoch) front rest) ∙ length-append (filter (of_epoch epoch) front) (filter (of_epoch epoch) rest)

pub count_here : (epoch : ℕ) (log : EpochLog) (logs : List EpochLog) → log.epoch ≡ epoch → pair_count epoch (log ∷ logs) ≡ length log.tags + pair_count epoch logs
count_here epoch log logs same = count_first epoch log logs ∙ ap (λ (n : ℕ). n + pair_count epoch logs) (all_pairs epoch log.epoch log.tags same)

pub count_elsewhere : (epoch : ℕ) (log : EpochLog) (logs : List EpochLog) → (log.epoch ≡ epoch → ⊥) → pair_count epoch (log ∷ logs) ≡ pair_count epoch logs
count_elsewhere epoch log logs differ = omega (arith, count_first epoch log logs, no_pairs epoch log.epoch log.tags differ)

-- the epochs of logs
abbrev epochs_of : List EpochLog → List ℕ
epochs_of logs = map (λ log. log.epoch) logs

-- ---- a claim that isn't refused

-- it is neither retired nor spent, and there is room in the epoch's log and in the root
pub record IsAccepted (limit epoch : ℕ) (tag : List ℕ) (least : ℕ) (book : StoredBook) : Type 0 where
  pub not_retired : book.floor ≤ epoch
  pub unspent : is_spent epoch tag book ≡ false
  pub log_room : length (filter (λ pair. pair.0 == epoch) (pairs book)) < limit
  pub root_room : length (begun_with epoch (raised least book)).roots ≤ limit

no_fault : (test : Bool) (fault : ClaimFault) (others : Option ClaimFault) → (if test then Some fault else others) ≡ None → (test ≡ false) × (others ≡ None)
no_fault true fault others none = absurd (cc)
no_fault false fault others none = (refl, none)

pub claim_accepted : (limit epoch : ℕ) (tag : List ℕ) (least : ℕ) (book : StoredBook) → claim_refusal limit epoch tag least book ≡ None → IsAccepted limit epoch tag least book
claim_accepted limit epoch tag least book none =
    let retired = no_fault (nat_lt epoch book.floor) (Retired book.floor) _ none in
    let spent = no_fault (is_spent epoch tag book) Spent _ retired.1 in
    let full = no_fault (is_full limit epoch least book) ShardFull None spent.1 in
    let room = or_parts (nat_le limit (length (filter (λ (pair : ℕ × List ℕ). pair.0 == epoch) (pairs book)))) (nat_lt limit (length (begun_with epoch (raised least book)).roots)) full.0 in
    record {
      not_retired = ltb-false epoch book.floor retired.0;
      unspent = spent.0;
      log_room = leb-false limit (length (filter (λ (pair : ℕ × List ℕ). pair.0 == epoch) (pairs book))) room.0;
      root_room = ltb-false limit (length (begun_with epoch (raised least book)).roots) room.1;
    }

-- ---- the states of a change

-- a floor that isn't raised leaves the book
pub raised_below : (floor : ℕ) (book : StoredBook) → floor ≤ book.floor → raised floor book ≡ book
raised_below floor book below = rw (le-leb floor book.floor below) refl

-- an epoch that has begun leaves it
pub begun_before : (epoch : ℕ) (book : StoredBook) → has_begun epoch book ≡ true → begun_with epoch book ≡ book
begun_before epoch book there = rw there refl

-- what a change puts behind the records of the root
pub raised_roots : (floor : ℕ) (book : StoredBook) → book.floor < floor → (raised floor book).roots ≡ book.roots ++ Floor floor ∷ []
raised_roots floor book above = rw (lt-leb floor book.floor above) refl

pub begun_roots : (epoch : ℕ) (book : StoredBook) → has_begun epoch book ≡ false → (begun_with epoch book).roots ≡ book.roots ++ Begin epoch ∷ []
begun_roots epoch book new = rw new refl

-- ---- the room that an accepted claim finds in the root

pub room_to_begin : (limit epoch : ℕ) (tag : List ℕ) (least : ℕ) (book : StoredBook) → IsAccepted limit epoch tag least book → has_begun epoch (raised least book) ≡ false
    → length (raised least book).roots < limit
room_to_begin limit epoch tag least book accepted new =
    omega (arith, accepted.root_room, ap (λ (roots : List RootRecord). length roots) (begun_roots epoch (raised least book) new), length-append (raised least book).roots (Begin epoch ∷ []))

-- the epoch is the floor that the claim leaves, or the one above it
pub claimed_near : (limit epoch : ℕ) (tag : List ℕ) (least : ℕ) (book : StoredBook) → IsAccepted limit epoch tag least book → least ≤ epoch → epoch ≤ least + 1 → IsNear (raised least book).floor epoch
claimed_near limit epoch tag least book accepted low high =
    elim (cases_lt book.floor least) [
      | inl above ↦ rw (lt-leb least book.floor above) (low, high)
      | inr below ↦ rw (le-leb least book.floor below) (accepted.not_retired, omega (arith, high, below))
    ]

-- ---- the room in the epoch's log

-- a floor that isn't above an epoch drops no pair of it
count_kept : (floor epoch : ℕ) (logs : List EpochLog) → floor ≤ epoch → pair_count epoch (filter (λ log. nat_le floor log.epoch) logs) ≡ pair_count epoch logs
count_kept floor epoch [] low = refl
count_kept floor epoch (log ∷ logs) low =
    elim (cases_lt log.epoch floor) [
      | inl below ↦ rw (lt-leb floor log.epoch below) (count_kept floor epoch logs low ∙ sym (count_elsewhere epoch log logs (λ same. omega (arith, same, below, low))))
      | inr above ↦
          rw (le-leb floor log.epoch above) (
          count_first epoch log (filter (λ (other : EpochLog). nat_le floor other.epoch) logs)
          ∙ ap (λ (n : ℕ). length (filter (of_epoch epoch) (map (λ tag. (log.epoch, tag)) log.tags)) + n) (count_kept floor epoch logs low)
          ∙ sym (count_first epoch log logs))
    ]

pub count_raised : (floor epoch : ℕ) (book : StoredBook) → floor ≤ epoch → pair_count epoch (raised floor book).logs ≡ pair_count epoch book.logs
count_raised floor epoch book low =
    elim (cases_lt book.floor floor) [
      | inl above ↦ rw (lt-leb floor book.floor above) (count_kept floor epoch book.logs low)
      | inr below ↦ rw (le-leb floor book.floor below) refl
    ]

-- the epoch has begun once it was begun
pub begins : (epoch : ℕ) (book : StoredBook) → has_begun epoch (begun_with epoch book) ≡ true
begins epoch book =
    elim (cases_Bool (has_begun epoch book)) [
      | inl there ↦ rw there there
      | inr new ↦
          rw new (
          ap (λ (epochs : List ℕ). list_any (λ other. other == epoch) epochs) (map-append (λ (log : EpochLog). log.epoch) book.logs (record { epoch = epoch; tags = [] } ∷ []))
          ∙ list_any-append (λ other. other == epoch) (begun book) (epoch ∷ [])
          ∙ or_right (has_begun epoch book) (epoch == epoch || false) (or_left (epoch == epoch) false (eq-eqb epoch epoch refl)))
    ]

-- ---- the begun epochs of a stage

epochs_kept : (floor : ℕ) (logs : List EpochLog) → epochs_of (filter (λ log. nat_le floor log.epoch) logs) ≡ filter (λ epoch. nat_le floor epoch) (epochs_of logs)
epochs_kept floor [] = refl
epochs_kept floor (log ∷ logs) =
    elim (cases_Bool (nat_le floor log.epoch)) [
      | inl kept ↦ rw kept (ap (λ (rest : List ℕ). log.epoch ∷ rest) (epochs_kept floor logs))
      | inr dropped ↦ rw dropped (epochs_kept floor logs)
    ]

-- a floor drops the epochs below it, one that begins comes last, and tags leave them
pub begun-raised : (floor : ℕ) (book : StoredBook) → book.floor < floor → begun (raised floor book) ≡ filter (λ epoch. nat_le floor epoch) (begun book)
begun-raised floor book above = rw (lt-leb floor book.floor above) (epochs_kept floor book.logs)

pub begun-begun_with : (epoch : ℕ) (book : StoredBook) → has_begun epoch book ≡ false → begun (begun_with epoch book) ≡ begun book ++ epoch ∷ []
begun-begun_with epoch book new = rw new (map-append (λ (log : EpochLog). log.epoch) book.logs (record { epoch = epoch; tags = [] } ∷ []))

pub begun-added : (epoch : ℕ) (tags : List (List ℕ)) (book : StoredBook) → begun (added epoch tags book) ≡ begun book
begun-added epoch tags book = with_tag book.logs
  where
    with_tag : (logs : List EpochLog) → epochs_of (map (log_with epoch tags) logs) ≡ epochs_of logs
    with_tag [] = refl
    with_tag (log ∷ logs) = ap (λ (rest : List ℕ). log.epoch ∷ rest) (with_tag logs)

-- an epoch that isn't below the new floor is begun as before
begun_kept : (floor epoch : ℕ) (epochs : List ℕ) → floor ≤ epoch → list_any (λ other. other == epoch) (filter (λ e. nat_le floor e) epochs) ≡ list_any (λ other. other == epoch) epochs
begun_kept floor epoch [] low = refl
begun_kept floor epoch (first ∷ epochs) low =
    elim (cases_lt first floor) [
      | inl below ↦ rw (lt-leb floor first below, ne_eqb first epoch (λ same. omega (arith, same, below, low))) (begun_kept floor epoch epochs low)
      | inr above ↦ rw (le-leb floor first above) (ap (λ (later : Bool). first == epoch || later) (begun_kept floor epoch epochs low))
    ]

pub has_begun-raised : (floor epoch : ℕ) (book : StoredBook) → floor ≤ epoch → has_begun epoch (raised floor book) ≡ has_begun epoch book
has_begun-raised floor epoch book low =
    elim (cases_lt book.floor floor) [
      | inl above ↦ ap (λ (epochs : List ℕ). list_any (λ other. other == epoch) epochs) (begun-raised floor book above) ∙ begun_kept floor epoch (begun book) low
      | inr below ↦ rw (le-leb floor book.floor below) refl
    ]
