-- What a change does to the pairs that a store will never accept again: they stay so, a claim adds its own, and no
-- others come.
use Rattle.std.specs.Prelude.{◌≡◌, ℕ, ◌≤◌, ◌==◌, ◌⊎◌, nat_le, true, List, [], ◌∷◌, ◌++◌, map, filter, Contains, Ok}
use Rattle.std.specs.List.{list_any, flat_map}
use Rattle.std.proofs.Common.{refl, sym, subst, ◌∙◌, inl, inr, arith, append-nil}
use Rattle.std.proofs.lemmas.Bool.{cases_lt, cases_eq, cases_Bool, eq-eqb, ne_eqb, lt-leb, le-leb}
use Rattle.std.proofs.lemmas.List.{map-append}
use Rattle.std.proofs.lemmas.List.Elements.{All-contains, All-map, All-from_recursion, Contains-append_left, Contains-append_right, Contains-append_cases}
use Rattle.std.proofs.lemmas.Grind.{flat_map-append}
use Rattle.spent_store.specs.Books.{EpochLog, StoredBook, has_begun, pairs, IsCovered}
use Rattle.spent_store.specs.Changes.{raised, begun_with, log_with, added, claimed, claim_stages, retirement_stages}
use Rattle.spent_store.proofs.ClaimLaws.{begins}
use Rattle.mix_base.proofs.Members.{Contains-map}

-- the pairs of one log
abbrev pairs_of : EpochLog → List (ℕ × List ℕ)
pairs_of log = map (λ tag. (log.epoch, tag)) log.tags

pair_epoch : (log : EpochLog) (pair : ℕ × List ℕ) → Contains (pairs_of log) pair → pair.0 ≡ log.epoch
pair_epoch log pair there =
    All-contains (λ (other : ℕ × List ℕ). other.0 ≡ log.epoch) (pairs_of log) pair (All-map (λ (other : ℕ × List ℕ). other.0 ≡ log.epoch) (λ tag. (log.epoch, tag)) log.tags (λ k d within. refl)) there

-- ---- a floor that rises drops the pairs below it alone

kept_pairs : (floor : ℕ) (pair : ℕ × List ℕ) (logs : List EpochLog) → floor ≤ pair.0 → Contains (flat_map pairs_of logs) pair → Contains (flat_map pairs_of (filter (λ log. nat_le floor log.epoch) logs)) pair
kept_pairs floor pair [] low there = there
kept_pairs floor pair (log ∷ logs) low there =
    elim (Contains-append_cases (pairs_of log) (flat_map pairs_of logs) pair there) [
      | inl here ↦
          let kept : nat_le floor log.epoch ≡ true = le-leb floor log.epoch (omega (arith, low, pair_epoch log pair here)) in
          rw kept (Contains-append_left (pairs_of log) (flat_map pairs_of (filter (λ (other : EpochLog). nat_le floor other.epoch) logs)) pair here)
      | inr later ↦
          elim (cases_Bool (nat_le floor log.epoch)) [
            | inl kept ↦ rw kept (Contains-append_right (pairs_of log) (flat_map pairs_of (filter (λ (other : EpochLog). nat_le floor other.epoch) logs)) pair (kept_pairs floor pair logs low later))
            | inr dropped ↦ rw dropped (kept_pairs floor pair logs low later)
          ]
    ]

no_more_kept : (floor : ℕ) (pair : ℕ × List ℕ) (logs : List EpochLog) → Contains (flat_map pairs_of (filter (λ log. nat_le floor log.epoch) logs)) pair → Contains (flat_map pairs_of logs) pair
no_more_kept floor pair [] there = there
no_more_kept floor pair (log ∷ logs) there =
    elim (cases_Bool (nat_le floor log.epoch)) [
      | inl kept ↦
          elim (Contains-append_cases (pairs_of log) (flat_map pairs_of (filter (λ (other : EpochLog). nat_le floor other.epoch) logs)) pair (rw kept at there)) [
            | inl here ↦ Contains-append_left (pairs_of log) (flat_map pairs_of logs) pair here
            | inr later ↦ Contains-append_right (pairs_of log) (flat_map pairs_of logs) pair (no_more_kept floor pair logs later)
          ]
      | inr dropped ↦ Contains-append_right (pairs_of log) (flat_map pairs_of logs) pair (no_more_kept floor pair logs (rw dropped at there))
    ]

pub raised-covered : (floor : ℕ) (book : StoredBook) (epoch : ℕ) (tag : List ℕ) → IsCovered (Ok book) epoch tag → IsCovered (Ok (raised floor book)) epoch tag
raised-covered floor book epoch tag covered =
    elim (cases_lt book.floor floor) [
      | inl above ↦
          rw (lt-leb floor book.floor above) (
          elim (cases_lt epoch floor) [
            | inl below ↦ inl below
            | inr low ↦
                elim covered [
                  | inl retired ↦ absurd (omega (arith, retired, low, above))
                  | inr spent ↦ inr (kept_pairs floor (epoch, tag) book.logs low spent)
                ]
          ])
      | inr below ↦ rw (le-leb floor book.floor below) covered
    ]

pub raised-pairs : (floor : ℕ) (book : StoredBook) (pair : ℕ × List ℕ) → Contains (pairs (raised floor book)) pair → Contains (pairs book) pair
raised-pairs floor book pair there =
    elim (cases_lt book.floor floor) [
      | inl above ↦ no_more_kept floor pair book.logs (rw (lt-leb floor book.floor above) at there)
      | inr below ↦ rw (le-leb floor book.floor below) at there
    ]

-- ---- an epoch that begins changes no pair and no floor

pub begun_with-pairs : (epoch : ℕ) (book : StoredBook) → pairs (begun_with epoch book) ≡ pairs book
begun_with-pairs epoch book =
    elim (cases_Bool (has_begun epoch book)) [
      | inl there ↦ rw there refl
      | inr new ↦ rw new (flat_map-append pairs_of book.logs (record { epoch = epoch; tags = [] } ∷ []) ∙ append-nil (pairs book))
    ]

pub begun_with-floor : (epoch : ℕ) (book : StoredBook) → (begun_with epoch book).floor ≡ book.floor
begun_with-floor epoch book =
    elim (cases_Bool (has_begun epoch book)) [
      | inl there ↦ rw there refl
      | inr new ↦ rw new refl
    ]

-- ---- tags that are spent add their pairs alone

-- these tags in an epoch
abbrev pub of_epoch : ℕ → List (List ℕ) → List (ℕ × List ℕ)
of_epoch epoch tags = map (λ tag. (epoch, tag)) tags

-- a log of the epoch has the new pairs behind its own, and others stay
pairs_here : (epoch : ℕ) (tags : List (List ℕ)) (log : EpochLog) → log.epoch ≡ epoch → pairs_of (log_with epoch tags log) ≡ pairs_of log ++ of_epoch epoch tags
pairs_here epoch tags log here = rw (eq-eqb log.epoch epoch here) (map-append (λ other. (log.epoch, other)) log.tags tags ∙ (λ i. pairs_of log ++ of_epoch (here i) tags))

pairs_elsewhere : (epoch : ℕ) (tags : List (List ℕ)) (log : EpochLog) → (log.epoch ≡ epoch → ⊥) → pairs_of (log_with epoch tags log) ≡ pairs_of log
pairs_elsewhere epoch tags log elsewhere = rw (ne_eqb log.epoch epoch elsewhere) refl

log_pairs : (epoch : ℕ) (tags : List (List ℕ)) (log : EpochLog) → (pairs_of (log_with epoch tags log) ≡ pairs_of log) ⊎ (pairs_of (log_with epoch tags log) ≡ pairs_of log ++ of_epoch epoch tags)
log_pairs epoch tags log =
    elim (cases_eq log.epoch epoch) [
      | inl here ↦ inr (pairs_here epoch tags log here)
      | inr elsewhere ↦ inl (pairs_elsewhere epoch tags log elsewhere)
    ]

added_keeps : (epoch : ℕ) (tags : List (List ℕ)) (pair : ℕ × List ℕ) (logs : List EpochLog) → Contains (flat_map pairs_of logs) pair → Contains (flat_map pairs_of (map (log_with epoch tags) logs)) pair
added_keeps epoch tags pair [] there = there
added_keeps epoch tags pair (log ∷ logs) there =
    let front = pairs_of (log_with epoch tags log) in
    let rest = flat_map pairs_of (map (log_with epoch tags) logs) in
    elim (Contains-append_cases (pairs_of log) (flat_map pairs_of logs) pair there) [
      | inl here ↦
          let in_front : Contains front pair
          = elim (log_pairs epoch tags log) [
            | inl same ↦ subst (λ (found : List (ℕ × List ℕ)). Contains found pair) (sym same) here
            | inr more ↦ subst (λ (found : List (ℕ × List ℕ)). Contains found pair) (sym more) (Contains-append_left (pairs_of log) (of_epoch epoch tags) pair here)
          ] in
          Contains-append_left front rest pair in_front
      | inr later ↦ Contains-append_right front rest pair (added_keeps epoch tags pair logs later)
    ]

added_there : (epoch : ℕ) (tags : List (List ℕ)) (tag : List ℕ) (logs : List EpochLog) → list_any (λ other. other == epoch) (map (λ (log : EpochLog). log.epoch) logs) ≡ true → Contains tags tag
    → Contains (flat_map pairs_of (map (log_with epoch tags) logs)) (epoch, tag)
added_there epoch tags tag [] there among = absurd (cc)
added_there epoch tags tag (log ∷ logs) there among =
    let rest = flat_map pairs_of (map (log_with epoch tags) logs) in
    elim (cases_eq log.epoch epoch) [
      | inl here ↦
          Contains-append_left (pairs_of (log_with epoch tags log)) rest (epoch, tag)
          (subst (λ (found : List (ℕ × List ℕ)). Contains found (epoch, tag)) (sym (pairs_here epoch tags log here))
          (Contains-append_right (pairs_of log) (of_epoch epoch tags) (epoch, tag) (Contains-map (λ (t : List ℕ). (epoch, t)) tags tag among)))
      | inr elsewhere ↦ Contains-append_right (pairs_of (log_with epoch tags log)) rest (epoch, tag) (added_there epoch tags tag logs (rw (ne_eqb log.epoch epoch elsewhere) at there) among)
    ]

added_only : (epoch : ℕ) (tags : List (List ℕ)) (pair : ℕ × List ℕ) (logs : List EpochLog) → Contains (flat_map pairs_of (map (log_with epoch tags) logs)) pair
    → Contains (flat_map pairs_of logs) pair ⊎ Contains (of_epoch epoch tags) pair
added_only epoch tags pair [] there = inl there
added_only epoch tags pair (log ∷ logs) there =
    let front = pairs_of (log_with epoch tags log) in
    let rest = flat_map pairs_of (map (log_with epoch tags) logs) in
    elim (Contains-append_cases front rest pair there) [
      | inl here ↦
          elim (log_pairs epoch tags log) [
            | inl same ↦ inl (Contains-append_left (pairs_of log) (flat_map pairs_of logs) pair (subst (λ (found : List (ℕ × List ℕ)). Contains found pair) same here))
            | inr more ↦
                elim (Contains-append_cases (pairs_of log) (of_epoch epoch tags) pair (subst (λ (found : List (ℕ × List ℕ)). Contains found pair) more here)) [
                  | inl before ↦ inl (Contains-append_left (pairs_of log) (flat_map pairs_of logs) pair before)
                  | inr new ↦ inr new
                ]
          ]
      | inr later ↦
          elim (added_only epoch tags pair logs later) [
            | inl before ↦ inl (Contains-append_right (pairs_of log) (flat_map pairs_of logs) pair before)
            | inr new ↦ inr new
          ]
    ]

pub added-covered : (new_epoch : ℕ) (new_tags : List (List ℕ)) (book : StoredBook) (epoch : ℕ) (tag : List ℕ) → IsCovered (Ok book) epoch tag → IsCovered (Ok (added new_epoch new_tags book)) epoch tag
added-covered new_epoch new_tags book epoch tag covered =
    elim covered [
      | inl retired ↦ inl retired
      | inr spent ↦ inr (added_keeps new_epoch new_tags (epoch, tag) book.logs spent)
    ]

pub added-spent : (epoch : ℕ) (tags : List (List ℕ)) (tag : List ℕ) (book : StoredBook) → has_begun epoch book ≡ true → Contains tags tag → Contains (pairs (added epoch tags book)) (epoch, tag)
added-spent epoch tags tag book there among = added_there epoch tags tag book.logs there among

pub added-only : (epoch : ℕ) (tags : List (List ℕ)) (book : StoredBook) (pair : ℕ × List ℕ) → Contains (pairs (added epoch tags book)) pair → Contains (pairs book) pair ⊎ Contains (of_epoch epoch tags) pair
added-only epoch tags book pair there = added_only epoch tags pair book.logs there

-- ---- a claim

-- what was covered stays covered
pub begun_with-covered : (new_epoch : ℕ) (book : StoredBook) (epoch : ℕ) (tag : List ℕ) → IsCovered (Ok book) epoch tag → IsCovered (Ok (begun_with new_epoch book)) epoch tag
begun_with-covered new_epoch book epoch tag covered =
    elim covered [
      | inl retired ↦ inl (omega (arith, retired, begun_with-floor new_epoch book))
      | inr spent ↦ inr (subst (λ (found : List (ℕ × List ℕ)). Contains found (epoch, tag)) (sym (begun_with-pairs new_epoch book)) spent)
    ]

-- each claimed pair is spent
pub claimed-spent : (epoch : ℕ) (tags : List (List ℕ)) (tag : List ℕ) (least : ℕ) (book : StoredBook) → Contains tags tag → Contains (pairs (claimed epoch tags least book)) (epoch, tag)
claimed-spent epoch tags tag least book among = added-spent epoch tags tag (begun_with epoch (raised least book)) (begins epoch (raised least book)) among

-- and no other pair comes
pub claimed-only : (epoch : ℕ) (tags : List (List ℕ)) (least : ℕ) (book : StoredBook) (pair : ℕ × List ℕ) → Contains (pairs (claimed epoch tags least book)) pair
    → Contains (pairs book) pair ⊎ Contains (of_epoch epoch tags) pair
claimed-only epoch tags least book pair there =
    elim (added-only epoch tags (begun_with epoch (raised least book)) pair there) [
      | inl before ↦ inl (raised-pairs least book pair (subst (λ (found : List (ℕ × List ℕ)). Contains found pair) (begun_with-pairs epoch (raised least book)) before))
      | inr new ↦ inr new
    ]

-- ---- the stages of a change

-- what holds of the four stages of a claim holds of each book of the list, and so of the two of a retirement
each_stage : (P : StoredBook → Type 0) (epoch : ℕ) (tags : List (List ℕ)) (least : ℕ) (book stage : StoredBook) → P book → P (raised least book) → P (begun_with epoch (raised least book)) → P (claimed epoch tags least book)
    → Contains (claim_stages epoch tags least book) stage → P stage
each_stage P epoch tags least book stage first second third last there =
    All-contains P (claim_stages epoch tags least book) stage (All-from_recursion P (claim_stages epoch tags least book) (first, (second, (third, (last, tt))))) there

both_stages : (P : StoredBook → Type 0) (floor : ℕ) (book stage : StoredBook) → P book → P (raised floor book) → Contains (retirement_stages floor book) stage → P stage
both_stages P floor book stage first last there = All-contains P (retirement_stages floor book) stage (All-from_recursion P (retirement_stages floor book) (first, (last, tt))) there

-- at each stage of a claim, what was covered is covered
pub claim_stages-covered : (new_epoch : ℕ) (new_tags : List (List ℕ)) (least : ℕ) (book stage : StoredBook) (epoch : ℕ) (tag : List ℕ) → Contains (claim_stages new_epoch new_tags least book) stage
    → IsCovered (Ok book) epoch tag → IsCovered (Ok stage) epoch tag
claim_stages-covered new_epoch new_tags least book stage epoch tag there covered =
    let second = raised-covered least book epoch tag covered in
    let third = begun_with-covered new_epoch (raised least book) epoch tag second in
    each_stage (λ (b : StoredBook). IsCovered (Ok b) epoch tag) new_epoch new_tags least book stage covered second third (added-covered new_epoch new_tags (begun_with new_epoch (raised least book)) epoch tag third) there

-- there is no pair that wasn't there and isn't claimed
pub claim_stages-only : (epoch : ℕ) (tags : List (List ℕ)) (least : ℕ) (book stage : StoredBook) (pair : ℕ × List ℕ) → Contains (claim_stages epoch tags least book) stage → Contains (pairs stage) pair
    → Contains (pairs book) pair ⊎ Contains (of_epoch epoch tags) pair
claim_stages-only epoch tags least book stage pair there spent =
    each_stage (λ (b : StoredBook). Contains (pairs b) pair → Contains (pairs book) pair ⊎ Contains (of_epoch epoch tags) pair) epoch tags least book stage
    (λ here. inl here)
    (λ here. inl (raised-pairs least book pair here))
    (λ here. inl (raised-pairs least book pair (subst (λ (found : List (ℕ × List ℕ)). Contains found pair) (begun_with-pairs epoch (raised least book)) here)))
    (claimed-only epoch tags least book pair) there spent

-- the same of a retirement
pub retirement_stages-covered : (floor : ℕ) (book stage : StoredBook) (epoch : ℕ) (tag : List ℕ) → Contains (retirement_stages floor book) stage → IsCovered (Ok book) epoch tag → IsCovered (Ok stage) epoch tag
retirement_stages-covered floor book stage epoch tag there covered =
    both_stages (λ (b : StoredBook). IsCovered (Ok b) epoch tag) floor book stage covered (raised-covered floor book epoch tag covered) there

pub retirement_stages-only : (floor : ℕ) (book stage : StoredBook) (pair : ℕ × List ℕ) → Contains (retirement_stages floor book) stage → Contains (pairs stage) pair → Contains (pairs book) pair
retirement_stages-only floor book stage pair there spent =
    both_stages (λ (b : StoredBook). Contains (pairs b) pair → Contains (pairs book) pair) floor book stage (λ here. here) (raised-pairs floor book pair) there spent
