-- What the records of a root say after one record more.
use Rattle.std.proofs.Common.{◌≡◌, ℕ, ◌+◌, ◌<◌, ◌≤◌, ◌==◌, ◌||◌, ◌⊎◌, not, nat_le, Bool, true, false, cond, List, [], ◌∷◌, ◌++◌, length, filter, fold, inl, inr, refl, ap, ◌∙◌, sym, subst, append-nil, arith}
use Rattle.std.specs.List.{filter_map, list_any}
use Rattle.std.proofs.lemmas.Bool.{cases_lt, le-leb, lt-leb, leb-false, eqb-true}
use Rattle.std.proofs.lemmas.List.Elements.{filter_map-append, filter-append}
use Rattle.spent_store.specs.Root.{IsNear, floor_of, floor_after, begun_of, begun_by, begun_after, is_amiss_at, is_amiss, first_amiss}
use Rattle.spent_store.specs.declared.root.RootRecord.{RootRecord}
use Rattle.spent_store.specs.declared.root.RootRecord.TheVariants.{Made, Begin, Floor, Other}

fold_more : {A B : Type 0} (f : B → A → B) (a : B) (xs : List A) (x : A) → fold f a (xs ++ x ∷ []) ≡ f (fold f a xs) x
fold_more f a [] x = refl
fold_more f a (y ∷ ys) x = fold_more f (f a y) ys x

-- the floor after one record more
pub floor_more : (before : List RootRecord) (root : RootRecord) → floor_of (before ++ root ∷ []) ≡ floor_after (floor_of before) root
floor_more before root = fold_more floor_after 0 before root

-- ---- what isn't amiss

second_false : (a b : Bool) → (a || b) ≡ false → b ≡ false
second_false true b neither = absurd (cc)
second_false false b neither = neither

was_true : (b : Bool) → not b ≡ false → b ≡ true
was_true true isnt = refl
was_true false isnt = absurd (cc)

one_true : (a b : Bool) → (a || b) ≡ true → (a ≡ true) ⊎ (b ≡ true)
one_true true b either = inl refl
one_true false b either = inr either

-- an epoch that may begin is the floor or the one above it
pub begins_near : (first : Bool) (floor : ℕ) (begun : List ℕ) (epoch : ℕ) → is_amiss_at first floor begun (Begin epoch) ≡ false → IsNear floor epoch
begins_near true floor begun epoch right = absurd (cc)
begins_near false floor begun epoch right =
    let near = was_true (epoch == floor || epoch == floor + 1) (second_false (list_any (λ other. other == epoch) begun) _ right) in
    elim (one_true (epoch == floor) (epoch == floor + 1) near) [
      | inl same ↦ let is = eqb-true epoch floor same in (omega (arith, is), omega (arith, is))
      | inr next ↦ let is = eqb-true epoch (floor + 1) next in (omega (arith, is), omega (arith, is))
    ]

-- a floor that may be set is above the floor before it
pub rises : (first : Bool) (floor : ℕ) (begun : List ℕ) (epoch : ℕ) → is_amiss_at first floor begun (Floor epoch) ≡ false → floor < epoch
rises true floor begun epoch right = absurd (cc)
rises false floor begun epoch right = leb-false epoch floor right

-- ---- the begun epochs after one record more

-- what is above a floor is above every lower one
filter_above_one : (low high epoch : ℕ) (others : List ℕ) → low ≤ high
    → filter (λ e. nat_le high e) (cond (nat_le low epoch) (epoch ∷ others) others) ≡ cond (nat_le high epoch) (epoch ∷ filter (λ e. nat_le high e) others) (filter (λ e. nat_le high e) others)
filter_above_one low high epoch others rising =
    elim (cases_lt epoch low) [
      | inl below ↦ rw (lt-leb low epoch below, lt-leb high epoch (omega arith)) refl
      | inr above ↦ rw (le-leb low epoch above) refl
    ]

filter_above : (low high : ℕ) (epochs : List ℕ) → low ≤ high → filter (λ e. nat_le high e) (filter (λ e. nat_le low e) epochs) ≡ filter (λ e. nat_le high e) epochs
filter_above low high [] rising = refl
filter_above low high (epoch ∷ epochs) rising =
    filter_above_one low high epoch (filter (λ e. nat_le low e) epochs) rising
    ∙ ap (λ (rest : List ℕ). cond (nat_le high epoch) (epoch ∷ rest) rest) (filter_above low high epochs rising)

-- the epochs at or above a floor, of those begun by the records and one more
begun_with : (floor : ℕ) (before : List RootRecord) (root : RootRecord)
    → filter (λ e. nat_le floor e) (filter_map begun_by (before ++ root ∷ [])) ≡ filter (λ e. nat_le floor e) (filter_map begun_by before) ++ filter (λ e. nat_le floor e) (filter_map begun_by (root ∷ []))
begun_with floor before root = rw (filter_map-append begun_by before (root ∷ [])) (filter-append (λ e. nat_le floor e) (filter_map begun_by before) (filter_map begun_by (root ∷ [])))

pub begun_more : (first : Bool) (before : List RootRecord) (root : RootRecord) → is_amiss_at first (floor_of before) (begun_of before) root ≡ false
    → begun_of (before ++ root ∷ []) ≡ begun_after (begun_of before) root
begun_more first before (Made value) right = rw (floor_more before (Made value)) (begun_with (floor_of before) before (Made value) ∙ append-nil (begun_of before))
begun_more first before (Begin epoch) right =
    let above : nat_le (floor_of before) epoch ≡ true = le-leb (floor_of before) epoch (begins_near first (floor_of before) (begun_of before) epoch right).0 in
    rw (floor_more before (Begin epoch)) (begun_with (floor_of before) before (Begin epoch) ∙ (rw above refl))
begun_more first before (Floor floor) right =
    rw (floor_more before (Floor floor))
    (begun_with floor before (Floor floor) ∙ append-nil (filter (λ e. nat_le floor e) (filter_map begun_by before))
    ∙ sym (filter_above (floor_of before) floor (filter_map begun_by before) (omega (arith, rises first (floor_of before) (begun_of before) floor right))))
begun_more first before (Other kind value) right = rw (floor_more before (Other kind value)) (begun_with (floor_of before) before (Other kind value) ∙ append-nil (begun_of before))

-- ---- one record more was read, and it isn't amiss

right_there : (front : List RootRecord) (root : RootRecord) (floor : ℕ) (begun : List ℕ) → floor ≡ floor_of front → begun ≡ begun_of front
    → is_amiss_at (length front == 0) floor begun root ≡ false → is_amiss front root ≡ false
right_there front root floor begun same_floor same_begun right =
    subst (λ (f : ℕ). is_amiss_at (length front == 0) f (begun_of front) root ≡ false) same_floor
    (subst (λ (b : List ℕ). is_amiss_at (length front == 0) floor b root ≡ false) same_begun right)

pub floor_read : (front : List RootRecord) (root : RootRecord) (floor after : ℕ) → floor ≡ floor_of front → after ≡ floor_after floor root
    → after ≡ floor_of (front ++ root ∷ [])
floor_read front root floor after same_floor is = is ∙ ap (λ (f : ℕ). floor_after f root) same_floor ∙ sym (floor_more front root)

pub begun_read : (front : List RootRecord) (root : RootRecord) (floor : ℕ) (begun after : List ℕ) → floor ≡ floor_of front → begun ≡ begun_of front
    → is_amiss_at (length front == 0) floor begun root ≡ false → after ≡ begun_after begun root → after ≡ begun_of (front ++ root ∷ [])
begun_read front root floor begun after same_floor same_begun right is =
    is ∙ ap (λ (b : List ℕ). begun_after b root) same_begun
    ∙ sym (begun_more (length front == 0) front root (right_there front root floor begun same_floor same_begun right))

pub none_amiss_read : (front : List RootRecord) (root : RootRecord) (behind : List RootRecord) (floor : ℕ) (begun : List ℕ) → floor ≡ floor_of front → begun ≡ begun_of front
    → is_amiss_at (length front == 0) floor begun root ≡ false → first_amiss front (root ∷ behind) ≡ first_amiss (front ++ root ∷ []) behind
none_amiss_read front root behind floor begun same_floor same_begun right =
    let test : is_amiss front root ≡ false = right_there front root floor begun same_floor same_begun right in
    rw test refl
