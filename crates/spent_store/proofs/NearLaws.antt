-- At most two epochs have begun and aren't below the floor: the floor itself and the one above it.
use Rattle.std.proofs.Common.{◌≡◌, ℕ, ◌+◌, ◌*◌, ◌<◌, ◌==◌, ◌||◌, nat_le, Bool, true, false, if◌then◌else◌, Option, Some, None, List, [], ◌∷◌, ◌++◌, length, filter, inl, inr, refl, sym, subst, append-nil, append_assoc, arith}
use Rattle.std.specs.List.{list_any}
use Rattle.std.specs.Option.{option_map}
use Rattle.std.proofs.lemmas.Bool.{cases_lt, le-leb, lt-leb, eqb-false}
use Rattle.spent_store.specs.Books.{amiss}
use Rattle.spent_store.specs.Root.{IsNear, AreNear, floor_of, floor_after, begun_of, begun_after, is_amiss_at, is_amiss, first_amiss}
use Rattle.spent_store.specs.declared.faults.Objection.TheVariants.{Foreign}
use Rattle.spent_store.specs.declared.root.RootRecord.{RootRecord}
use Rattle.spent_store.specs.declared.root.RootRecord.TheVariants.{Made, Begin, Floor, Other}
use Rattle.spent_store.proofs.StandingLaws.{floor_more, begun_more, begins_near, rises}

first_false : (a b : Bool) → (a || b) ≡ false → a ≡ false
first_false true b neither = absurd (cc)
first_false false b neither = refl

-- an epoch that may begin hasn't begun
begins_new : (first : Bool) (floor : ℕ) (begun : List ℕ) (epoch : ℕ) → is_amiss_at first floor begun (Begin epoch) ≡ false → list_any (λ other. other == epoch) begun ≡ false
begins_new true floor begun epoch right = absurd (cc)
begins_new false floor begun epoch right = first_false (list_any (λ other. other == epoch) begun) _ right

second_false : (a b : Bool) → (a || b) ≡ false → b ≡ false
second_false true b neither = absurd (cc)
second_false false b neither = neither

-- there is no third epoch so near
only_two : (floor a b c : ℕ) → IsNear floor a → IsNear floor b → IsNear floor c → (a ≡ b → ⊥) → (a ≡ c → ⊥) → (b ≡ c → ⊥) → ⊥
only_two floor a b c near_a near_b near_c ab ac bc =
    elim (cases_lt floor a) [
      | inl a_above ↦
          elim (cases_lt floor b) [
            | inl b_above ↦ ab (omega (arith, near_a.1, near_b.1))
            | inr b_at ↦
                elim (cases_lt floor c) [
                  | inl c_above ↦ ac (omega (arith, near_a.1, near_c.1))
                  | inr c_at ↦ bc (omega (arith, near_b.0, near_c.0))
                ]
          ]
      | inr a_at ↦
          elim (cases_lt floor b) [
            | inl b_above ↦
                elim (cases_lt floor c) [
                  | inl c_above ↦ bc (omega (arith, near_b.1, near_c.1))
                  | inr c_at ↦ ac (omega (arith, near_a.0, near_c.0))
                ]
            | inr b_at ↦ ab (omega (arith, near_a.0, near_b.0))
          ]
    ]

-- one epoch more
pub near_begun : (floor : ℕ) (begun : List ℕ) (epoch : ℕ) → AreNear floor begun → list_any (λ other. other == epoch) begun ≡ false → IsNear floor epoch → AreNear floor (begun ++ epoch ∷ [])
near_begun floor [] epoch near new at = at
near_begun floor (a ∷ []) epoch near new at = (near, at, eqb-false a epoch (first_false (a == epoch) _ new))
near_begun floor (a ∷ b ∷ []) epoch near new at =
    let not_a = eqb-false a epoch (first_false (a == epoch) _ new) in
    let not_b = eqb-false b epoch (first_false (b == epoch) _ (second_false (a == epoch) _ new)) in
    absurd (only_two floor a b epoch near.0 near.1 at near.2 not_a not_b)
near_begun floor (a ∷ b ∷ c ∷ others) epoch near new at = absurd near

-- what a new floor leaves
kept_one : (old floor a : ℕ) → IsNear old a → old < floor → AreNear floor (filter (λ e. nat_le floor e) (a ∷ []))
kept_one old floor a near rising =
    elim (cases_lt a floor) [
      | inl below ↦ rw (lt-leb floor a below) tt
      | inr above ↦ rw (le-leb floor a above) (above, omega (arith, near.1))
    ]

kept_two : (old floor a b : ℕ) → IsNear old a → IsNear old b → (a ≡ b → ⊥) → old < floor → AreNear floor (filter (λ e. nat_le floor e) (a ∷ b ∷ []))
kept_two old floor a b near_a near_b differ rising =
    elim (cases_lt a floor) [
      | inl below ↦ rw (lt-leb floor a below) (kept_one old floor b near_b rising)
      | inr above ↦
          elim (cases_lt b floor) [
            | inl other_below ↦ rw (le-leb floor a above, lt-leb floor b other_below) (above, omega (arith, near_a.1))
            | inr other_above ↦ absurd (differ (omega (arith, near_a.1, near_b.1)))
          ]
    ]

pub near_kept : (old floor : ℕ) (begun : List ℕ) → AreNear old begun → old < floor → AreNear floor (filter (λ e. nat_le floor e) begun)
near_kept old floor [] near rising = tt
near_kept old floor (a ∷ []) near rising = kept_one old floor a near rising
near_kept old floor (a ∷ b ∷ []) near rising = kept_two old floor a b near.0 near.1 near.2 rising
near_kept old floor (a ∷ b ∷ c ∷ others) near rising = absurd near

-- after one record more
near_after : (first : Bool) (floor : ℕ) (begun : List ℕ) (root : RootRecord) → AreNear floor begun → is_amiss_at first floor begun root ≡ false
    → AreNear (floor_after floor root) (begun_after begun root)
near_after first floor begun (Made value) near right = near
near_after first floor begun (Begin epoch) near right = near_begun floor begun epoch near (begins_new first floor begun epoch right) (begins_near first floor begun epoch right)
near_after first floor begun (Floor higher) near right = near_kept floor higher begun near (rises first floor begun higher right)
near_after first floor begun (Other kind value) near right = near

near_more : (front : List RootRecord) (root : RootRecord) → AreNear (floor_of front) (begun_of front) → is_amiss front root ≡ false
    → AreNear (floor_of (front ++ root ∷ [])) (begun_of (front ++ root ∷ []))
near_more front root near right =
    let after = near_after (length front == 0) (floor_of front) (begun_of front) root near right in
    subst (λ (begun : List ℕ). AreNear (floor_of (front ++ root ∷ [])) begun) (sym (begun_more (length front == 0) front root right))
    (subst (λ (floor : ℕ). AreNear floor (begun_after (begun_of front) root)) (sym (floor_more front root)) after)

pub none_found : (test : Bool) (found : ℕ) (later : Option ℕ) → (if test then Some found else later) ≡ None → (test ≡ false) × (later ≡ None)
none_found true found later none = absurd (cc)
none_found false found later none = (refl, none)

near_all : (front rest : List RootRecord) → AreNear (floor_of front) (begun_of front) → first_amiss front rest ≡ None → AreNear (floor_of (front ++ rest)) (begun_of (front ++ rest))
near_all front [] near none = subst (λ (roots : List RootRecord). AreNear (floor_of roots) (begun_of roots)) (sym (append-nil front)) near
near_all front (root ∷ rest) near none =
    let parts = none_found (is_amiss front root) (length front) (first_amiss (front ++ root ∷ []) rest) none in
    let later = near_all (front ++ root ∷ []) rest (near_more front root near parts.0) parts.1 in
    subst (λ (roots : List RootRecord). AreNear (floor_of roots) (begun_of roots)) (append_assoc front (root ∷ []) rest) later

pub none_mapped : (place : Option ℕ) → option_map (λ before. Foreign 0 (before * 10 + 1)) place ≡ None → place ≡ None
none_mapped None none = refl
none_mapped (Some before) none = absurd (cc)

-- of a root in order
pub begun_near : (roots : List RootRecord) → amiss roots ≡ None → AreNear (floor_of roots) (begun_of roots)
begun_near roots none = near_all [] roots tt (none_mapped (first_amiss [] roots) none)
