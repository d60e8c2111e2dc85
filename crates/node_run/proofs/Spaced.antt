-- A list of which each second item from some place on has one part, and no other has any.
use Rattle.std.proofs.Common.{◌≡◌, ℕ, zero, suc, ◌+◌, ◌*◌, ◌<◌, List, [], ◌∷◌, ◌++◌, length, flat_map, Some, refl, ap, ◌∙◌, arith}
use Rattle.std.specs.Prelude.{slice_get}
use Rattle.node_actors.proofs.Seating.{some_same}

-- the items at first, first + 2 .. have one part each, so many of them, and the others have none
pub record AreSpaced {A B : Type 0} (part : A → List B) (first many : ℕ) (xs : List A) : Type 0 where
  pub there : (k : ℕ) → k < many → first + 2 * k < length xs
  pub one : (k : ℕ) (x : A) → k < many → slice_get xs (first + 2 * k) ≡ Some x → (y : B) × (part x ≡ y ∷ [])
  pub none : (i : ℕ) (x : A) → slice_get xs i ≡ Some x → ((k : ℕ) → k < many → i ≡ first + 2 * k → ⊥) → part x ≡ []

module _ {A B : Type 0} (part : A → List B) where
  later : (first many : ℕ) (x : A) (xs : List A) → AreSpaced part (suc first) many (x ∷ xs) → AreSpaced part first many xs
  later first many x xs spaced = record {
    there = λ k low. omega (arith, spaced.there k low);
    one = λ k y low is. spaced.one k y low (ap (λ (i : ℕ). slice_get (x ∷ xs) i) (next k) ∙ is);
    none = λ i y is apart. spaced.none (suc i) y is (λ k low same. apart k low (omega (arith, same)));
  }
    where
      next : (k : ℕ) → suc first + 2 * k ≡ suc (first + 2 * k)
      next k = omega arith

  after_one : (many : ℕ) (x : A) (xs : List A) → AreSpaced part 0 (suc many) (x ∷ xs) → AreSpaced part 1 many xs
  after_one many x xs spaced = record {
    there = λ k low. omega (arith, spaced.there (suc k) (omega (arith, low)));
    one = λ k y low is. spaced.one (suc k) y (omega (arith, low)) (ap (λ (i : ℕ). slice_get (x ∷ xs) i) (next k) ∙ is);
    none = λ i y is apart. spaced.none (suc i) y is (λ k low same. differ i k low same apart);
  }
    where
      next : (k : ℕ) → 0 + 2 * suc k ≡ suc (1 + 2 * k)
      next k = omega arith

      differ : (i k : ℕ) → k < suc many → suc i ≡ 0 + 2 * k → ((k : ℕ) → k < many → i ≡ 1 + 2 * k → ⊥) → ⊥
      differ i zero low same apart = omega (arith, same)
      differ i (suc k) low same apart = apart k (omega (arith, low)) (omega (arith, same))

  none_left : (x : A) (xs : List A) → AreSpaced part 0 0 (x ∷ xs) → AreSpaced part 0 0 xs
  none_left x xs spaced = record {
    there = λ k low. absurd (omega (arith, low));
    one = λ k y low is. absurd (omega (arith, low));
    none = λ i y is apart. spaced.none (suc i) y is (λ k low same. omega (arith, low));
  }

  pub spaced_many : (first many : ℕ) (xs : List A) → AreSpaced part first many xs → length (flat_map part xs) ≡ many
  spaced_many first zero [] spaced = refl
  spaced_many first (suc many) [] spaced = absurd (omega (arith, spaced.there 0 (omega arith)))
  spaced_many (suc first) many (x ∷ xs) spaced =
      let none = spaced.none 0 x refl (λ k low same. omega (arith, same)) in
      ap (λ (ys : List B). length (ys ++ flat_map part xs)) none ∙ spaced_many first many xs (later first many x xs spaced)
  spaced_many zero zero (x ∷ xs) spaced =
      let none = spaced.none 0 x refl (λ k low same. omega (arith, low)) in
      ap (λ (ys : List B). length (ys ++ flat_map part xs)) none ∙ spaced_many 0 0 xs (none_left x xs spaced)
  spaced_many zero (suc many) (x ∷ xs) spaced =
      let one = spaced.one 0 x (omega arith) refl in
      ap (λ (ys : List B). length (ys ++ flat_map part xs)) one.1 ∙ omega (arith, spaced_many 1 many xs (after_one many x xs spaced))

  -- the part at a place of all parts
  pub spaced_at : (first many : ℕ) (xs : List A) → AreSpaced part first many xs → (k : ℕ) (x : A) (y : B) → k < many → slice_get xs (first + 2 * k) ≡ Some x
      → part x ≡ y ∷ [] → slice_get (flat_map part xs) k ≡ Some y
  spaced_at first many [] spaced k x y low is has = absurd (omega (arith, spaced.there k low))
  spaced_at (suc first) many (z ∷ xs) spaced k x y low is has =
      let none = spaced.none 0 z refl (λ k low same. omega (arith, same)) in
      ap (λ (ys : List B). slice_get (ys ++ flat_map part xs) k) none
      ∙ spaced_at first many xs (later first many z xs spaced) k x y low (ap (λ (i : ℕ). slice_get (z ∷ xs) i) next ∙ is) has
    where
      next : suc (first + 2 * k) ≡ suc first + 2 * k
      next = omega arith
  spaced_at zero zero (z ∷ xs) spaced k x y low is has = absurd (omega (arith, low))
  spaced_at zero (suc many) (z ∷ xs) spaced zero x y low is has =
      let same : z ≡ x = some_same z x is in
      ap (λ (ys : List B). slice_get (ys ++ flat_map part xs) 0) (ap part same ∙ has)
  spaced_at zero (suc many) (z ∷ xs) spaced (suc k) x y low is has =
      let one = spaced.one 0 z (omega arith) refl in
      ap (λ (ys : List B). slice_get (ys ++ flat_map part xs) (suc k)) one.1
      ∙ spaced_at 1 many xs (after_one many z xs spaced) k x y (omega (arith, low)) (ap (λ (i : ℕ). slice_get (z ∷ xs) i) next ∙ is) has
    where
      next : suc (1 + 2 * k) ≡ 0 + 2 * suc k
      next = omega arith
