-- Of the lists that have some words in another order, just one ascends: the sorted list.
use Rattle.std.proofs.Common.{◌≡◌, ℕ, suc, ◌+◌, ◌≤◌, ◌<◌, true, false, cond, List, [], ◌∷◌, length, get_or, inl, inr, refl, sym, ap, ◌∙◌, arith}
use Rattle.std.specs.Prelude.{nat_eq, nat_le, IsPermutation, IsSorted, sum_by, ⊤}
use Rattle.std.specs.Ordering.{nat_cmp}
use Rattle.std.specs.List.{AllByRecursion}
use Rattle.std.proofs.lemmas.Bool.{cases_Bool, cases_lt}
use Rattle.std.proofs.lemmas.Bool.Decides.{leb_tells}
use Rattle.std.proofs.lemmas.List.Sorted.{IsNonDecreasingBy-from_sort, sum_by-IsPermutation}
use Rattle.std.proofs.lemmas.List.Sums.{sum_by-cons}
use Rattle.ntru_prime.specs.Drawing.{placed, sorted}

-- a number is at most each of a list
abbrev AllFrom : ℕ → List ℕ → Type 0
AllFrom low xs = AllByRecursion (λ x. low ≤ x) xs

-- each is at most those after it
Ascends : List ℕ → Type 0
Ascends [] = ⊤
Ascends (x ∷ xs) = AllFrom x xs × Ascends xs

AllFrom-lower : (lower low : ℕ) (xs : List ℕ) → lower ≤ low → AllFrom low xs → AllFrom lower xs
AllFrom-lower lower low [] below all = tt
AllFrom-lower lower low (x ∷ xs) below all = (omega (arith, all.0), AllFrom-lower lower low xs below all.1)

-- ---- from a sort's clause

AllFrom-at : (low : ℕ) (xs : List ℕ) → ((k : ℕ) → k < length xs → low ≤ get_or xs k 0) → AllFrom low xs
AllFrom-at low [] each = tt
AllFrom-at low (x ∷ xs) each = (each 0 (omega arith), AllFrom-at low xs (λ k inside. each (suc k) (omega arith)))

Ascends-at : (xs : List ℕ) → ((i j : ℕ) → i ≤ j → j < length xs → get_or xs i 0 ≤ get_or xs j 0) → Ascends xs
unfolding Ascends
Ascends-at [] each = tt
Ascends-at (x ∷ xs) each =
    (AllFrom-at x xs (λ k inside. each 0 (suc k) (omega arith) (omega arith)), Ascends-at xs (λ i j order inside. each (suc i) (suc j) (omega arith) (omega arith)))

Ascends-from_sort : (xs : List ℕ) → IsSorted nat_cmp xs → Ascends xs
Ascends-from_sort xs sorted_by =
    let rising = IsNonDecreasingBy-from_sort (λ (x : ℕ). x) xs sorted_by in Ascends-at xs (λ i j order inside. rising i j 0 order inside)

-- ---- the sorted list ascends

-- what holds of each word still does when they are sorted
each_placed : (P : ℕ → Type 0) (word : ℕ) (xs : List ℕ) → P word → AllByRecursion P xs → AllByRecursion P (placed word xs)
each_placed P word [] here all = (here, tt)
each_placed P word (x ∷ xs) here all =
    elim (cases_Bool (nat_le word x)) [
      | inl first ↦ rw first (here, all)
      | inr later ↦ rw later (all.0, each_placed P word xs here all.1)
    ]

pub each_sorted : (P : ℕ → Type 0) (xs : List ℕ) → AllByRecursion P xs → AllByRecursion P (sorted xs)
unfolding sorted
each_sorted P [] all = tt
each_sorted P (x ∷ xs) all = each_placed P x (sorted xs) all.0 (each_sorted P xs all.1)

Ascends-placed : (word : ℕ) (xs : List ℕ) → Ascends xs → Ascends (placed word xs)
unfolding Ascends
Ascends-placed word [] ascends = (tt, tt)
Ascends-placed word (x ∷ xs) ascends =
    elim (leb_tells word x) [
      | inl first ↦ (let is : nat_le word x ≡ true = first.0 in rw is ((first.1, AllFrom-lower word x xs first.1 ascends.0), ascends))
      | inr later ↦ (let is : nat_le word x ≡ false = later.0 in rw is (each_placed (λ y. x ≤ y) word xs (omega (arith, later.1)) ascends.0, Ascends-placed word xs ascends.1))
    ]

Ascends-sorted : (xs : List ℕ) → Ascends (sorted xs)
unfolding sorted Ascends
Ascends-sorted [] = tt
Ascends-sorted (x ∷ xs) = Ascends-placed x (sorted xs) (Ascends-sorted xs)

-- ---- and has the same words

sum_by-placed : (f : ℕ → ℕ) (word : ℕ) (xs : List ℕ) → sum_by f (placed word xs) ≡ f word + sum_by f xs
sum_by-placed f word [] = sum_by-cons f word []
sum_by-placed f word (x ∷ xs) =
    elim (cases_Bool (nat_le word x)) [
      | inl first ↦ rw first (sum_by-cons f word (x ∷ xs))
      | inr later ↦ rw later (omega (arith, sum_by-cons f x (placed word xs), sum_by-cons f x xs, sum_by-placed f word xs))
    ]

pub sum_by-sorted : (f : ℕ → ℕ) (xs : List ℕ) → sum_by f (sorted xs) ≡ sum_by f xs
unfolding sorted
sum_by-sorted f [] = refl
sum_by-sorted f (x ∷ xs) = omega (arith, sum_by-placed f x (sorted xs), sum_by-cons f x xs, sum_by-sorted f xs)

length-placed : (word : ℕ) (xs : List ℕ) → length (placed word xs) ≡ suc (length xs)
length-placed word [] = refl
length-placed word (x ∷ xs) = elim (cases_Bool (nat_le word x)) [ inl first ↦ rw first refl | inr later ↦ rw later (ap suc (length-placed word xs)) ]

pub length-sorted : (xs : List ℕ) → length (sorted xs) ≡ length xs
unfolding sorted
length-sorted [] = refl
length-sorted (x ∷ xs) = length-placed x (sorted xs) ∙ ap suc (length-sorted xs)

-- ---- two lists that ascend with the same words are one

-- how often a word stands in a list
is : ℕ → ℕ → ℕ
is word x = cond (nat_eq word x) 1 0

is_itself : (word : ℕ) → is word word ≡ 1
unfolding is
is_itself word = grind arith

is_no_other : (word x : ℕ) → word < x → is word x ≡ 0
unfolding is
is_no_other word x below = grind arith

none_below : (word low : ℕ) (xs : List ℕ) → word < low → AllFrom low xs → sum_by (is word) xs ≡ 0
none_below word low [] below all = refl
none_below word low (x ∷ xs) below all = omega (arith, sum_by-cons (is word) x xs, is_no_other word x (omega (arith, all.0)), none_below word low xs below all.1)

-- a first word that is below the first of the other list stands there nowhere
first_apart : (x y : ℕ) (xs ys : List ℕ) → x < y → AllFrom y ys → sum_by (is x) (x ∷ xs) ≡ sum_by (is x) (y ∷ ys) → ⊥
first_apart x y xs ys below all same =
    omega (arith, sum_by-cons (is x) x xs, is_itself x, sum_by-cons (is x) y ys, is_no_other x y below, none_below x y ys below all)

same_first : (x y : ℕ) (xs ys : List ℕ) → AllFrom x xs → AllFrom y ys → ((word : ℕ) → sum_by (is word) (x ∷ xs) ≡ sum_by (is word) (y ∷ ys)) → x ≡ y
same_first x y xs ys left right same =
    elim (cases_lt x y) [
      | inl below ↦ absurd (first_apart x y xs ys below right (same x))
      | inr from ↦ elim (cases_lt y x) [
        | inl above ↦ absurd (first_apart y x ys xs above left (sym (same y)))
        | inr up_to ↦ omega arith
      ]
    ]

one_order : (xs ys : List ℕ) → Ascends xs → Ascends ys → ((word : ℕ) → sum_by (is word) xs ≡ sum_by (is word) ys) → xs ≡ ys
unfolding Ascends
one_order [] [] left right same = refl
one_order [] (y ∷ ys) left right same = absurd (omega (arith, same y, sum_by-cons (is y) y ys, is_itself y))
one_order (x ∷ xs) [] left right same = absurd (omega (arith, same x, sum_by-cons (is x) x xs, is_itself x))
one_order (x ∷ xs) (y ∷ ys) left right same =
    let first : x ≡ y = same_first x y xs ys left.0 right.0 same in
    let rest : xs ≡ ys = one_order xs ys left.1 right.1 (λ word. omega (arith, same word, sum_by-cons (is word) x xs, sum_by-cons (is word) y ys, ap (is word) first)) in
    cc

-- what a sort leaves is the sorted list
pub sorted_is : (xs ys : List ℕ) → IsPermutation xs ys → IsSorted nat_cmp ys → ys ≡ sorted xs
sorted_is xs ys permutation in_order =
    one_order ys (sorted xs) (Ascends-from_sort ys in_order) (Ascends-sorted xs)
    (λ word. sum_by-IsPermutation (is word) xs ys permutation ∙ sym (sum_by-sorted (is word) xs))
