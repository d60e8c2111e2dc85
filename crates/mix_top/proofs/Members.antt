-- What is in a list of pairs of epoch and replay tag, and how often, through an order that doesn't count; and what stands at a
-- place within a list.
use Rattle.std.proofs.Common.{◌≡◌, ℕ, zero, suc, ◌+◌, ◌<◌, ◌≤◌, Bool, true, false, cond, List, [], ◌∷◌, ◌++◌, map, take, length, ◌⊎◌, inl, inr, Some, refl, sym, ap, ◌∙◌, subst, arith}
use Rattle.std.specs.List.{All, Contains, count_by, slice_get}
use Rattle.std.specs.List.Sorted.{IsPermutation}
use Rattle.std.proofs.lemmas.Bool.{and_from, and_parts, eq-eqb, eqb-true}
use Rattle.std.proofs.lemmas.List.{append-nil, get_or-take, length-take}
use Rattle.std.proofs.lemmas.List.Elements.{All-contains_itself, All-weaker, Contains-push_cases}
use Rattle.std.proofs.lemmas.List.Sorted.{IsPermutation-map, sum_by-IsPermutation}
use Rattle.std.proofs.lemmas.List.Sums.{sum_by-cons, sum_by_push}
use Rattle.std.proofs.lemmas.Option.{get_or_from_slice_get, slice_get-get_or, slice_get_within}
use Rattle.std.proofs.lemmas.Slice.Eq.{bytes_eq-Decides}
use Rattle.mix_base.proofs.Members.{none_in_empty, Contains-cons_cases, Contains-head, Contains-tail}
use Rattle.spent_store.specs.Books.{is_same_pair}
use Rattle.mix_shard.specs.Laws.{NoneTwice}

-- ---- lists of any kind

pub none_more : {X : Type 0} (xs more : List X) → more ≡ [] → xs ++ more ≡ xs
none_more xs more none = ap (λ ys. xs ++ ys) none ∙ append-nil xs

-- what is in a list
pub all_within : {X : Type 0} (P : X → Type 0) (xs : List X) → ((x : X) → Contains xs x → P x) → All P xs
all_within P xs each = All-weaker (Contains xs) P each xs (All-contains_itself xs)

-- of what stands at a place of it
pub all_at : {X : Type 0} (P : X → Type 0) (xs : List X) (place : ℕ) (x : X) → All P xs → slice_get xs place ≡ Some x → P x
all_at P xs place x all there = subst P (get_or_from_slice_get xs place x x there) (all place x (slice_get_within xs place x there))

-- something stands at each place within it
pub at_within : {X : Type 0} (xs : List X) (place : ℕ) → place < length xs → (x : X) × (slice_get xs place ≡ Some x)
at_within [] place within = absurd (omega (arith, within))
at_within (x ∷ xs) place within = (_, slice_get-get_or (x ∷ xs) place x within)

-- its front has the same at a place
pub at_front : {X : Type 0} (xs : List X) (count place : ℕ) (x : X) → place < count → slice_get xs place ≡ Some x → slice_get (take count xs) place ≡ Some x
at_front xs count place x below there =
    let within = slice_get_within xs place x there in
    let long = length-take count xs in
    slice_get-get_or (take count xs) place x (omega (arith, below, within, long))
    ∙ ap Some (get_or-take count xs place x below ∙ get_or_from_slice_get xs place x x there)

-- ---- lists of pairs

-- a pair that isn't there yet may be added
pub NoneTwice-push : (xs : List (ℕ × List ℕ)) (x : ℕ × List ℕ) → NoneTwice xs → (Contains xs x → ⊥) → NoneTwice (xs ++ x ∷ [])
NoneTwice-push [] x once new = (none_in_empty x, tt)
NoneTwice-push (y ∷ ys) x once new = (
  λ found. elim (Contains-push_cases ys x y found) [ inl before ↦ once.0 before | inr same ↦ new (subst (λ z. Contains (y ∷ ys) z) (sym same) (Contains-head y ys)) ],
  NoneTwice-push ys x once.1 (λ found. new (Contains-tail y ys x found)),
)

-- how often a pair stands in a list
abbrev pub times : ℕ × List ℕ → List (ℕ × List ℕ) → ℕ
times pair pairs = count_by (is_same_pair pair) pairs

same_pair : (pair other : ℕ × List ℕ) → is_same_pair pair other ≡ true → pair ≡ other
same_pair pair other is =
    let both = and_parts _ _ is in
    let epoch : pair.0 ≡ other.0 = eqb-true pair.0 other.0 both.0 in
    let tag : pair.1 ≡ other.1 = (bytes_eq-Decides pair.1 other.1).0 both.1 in
    λ i. (epoch i, tag i)

is_itself : (pair : ℕ × List ℕ) → is_same_pair pair pair ≡ true
is_itself pair = and_from _ _ (eq-eqb pair.0 pair.0 refl) ((bytes_eq-Decides pair.1 pair.1).1 refl)

-- 1 where they are the same, and 0 else
abbrev here : ℕ × List ℕ → ℕ × List ℕ → ℕ
here pair other = cond (is_same_pair pair other) 1 0

here_is : (pair other : ℕ × List ℕ) → pair ≡ other → here pair other ≡ 1
here_is pair other same = ap (λ (b : Bool). cond b 1 0) (subst (λ (p : ℕ × List ℕ). is_same_pair pair p ≡ true) same (is_itself pair))

here_cases : (pair other : ℕ × List ℕ) → (here pair other ≡ 0) ⊎ ((here pair other ≡ 1) × (pair ≡ other))
here_cases pair other = by (is_same_pair pair other) refl
  where
    by : (same : Bool) → is_same_pair pair other ≡ same → (here pair other ≡ 0) ⊎ ((here pair other ≡ 1) × (pair ≡ other))
    by true is = inr (ap (λ (b : Bool). cond b 1 0) is, same_pair pair other is)
    by false is = inl (ap (λ (b : Bool). cond b 1 0) is)

times_first : (pair first : ℕ × List ℕ) (others : List (ℕ × List ℕ)) → times pair (first ∷ others) ≡ here pair first + times pair others
times_first pair first others = sum_by-cons (here pair) first others

-- what is in a list stands there once at least, and nothing else does
times_some : (pair : ℕ × List ℕ) (pairs : List (ℕ × List ℕ)) → Contains pairs pair → 1 ≤ times pair pairs
times_some pair [] there = absurd (none_in_empty pair there)
times_some pair (first ∷ others) there =
    let counted = times_first pair first others in
    elim (Contains-cons_cases first others pair there) [
      | inl same ↦ let one = here_is pair first (sym same) in omega (arith, counted, one)
      | inr later ↦ let some = times_some pair others later in omega (arith, counted, some)
    ]

times_found : (pair : ℕ × List ℕ) (pairs : List (ℕ × List ℕ)) → 1 ≤ times pair pairs → Contains pairs pair
times_found pair [] some = absurd (omega (arith, some))
times_found pair (first ∷ others) some =
    let counted = times_first pair first others in
    elim (here_cases pair first) [
      | inl not ↦ Contains-tail first others pair (times_found pair others (omega (arith, counted, some, not)))
      | inr is ↦ subst (λ (p : ℕ × List ℕ). Contains (first ∷ others) p) (sym is.1) (Contains-head first others)
    ]

-- the first of a list in which it stands once at most isn't among the others
pub not_behind : (first : ℕ × List ℕ) (others : List (ℕ × List ℕ)) → times first (first ∷ others) ≤ 1 → Contains others first → ⊥
not_behind first others once there =
    let counted = times_first first first others in
    let one = here_is first first refl in
    let some = times_some first others there in
    omega (arith, counted, one, some, once)

pub fewer_behind : (pair first : ℕ × List ℕ) (others : List (ℕ × List ℕ)) → times pair others ≤ times pair (first ∷ others)
fewer_behind pair first others = let counted = times_first pair first others in omega (arith, counted)

-- a pair that isn't there yet stands there once when it is added
pub once_more : (pair new : ℕ × List ℕ) (pairs : List (ℕ × List ℕ)) → times pair pairs ≤ 1 → (Contains pairs new → ⊥) → times pair (pairs ++ new ∷ []) ≤ 1
once_more pair new pairs once absent =
    let counted : times pair (pairs ++ new ∷ []) ≡ times pair pairs + here pair new = sum_by_push (here pair) pairs new in
    elim (here_cases pair new) [
      | inl not ↦ omega (arith, counted, once, not)
      | inr is ↦ at_most (times pair (pairs ++ new ∷ [])) (times pair pairs) (here pair new) counted is.0 (λ some. absent (subst (Contains pairs) is.1 (times_found pair pairs some)))
    ]
  where
    at_most : (all before one : ℕ) → all ≡ before + one → one ≡ 1 → (1 ≤ before → ⊥) → all ≤ 1
    at_most all zero one counted is none = omega (arith, counted, is)
    at_most all (suc before) one counted is none = absurd (none (omega arith))

-- another order changes no count
pub times_shuffled : {X : Type 0} (f : X → ℕ × List ℕ) (pair : ℕ × List ℕ) (old new : List X) → IsPermutation old new → times pair (map f new) ≡ times pair (map f old)
times_shuffled f pair old new shuffled = sum_by-IsPermutation (here pair) (map f old) (map f new) (IsPermutation-map f old new shuffled)
