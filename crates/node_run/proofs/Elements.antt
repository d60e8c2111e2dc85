-- Lists: what is in those that others are made of, and what holds of each element and each later one.
use Rattle.std.proofs.Common.{◌≡◌, ◌≢◌, ◌⊎◌, ℕ, zero, suc, ◌<◌, ◌==◌, Bool, true, List, [], ◌∷◌, ◌++◌, length, map, get_or, refl, sym, ap, subst, ◌∙◌, inl, inr, arith, Some, eq-eqb, ne_eqb}
use Rattle.std.specs.Prelude.{All, AllPairs, Contains, filter, flat_map, slice_get}
use Rattle.std.specs.List.{AllZip}
use Rattle.std.proofs.lemmas.Bool.{cases_Bool, cases_eq}
use Rattle.std.proofs.lemmas.List.Elements.{All-contains, All-contains_itself, All-weaker, Contains-append_cases, Contains-append_left, Contains-append_right}
use Rattle.std.proofs.lemmas.List.Kept.{AllPairs-cons}
use Rattle.std.proofs.lemmas.List.{map-append}
use Rattle.std.proofs.lemmas.Option.{get_or_from_slice_get, slice_get-get_or, slice_get_within}
use Rattle.mix_base.proofs.Members as mix
use Rattle.mix_base.proofs.Members.{Contains-cons_cases, Contains-head, Contains-tail, none_in_empty}

-- ---- what is in a list

module _ {X : Type 0} where
  pub there_at : (xs : List X) (i : ℕ) (x : X) → slice_get xs i ≡ Some x → Contains xs x
  there_at xs i x is = (i, slice_get_within xs i x is, get_or_from_slice_get xs i x x is)

  pub at_there : (xs : List X) (x : X) → Contains xs x → (i : ℕ) × (slice_get xs i ≡ Some x)
  at_there xs x there = (there.0, slice_get-get_or xs there.0 x there.1 ∙ ap Some there.2)

  pub get_low : (xs : List X) (i : ℕ) (x : X) → slice_get xs i ≡ Some x → i < length xs
  get_low xs i x is = slice_get_within xs i x is

  pub get_there : (xs : List X) (i : ℕ) → i < length xs → (x : X) × (slice_get xs i ≡ Some x)
  get_there [] i low = absurd (omega arith)
  get_there (x ∷ xs) zero low = (x, refl)
  get_there (x ∷ xs) (suc i) low = get_there xs i (omega arith)

  pub at_one : (xs : List X) (i : ℕ) (x y : X) → slice_get xs i ≡ Some x → slice_get xs i ≡ Some y → x ≡ y
  at_one xs i x y first second = let both : Some x ≡ Some y = sym first ∙ second in cc

  pub all_each : (P : X → Type 0) (xs : List X) → ((x : X) → Contains xs x → P x) → All P xs
  all_each P xs each = All-weaker (Contains xs) P each xs (All-contains_itself xs)

  pub none_of : (xs : List X) → ((x : X) → Contains xs x → ⊥) → xs ≡ []
  none_of [] none = refl
  none_of (x ∷ xs) none = absurd (none x (Contains-head x xs))

  pub in_one : (x y : X) → Contains (x ∷ []) y → x ≡ y
  in_one x y there = elim (Contains-cons_cases x [] y there) [ inl same ↦ same | inr none ↦ absurd (none_in_empty y none) ]

  pub filter_from : (test : X → Bool) (xs : List X) (x : X) → Contains (filter test xs) x → Contains xs x × (test x ≡ true)
  filter_from test [] x there = absurd (none_in_empty x there)
  filter_from test (y ∷ ys) x there =
      elim (cases_Bool (test y)) [
        | inl yes' ↦
            let kept : Contains (y ∷ filter test ys) x = rw yes' at there in
            elim (Contains-cons_cases y (filter test ys) x kept) [
              | inl same ↦ (subst (λ z. Contains (y ∷ ys) z) same (Contains-head y ys), ap test (sym same) ∙ yes')
              | inr later ↦ let rest = filter_from test ys x later in (Contains-tail y ys x rest.0, rest.1)
            ]
        | inr no' ↦
            let kept : Contains (filter test ys) x = rw no' at there in
            let rest = filter_from test ys x kept in
            (Contains-tail y ys x rest.0, rest.1)
      ]

module _ {X Y : Type 0} where
  pub map_from : (f : Y → X) (ys : List Y) (x : X) → Contains (map f ys) x → (y : Y) × Contains ys y × (f y ≡ x)
  map_from f [] x there = absurd (none_in_empty x there)
  map_from f (y ∷ ys) x there =
      elim (Contains-cons_cases (f y) (map f ys) x there) [
        | inl same ↦ (y, Contains-head y ys, same)
        | inr later ↦ let rest = map_from f ys x later in (rest.0, Contains-tail y ys rest.0 rest.1, rest.2)
      ]

  pub flat_from : (f : Y → List X) (ys : List Y) (x : X) → Contains (flat_map f ys) x → (y : Y) × Contains ys y × Contains (f y) x
  flat_from f [] x there = absurd (none_in_empty x there)
  flat_from f (y ∷ ys) x there =
      elim (Contains-append_cases (f y) (flat_map f ys) x there) [
        | inl here ↦ (y, Contains-head y ys, here)
        | inr later ↦ let rest = flat_from f ys x later in (rest.0, Contains-tail y ys rest.0 rest.1, rest.2)
      ]

  pub flat_to : (f : Y → List X) (ys : List Y) (y : Y) (x : X) → Contains ys y → Contains (f y) x → Contains (flat_map f ys) x
  flat_to f [] y x there here = absurd (none_in_empty y there)
  flat_to f (z ∷ ys) y x there here =
      elim (Contains-cons_cases z ys y there) [
        | inl same ↦ Contains-append_left (f z) (flat_map f ys) x (subst (λ w. Contains (f w) x) (sym same) here)
        | inr later ↦ Contains-append_right (f z) (flat_map f ys) x (flat_to f ys y x later here)
      ]

  pub map_flat : {Z : Type 0} (g : X → Z) (f : Y → List X) (ys : List Y) → map g (flat_map f ys) ≡ flat_map (λ y. map g (f y)) ys
  map_flat g f [] = refl
  map_flat g f (y ∷ ys) = map-append g (f y) (flat_map f ys) ∙ ap (λ zs. map g (f y) ++ zs) (map_flat g f ys)

-- ---- two lists side by side

module _ {X Y : Type 0} (R : X → Y → Type 0) where
  pub zip_right : (xs : List X) (ys : List Y) (y : Y) → AllZip R xs ys → Contains ys y → (x : X) × Contains xs x × R x y
  zip_right [] [] y zip there = absurd (none_in_empty y there)
  zip_right [] (z ∷ ys) y zip there = absurd zip
  zip_right (x ∷ xs) [] y zip there = absurd zip
  zip_right (x ∷ xs) (z ∷ ys) y zip there =
      elim (Contains-cons_cases z ys y there) [
        | inl same ↦ (x, Contains-head x xs, subst (R x) same zip.0)
        | inr later ↦ let rest = zip_right xs ys y zip.1 later in (rest.0, Contains-tail x xs rest.0 rest.1, rest.2)
      ]

  pub zip_left : (xs : List X) (ys : List Y) (x : X) → AllZip R xs ys → Contains xs x → (y : Y) × Contains ys y × R x y
  zip_left [] ys x zip there = absurd (none_in_empty x there)
  zip_left (z ∷ xs) [] x zip there = absurd zip
  zip_left (z ∷ xs) (y ∷ ys) x zip there =
      elim (Contains-cons_cases z xs x there) [
        | inl same ↦ (y, Contains-head y ys, subst (λ w. R w y) same zip.0)
        | inr later ↦ let rest = zip_left xs ys x zip.1 later in (rest.0, Contains-tail y ys rest.0 rest.1, rest.2)
      ]

-- ---- each element and each later one

module _ {X : Type 0} (R : X → X → Type 0) where
  pub pairs_nil : AllPairs R []
  pairs_nil i j d low within = absurd (omega arith)

  pub pairs_cons : (x : X) (xs : List X) → ((y : X) → Contains xs y → R x y) → AllPairs R xs → AllPairs R (x ∷ xs)
  pairs_cons x xs head tail = AllPairs-cons R x xs (all_each (R x) xs head) tail

  pub pairs_one : (x : X) → AllPairs R (x ∷ [])
  pairs_one x = pairs_cons x [] (λ y there. absurd (none_in_empty y there)) pairs_nil

  pub pairs_head : (x : X) (xs : List X) (y : X) → AllPairs R (x ∷ xs) → Contains xs y → R x y
  pairs_head x xs y pairs there = All-contains (R x) xs y (λ k d within. pairs zero (suc k) d (omega arith) (omega arith)) there

  pub pairs_tail : (x : X) (xs : List X) → AllPairs R (x ∷ xs) → AllPairs R xs
  pairs_tail x xs pairs i j d low within = pairs (suc i) (suc j) d (omega arith) (omega arith)

  pub pairs_append : (xs ys : List X) → AllPairs R xs → AllPairs R ys → ((x y : X) → Contains xs x → Contains ys y → R x y) → AllPairs R (xs ++ ys)
  pairs_append [] ys first second across = second
  pairs_append (x ∷ xs) ys first second across =
      pairs_cons x (xs ++ ys)
      (λ y there. elim (Contains-append_cases xs ys y there) [
        | inl here ↦ pairs_head x xs y first here
        | inr later ↦ across x y (Contains-head x xs) later
      ])
      (pairs_append xs ys (pairs_tail x xs first) second (λ z y in_first in_second. across z y (Contains-tail x xs z in_first) in_second))

  pub pairs_behind : (xs ys : List X) → AllPairs R (xs ++ ys) → AllPairs R ys
  pairs_behind [] ys pairs = pairs
  pairs_behind (x ∷ xs) ys pairs = pairs_behind xs ys (pairs_tail x (xs ++ ys) pairs)

  pub pairs_across : (xs ys : List X) → AllPairs R (xs ++ ys) → (x y : X) → Contains xs x → Contains ys y → R x y
  pairs_across [] ys pairs x y in_first in_second = absurd (none_in_empty x in_first)
  pairs_across (z ∷ xs) ys pairs x y in_first in_second =
      elim (Contains-cons_cases z xs x in_first) [
        | inl same ↦ subst (λ w. R w y) same (pairs_head z (xs ++ ys) y pairs (Contains-append_right xs ys y in_second))
        | inr later ↦ pairs_across xs ys (pairs_tail z (xs ++ ys) pairs) x y later in_second
      ]

  pub pairs_none : (xs : List X) → ((x : X) → Contains xs x → ⊥) → AllPairs R xs
  pairs_none [] none = pairs_nil
  pairs_none (x ∷ xs) none = absurd (none x (Contains-head x xs))

  pub pairs_weaker : {S : X → X → Type 0} (xs : List X) → ((x y : X) → S x y → R x y) → AllPairs S xs → AllPairs R xs
  pairs_weaker xs weaker pairs i j d low within = weaker (get_or xs i d) (get_or xs j d) (pairs i j d low within)

  -- by their places
  pub pairs_places : (xs : List X) → ((i j : ℕ) (x y : X) → i < j → slice_get xs i ≡ Some x → slice_get xs j ≡ Some y → R x y) → AllPairs R xs
  pairs_places xs each i j d low within =
      let first : i < length xs = omega (arith, low, within) in
      each i j (get_or xs i d) (get_or xs j d) low (slice_get-get_or xs i d first) (slice_get-get_or xs j d within)

  -- elements with different keys, and those with one
  pub pairs_by : (key : X → ℕ) (xs : List X) → ((c : ℕ) → AllPairs R (filter (λ x. key x == c) xs))
      → ((x y : X) → Contains xs x → Contains xs y → key x ≢ key y → R x y) → AllPairs R xs
  pairs_by key [] one other = pairs_nil
  pairs_by key (x ∷ xs) one other =
      pairs_cons x xs
      (λ y there. elim (cases_eq (key y) (key x)) [
        | inl same ↦
            let first : AllPairs R (x ∷ filter (λ z. key z == key x) xs) = rw (eq-eqb (key x) (key x) refl) at (one (key x)) in
            pairs_head x (filter (λ z. key z == key x) xs) y first (mix.Contains-filter (λ z. key z == key x) xs y there (eq-eqb (key y) (key x) same))
        | inr apart ↦ other x y (Contains-head x xs) (Contains-tail x xs y there) (λ same. apart (sym same))
      ])
      (pairs_by key xs (λ c. behind c) (λ z y in_first in_second. other z y (Contains-tail x xs z in_first) (Contains-tail x xs y in_second)))
    where
      behind : (c : ℕ) → AllPairs R (filter (λ z. key z == c) xs)
      behind c =
          elim (cases_eq (key x) c) [
            | inl same ↦
                let first : AllPairs R (x ∷ filter (λ z. key z == c) xs) = rw (eq-eqb (key x) c same) at (one c) in
                pairs_tail x (filter (λ z. key z == c) xs) first
            | inr apart ↦ rw (ne_eqb (key x) c apart) at (one c)
          ]

module _ {X Y : Type 0} (R : X → X → Type 0) where
  -- of lists joined in their order
  pub pairs_flat : (f : Y → List X) (ys : List Y) → ((y : Y) → Contains ys y → AllPairs R (f y))
      → AllPairs (λ y z. (a b : X) → Contains (f y) a → Contains (f z) b → R a b) ys → AllPairs R (flat_map f ys)
  pairs_flat f [] each across = pairs_nil R
  pairs_flat f (y ∷ ys) each across =
      let Across : Y → Y → Type 0 = λ u v. (a b : X) → Contains (f u) a → Contains (f v) b → R a b in
      pairs_append R (f y) (flat_map f ys) (each y (Contains-head y ys))
      (pairs_flat f ys (λ z there. each z (Contains-tail y ys z there)) (pairs_tail Across y ys across))
      (λ a b in_first in_second.
      let at = flat_from f ys b in_second in
      pairs_head Across y ys at.0 across at.1 a b in_first at.2)

  -- of what each gives, some may be left out
  pub pairs_pick : (pick : Y → List X) (gives : Y → X) (ys : List Y) → ((y : Y) → Contains ys y → (pick y ≡ []) ⊎ (pick y ≡ gives y ∷ []))
      → AllPairs R (map gives ys) → AllPairs R (flat_map pick ys)
  pairs_pick pick gives [] few pairs = pairs_nil R
  pairs_pick pick gives (y ∷ ys) few pairs =
      let rest = pairs_pick pick gives ys (λ z there. few z (Contains-tail y ys z there)) (pairs_tail R (gives y) (map gives ys) pairs) in
      elim (few y (Contains-head y ys)) [
        | inl none ↦ subst (λ xs. AllPairs R (xs ++ flat_map pick ys)) (sym none) rest
        | inr one ↦ subst (λ xs. AllPairs R (xs ++ flat_map pick ys)) (sym one) (pairs_cons R (gives y) (flat_map pick ys)
            (λ x there. pairs_head R (gives y) (map gives ys) x pairs (picked ys (λ z here. few z (Contains-tail y ys z here)) x there)) rest)
      ]
    where
      picked : (zs : List Y) → ((z : Y) → Contains zs z → (pick z ≡ []) ⊎ (pick z ≡ gives z ∷ [])) → (x : X) → Contains (flat_map pick zs) x → Contains (map gives zs) x
      picked zs few x there =
          let at = flat_from pick zs x there in
          elim (few at.0 at.1) [
            | inl none ↦ absurd (none_in_empty x (subst (λ xs. Contains xs x) none at.2))
            | inr one ↦
                let same : gives at.0 ≡ x = in_one (gives at.0) x (subst (λ xs. Contains xs x) one at.2) in
                subst (λ w. Contains (map gives zs) w) same (mix.Contains-map gives zs at.0 at.1)
          ]

  pub pairs_map : (gives : Y → X) (ys : List Y) → AllPairs (λ y z. R (gives y) (gives z)) ys → AllPairs R (map gives ys)
  pairs_map gives [] pairs = pairs_nil R
  pairs_map gives (y ∷ ys) pairs =
      let Given : Y → Y → Type 0 = λ u v. R (gives u) (gives v) in
      pairs_cons R (gives y) (map gives ys)
      (λ x there.
      let at = map_from gives ys x there in
      subst (R (gives y)) at.2 (pairs_head Given y ys at.0 pairs at.1))
      (pairs_map gives ys (pairs_tail Given y ys pairs))

  -- of lists joined, back to the lists
  pub pairs_unflat : (f : Y → List X) (ys : List Y) → AllPairs R (flat_map f ys) → AllPairs (λ y z. (a b : X) → Contains (f y) a → Contains (f z) b → R a b) ys
  pairs_unflat f [] pairs = pairs_nil (λ y z. (a b : X) → Contains (f y) a → Contains (f z) b → R a b)
  pairs_unflat f (y ∷ ys) pairs =
      pairs_cons (λ u v. (a b : X) → Contains (f u) a → Contains (f v) b → R a b) y ys
      (λ z there a b in_first in_second. pairs_across R (f y) (flat_map f ys) pairs a b in_first (flat_to f ys z b there in_second))
      (pairs_unflat f ys (pairs_behind R (f y) (flat_map f ys) pairs))

  -- where nothing is given twice, what is given by two is given by one
  pub flat_once : (f : Y → List X) (ys : List Y) (y z : Y) (x : X) → AllPairs (λ a b. a ≢ b) (flat_map f ys) → Contains ys y → Contains ys z
      → Contains (f y) x → Contains (f z) x → y ≡ z
  flat_once f [] y z x pairs first second holds holds' = absurd (none_in_empty y first)
  flat_once f (w ∷ ys) y z x pairs first second holds holds' =
      let across = pairs_across (λ a b. a ≢ b) (f w) (flat_map f ys) pairs in
      elim (Contains-cons_cases w ys y first) [
        | inl is_first ↦ elim (Contains-cons_cases w ys z second) [
          | inl is_second ↦ sym is_first ∙ is_second
          | inr later ↦ absurd (across x x (subst (λ u. Contains (f u) x) (sym is_first) holds) (flat_to f ys z x later holds') refl)
        ]
        | inr later ↦ elim (Contains-cons_cases w ys z second) [
          | inl is_second ↦ absurd (across x x (subst (λ u. Contains (f u) x) (sym is_second) holds') (flat_to f ys y x later holds) refl)
          | inr both ↦ flat_once f ys y z x (pairs_behind (λ a b. a ≢ b) (f w) (flat_map f ys) pairs) later both holds holds'
        ]
      ]

  -- where no two give the same, what gives the same is one
  pub given_once : (gives : Y → X) (ys : List Y) (y z : Y) → AllPairs (λ a b. a ≢ b) (map gives ys) → Contains ys y → Contains ys z → gives y ≡ gives z → y ≡ z
  given_once gives [] y z pairs first second same = absurd (none_in_empty y first)
  given_once gives (w ∷ ys) y z pairs first second same =
      elim (Contains-cons_cases w ys y first) [
        | inl is_first ↦ elim (Contains-cons_cases w ys z second) [
          | inl is_second ↦ sym is_first ∙ is_second
          | inr later ↦ absurd (pairs_head (λ a b. a ≢ b) (gives w) (map gives ys) (gives z) pairs (mix.Contains-map gives ys z later) (ap gives is_first ∙ same))
        ]
        | inr later ↦ elim (Contains-cons_cases w ys z second) [
          | inl is_second ↦ absurd (pairs_head (λ a b. a ≢ b) (gives w) (map gives ys) (gives y) pairs (mix.Contains-map gives ys y later) (ap gives is_second ∙ sym same))
          | inr both ↦ given_once gives ys y z (pairs_tail (λ a b. a ≢ b) (gives w) (map gives ys) pairs) later both same
        ]
      ]
