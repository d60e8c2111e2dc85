-- Elements that are taken from the end of one list and put behind another.
use Rattle.std.proofs.Common.{◌≡◌, ◌+◌, suc, List, length, refl, arith, [], ◌∷◌, ◌++◌, map, reverse, sym, ap, subst, ◌∙◌, append_assoc}
use Rattle.std.specs.Prelude.{All}
use Rattle.std.specs.List.{AllZip}
use Rattle.std.proofs.lemmas.List.{get_or_append_left, length-append, map-append, reverse-append, reverse-reverse}
use Rattle.turn_lock.proofs.Lists.{all_middle}

module _ {X V : Type 0} (f : X → V) where
  -- the last of a list is the first of its reverse
  pub first_of : (xs left : List X) (x : X) → xs ≡ left ++ x ∷ [] → map f (reverse xs) ≡ f x ∷ map f (reverse left)
  first_of xs left x is = ap (λ (zs : List X). map f (reverse zs)) is ∙ ap (λ (zs : List X). map f zs) (reverse-append left (x ∷ []))

  pub last_of : (xs left : List X) (x : X) (others : List V) → xs ≡ left ++ x ∷ [] → map f xs ++ others ≡ map f left ++ f x ∷ others
  last_of xs left x others is =
      ap (λ (zs : List X). map f zs ++ others) is ∙ ap (λ (vs : List V). vs ++ others) (map-append f left (x ∷ []))
      ∙ append_assoc (map f left) (f x ∷ []) others

-- the last of the first list goes behind the second
pub goes_over : {X Y V : Type 0} (f : X → V) (h : Y → V) (all : List V) (xs left : List X) (x : X) (ys more : List Y) (y : Y) → all ≡ map f xs ++ map h (reverse ys)
    → xs ≡ left ++ x ∷ [] → more ≡ ys ++ y ∷ [] → h y ≡ f x → all ≡ map f left ++ map h (reverse more)
goes_over {V = V} f h all xs left x ys more y are xs_are more_is same =
    are ∙ last_of f xs left x (map h (reverse ys)) xs_are ∙ ap (λ (v : V). map f left ++ v ∷ map h (reverse ys)) (sym same)
    ∙ ap (λ (vs : List V). map f left ++ vs) (sym (first_of h more ys y more_is))

-- the last of a list was met: those that were, and those that come
pub met_next : {X V : Type 0} (f : X → V) (all met : List V) (xs left : List X) (x : X) → all ≡ met ++ map f (reverse xs) → xs ≡ left ++ x ∷ []
    → all ≡ met ++ f x ∷ map f (reverse left)
met_next {V = V} f all met xs left x are is = are ∙ ap (λ (vs : List V). met ++ vs) (first_of f xs left x is)

pub met_more : {V : Type 0} (all met rest : List V) (v : V) → all ≡ met ++ v ∷ rest → all ≡ (met ++ v ∷ []) ++ rest
met_more all met rest v is = is ∙ sym (append_assoc met (v ∷ []) rest)

pub map_long : {X Y : Type 0} (f : X → Y) (xs : List X) → length (map f xs) ≡ length xs
map_long f [] = refl
map_long f (x ∷ xs) = ap (λ n. suc n) (map_long f xs)

pub empty_list : {X : Type 0} (xs : List X) → length xs ≡ 0 → xs ≡ []
empty_list [] none = refl
empty_list (x ∷ xs) none = absurd (omega (arith, none))

module _ {X : Type 0} (P : X → Type 0) where
  -- what holds of all holds of those in front, and of the last
  pub all_front : (xs ys : List X) → All P (xs ++ ys) → All P xs
  all_front xs ys all = λ k d low.
      subst P (get_or_append_left xs ys d k low) (all k d (let a = length-append xs ys in omega arith))

  pub all_but_last : (old new : List X) (x : X) → old ≡ new ++ x ∷ [] → All P old → All P new
  all_but_last old new x is all = all_front new (x ∷ []) (subst (All P) is all)

  pub is_last : (old new : List X) (x : X) → old ≡ new ++ x ∷ [] → All P old → P x
  is_last old new x is all = all_middle P new [] x (subst (All P) is all)

  pub is_middle : (all front rest : List X) (x : X) → all ≡ front ++ x ∷ rest → All P all → P x
  is_middle all front rest x is every = all_middle P front rest x (subst (All P) is every)

-- a list from its end, as itself
pub reverse_more : {X : Type 0} (xs left : List X) (x : X) → xs ≡ left ++ x ∷ [] → reverse xs ≡ x ∷ reverse left
reverse_more {X} xs left x is = ap (λ (zs : List X). reverse zs) is ∙ reverse-append left (x ∷ [])

-- the last of what is left was met
pub gone_more : {X : Type 0} (all xs left gone : List X) (x : X) → all ≡ xs ++ gone → xs ≡ left ++ x ∷ [] → all ≡ left ++ x ∷ gone
gone_more {X} all xs left gone x are is = are ∙ ap (λ (zs : List X). zs ++ gone) is ∙ append_assoc left (x ∷ []) gone

pub met_at : {X : Type 0} (all met xs left : List X) (x : X) → all ≡ met ++ reverse xs → xs ≡ left ++ x ∷ [] → all ≡ met ++ x ∷ reverse left
met_at {X} all met xs left x are is = are ∙ ap (λ (zs : List X). met ++ zs) (reverse_more xs left x is)

-- a list without a partner is empty
pub no_rest : {X Y : Type 0} (P : X → Y → Type 0) (xs : List X) (ys : List Y) → xs ≡ [] → AllZip P (reverse xs) (reverse ys) → ys ≡ []
no_rest {X} {Y} P xs ys none all =
    sym (reverse-reverse ys) ∙ ap (λ (zs : List Y). reverse zs) (empty_partner (reverse ys) (subst (λ (zs : List X). AllZip P (reverse zs) (reverse ys)) none all))
  where
    empty_partner : (zs : List Y) → AllZip P [] zs → zs ≡ []
    empty_partner [] zipped = refl
    empty_partner (z ∷ zs) zipped = absurd zipped
