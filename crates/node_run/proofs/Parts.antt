-- Lists that have a part for each of some things, and a rest.
use Rattle.std.proofs.Common.{◌≡◌, ◌<◌, ◌≤◌, ◌+◌, ℕ, suc, List, [], ◌∷◌, ◌++◌, length, take, drop, append_assoc, refl, sym, ap, subst, ◌∙◌, arith}
use Rattle.std.specs.Prelude.{get_or}
use Rattle.std.specs.List.{AllZip, sum_by}
use Rattle.std.proofs.Math.Seq.{drop-cons, take-length, take-suc}
use Rattle.std.proofs.lemmas.List.{append-nil}
use Rattle.std.proofs.lemmas.List.Sums.{sum_by-append, sum_by-cons, sum_by-take-le}
use Rattle.node_actors.proofs.Moving.{zip_snoc}
use Rattle.node_run.specs.Parts.{BeginsWith, IsShorter, Parted}

-- two ways to cut a list are one where the first parts are equally long
pub same_cut : {A : Type 0} (a b c d : List A) → a ++ b ≡ c ++ d → length a ≡ length c → (a ≡ c) × (b ≡ d)
same_cut [] b [] d same long = (refl, same)
same_cut [] b (y ∷ c) d same long = absurd (omega (arith, long))
same_cut (x ∷ a) b [] d same long = absurd (omega (arith, long))
same_cut {A = A} (x ∷ a) b (y ∷ c) d same long =
    let rest : a ++ b ≡ c ++ d = ap (λ (xs : List A). tail xs) same in
    let first : x ≡ y = head_same x y (a ++ b) (c ++ d) same in
    let both = same_cut a b c d rest (omega (arith, long)) in
    (ap (λ (z : A). z ∷ a) first ∙ ap (λ (xs : List A). y ∷ xs) both.0, both.1)
  where
    tail : {B : Type 0} → List B → List B
    tail [] = []
    tail (z ∷ zs) = zs

    head_same : {B : Type 0} (x y : B) (xs ys : List B) → x ∷ xs ≡ y ∷ ys → x ≡ y
    head_same x y xs ys is = cc

module _ {X A : Type 0} (IsPart : X → List A → Type 0) where
  -- none at first
  pub none_parted : (items : List A) → items ≡ [] → Parted IsPart (λ rest. rest ≡ []) [] items
  unfolding Parted
  none_parted items none = none

  -- one thing more, with its part at the end
  pub one_more : (xs : List X) (items own : List A) (x : X) → Parted IsPart (λ rest. rest ≡ []) xs items → IsPart x own → Parted IsPart (λ rest. rest ≡ []) (xs ++ x ∷ []) (items ++ own)
  unfolding Parted
  one_more [] items own x none is = (own, [], ap (λ (i : List A). i ++ own) none ∙ sym (append-nil own), is, refl)
  one_more (y ∷ ys) items own x (part, rest, items_are, part_is, more) is =
      (part, rest ++ own, ap (λ (i : List A). i ++ own) items_are ∙ append_assoc part rest own, part_is, one_more ys rest own x more is)

  -- a rest for those that had none
  pub gets_rest : (IsRest : List A → Type 0) (xs : List X) (items rest : List A) → Parted IsPart (λ none. none ≡ []) xs items → IsRest rest → Parted IsPart IsRest xs (items ++ rest)
  unfolding Parted
  gets_rest IsRest [] items rest none is = subst IsRest (ap (λ (i : List A). i ++ rest) (sym none)) is
  gets_rest IsRest (y ∷ ys) items rest (part, more, items_are, part_is, others) is =
      (part, more ++ rest, ap (λ (i : List A). i ++ rest) items_are ∙ append_assoc part more rest, part_is, gets_rest IsRest ys more rest others is)

  -- its first part is what is gone from its front
  pub own_part : (x : X) (items own left : List A) → BeginsWith (IsPart x) items → ((part : List A) → IsPart x part → length part ≡ length own) → items ≡ own ++ left → IsPart x own
  own_part x items own left begins long items_are =
      let same = same_cut begins.part begins.rest own left (sym begins.items_are ∙ items_are) (long begins.part begins.is) in
      subst (IsPart x) same.0 begins.is

  module _ (IsRest : List A → Type 0) where
    -- nothing but the rest
    pub rest_alone : (items : List A) → Parted IsPart IsRest [] items → IsRest items
    unfolding Parted
    rest_alone items is = is

    -- it begins with the first one's part
    pub first_part : (x : X) (xs : List X) (items : List A) → Parted IsPart IsRest (x ∷ xs) items → BeginsWith (IsPart x) items
    unfolding Parted
    first_part x xs items (part, rest, items_are, is, others) = record { part = part; rest = rest; items_are = items_are; is = is }

    -- behind which are the others'
    pub other_parts : (x : X) (xs : List X) (items left : List A) (many : ℕ) → ((part : List A) → IsPart x part → length part ≡ many) → Parted IsPart IsRest (x ∷ xs) items
        → IsShorter many items left → Parted IsPart IsRest xs left
    unfolding Parted
    other_parts x xs items left many long (part, rest, items_are, is, others) shorter =
        let same = same_cut part rest shorter.part left (sym items_are ∙ shorter.old_is) (long part is ∙ sym shorter.many_are) in
        subst (λ (i : List A). Parted IsPart IsRest xs i) same.1 others

-- two lists go together; so do the parts of the first with those of the second
module _ {A B : Type 0} (Are : A → B → Type 0) where
  record IsCut (us more : List A) (bs : List B) : Type 0 where
    first : List B
    second : List B
    bs_are : bs ≡ first ++ second
    firsts : AllZip Are us first
    seconds : AllZip Are more second

  cut : (us more : List A) (bs : List B) → AllZip Are (us ++ more) bs → IsCut us more bs
  cut [] more bs all = record { first = []; second = bs; bs_are = refl; firsts = tt; seconds = all }
  cut (a ∷ us) more [] all = absurd all
  cut (a ∷ us) more (b ∷ bs) all =
      let rest = cut us more bs all.1 in
      record { first = b ∷ rest.first; second = rest.second; bs_are = ap (λ (ys : List B). b ∷ ys) rest.bs_are; firsts = (all.0, rest.firsts); seconds = rest.seconds }

  pub zip_parts : {X : Type 0} (IsPart : X → List A → Type 0) (IsRest : List A → Type 0) (BePart : X → List B → Type 0) (BeRest : List B → Type 0)
      → ((x : X) (us : List A) (bs : List B) → IsPart x us → AllZip Are us bs → BePart x bs) → ((us : List A) (bs : List B) → IsRest us → AllZip Are us bs → BeRest bs)
      → (xs : List X) (us : List A) (bs : List B) → Parted IsPart IsRest xs us → AllZip Are us bs → Parted BePart BeRest xs bs
  unfolding Parted
  zip_parts IsPart IsRest BePart BeRest part rest [] us bs is all = rest us bs is all
  zip_parts {X} IsPart IsRest BePart BeRest part rest (x ∷ xs) us bs (own, more, as_are, own_is, others) all =
      let c = cut own more bs (subst (λ (ys : List A). AllZip Are ys bs) as_are all) in
      (c.first, c.second, c.bs_are, part x own c.first own_is c.firsts, zip_parts IsPart IsRest BePart BeRest part rest xs more c.second others c.seconds)

-- ---- lists that go together

module _ {A B C : Type 0} (P : A → B → Type 0) (Q : B → C → Type 0) (S : A → C → Type 0) (joins : (a : A) (b : B) (c : C) → P a b → Q b c → S a c) where
  pub zip_join : (us : List A) (bs : List B) (cs : List C) → AllZip P us bs → AllZip Q bs cs → AllZip S us cs
  zip_join [] [] [] one two = tt
  zip_join [] [] (c ∷ cs) one two = absurd two
  zip_join [] (b ∷ bs) cs one two = absurd one
  zip_join (a ∷ us) [] cs one two = absurd one
  zip_join (a ∷ us) (b ∷ bs) [] one two = absurd two
  zip_join (a ∷ us) (b ∷ bs) (c ∷ cs) one two = (joins a b c one.0 two.0, zip_join us bs cs one.1 two.1)

module _ {A B : Type 0} (P Q : A → B → Type 0) (so : (a : A) (b : B) → P a b → Q a b) where
  pub zip_so : (us : List A) (bs : List B) → AllZip P us bs → AllZip Q us bs
  zip_so [] [] all = tt
  zip_so [] (b ∷ bs) all = absurd all
  zip_so (a ∷ us) [] all = absurd all
  zip_so (a ∷ us) (b ∷ bs) all = (so a b all.0, zip_so us bs all.1)

-- ---- on the way through a list

-- all were met
pub all_met : {X : Type 0} (all met rest : List X) → all ≡ met ++ rest → rest ≡ [] → met ≡ all
all_met {X = X} all met rest is none = sym (append-nil met) ∙ ap (λ (xs : List X). met ++ xs) (sym none) ∙ sym is

pub one_up : (i : ℕ) → suc i ≡ i + 1
one_up i = omega arith

-- the front of a list, all of it
pub whole_front : {X : Type 0} (xs : List X) (i : ℕ) → i ≤ length xs → length xs ≤ i → take i xs ≡ xs
whole_front {X = X} xs i low high =
    let same : i ≡ length xs = omega arith in
    ap (λ (n : ℕ). take n xs) same ∙ take-length xs

module _ {A B : Type 0} (Are : A → B → Type 0) where
  -- the next of both
  pub next_both : (us : List A) (i : ℕ) (a : A) (bs rest : List B) (b : B) → i < length us → a ≡ get_or us i a → AllZip Are (drop i us) bs → bs ≡ b ∷ rest
      → Are a b × AllZip Are (drop (i + 1) us) rest
  next_both us i a bs rest b low a_is all bs_are =
      let both = subst (λ (ys : List A). AllZip Are ys (b ∷ rest)) (drop-cons us i a low) (subst (λ (ys : List B). AllZip Are (drop i us) ys) bs_are all) in
      (subst (λ (x : A). Are x b) (sym a_is) both.0, subst (λ (n : ℕ). AllZip Are (drop n us) rest) (one_up i) both.1)

  -- the second doesn't end before the first
  pub none_missing : (us : List A) (i : ℕ) (a : A) (bs : List B) → i < length us → AllZip Are (drop i us) bs → bs ≡ [] → ⊥
  none_missing us i a bs low all none =
      absurd (subst (λ (ys : List A). AllZip Are ys []) (drop-cons us i a low) (subst (λ (ys : List B). AllZip Are (drop i us) ys) none all))

  -- one more of both
  pub one_more_both : (us : List A) (bs more : List B) (a : A) (b : B) → AllZip Are us bs → Are a b → more ≡ bs ++ b ∷ [] → AllZip Are (us ++ a ∷ []) more
  one_more_both us bs more a b all is more_is = subst (λ (ys : List B). AllZip Are (us ++ a ∷ []) ys) (sym more_is) (zip_snoc Are us bs a b all is)

-- a count over a list, one further
pub sum_further : {X : Type 0} (f : X → ℕ) (xs : List X) (i : ℕ) (x : X) → i < length xs → x ≡ get_or xs i x → sum_by f (take (i + 1) xs) ≡ sum_by f (take i xs) + f x
sum_further {X = X} f xs i x low is =
    ap (λ (n : ℕ). sum_by f (take n xs)) (sym (one_up i)) ∙ ap (λ (ys : List X). sum_by f ys) (take-suc xs i x low) ∙ sum_by-append f (take i xs) (get_or xs i x ∷ [])
    ∙ ap (λ (n : ℕ). sum_by f (take i xs) + n) (sum_by-cons f (get_or xs i x) [] ∙ omega arith) ∙ ap (λ (y : X). sum_by f (take i xs) + f y) (sym is)

-- and what is still to come fits
pub sum_fits : {X : Type 0} (f : X → ℕ) (xs : List X) (i : ℕ) (x : X) → i < length xs → x ≡ get_or xs i x → sum_by f (take i xs) + f x ≤ sum_by f xs
sum_fits f xs i x low is = omega (arith, sum_further f xs i x low is, sum_by-take-le f xs (i + 1))
