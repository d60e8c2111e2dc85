-- The number of different pairs is the sum over the logs of their different tags, since no two logs are of one epoch.
use Rattle.std.proofs.Common.{◌≡◌, ◌≢◌, ℕ, ◌+◌, ◌||◌, Bool, true, false, List, [], ◌∷◌, ◌++◌, map, sum_by, inl, inr, refl, sym, ap, ◌∙◌, arith}
use Rattle.std.specs.List.{AllByRecursion, list_any, flat_map}
use Rattle.std.specs.Str.{bytes_eq}
use Rattle.std.proofs.lemmas.Bool.{cases_Bool, eq-eqb, ne_eqb}
use Rattle.std.proofs.lemmas.List.Folds.{list_any-append}
use Rattle.std.proofs.lemmas.List.Sums.{sum_by-cons}
use Rattle.spent_store.specs.Books.{EpochLog, StoredBook, begun, distinct, distinct_count, is_same_pair, spent}
use Rattle.spent_store.specs.Root.{AreNear}

-- the pairs of an epoch
abbrev pairs_of : ℕ → List (List ℕ) → List (ℕ × List ℕ)
pairs_of epoch tags = map (λ tag. (epoch, tag)) tags

-- none of these pairs is of the epoch
abbrev Elsewhere : ℕ → List (ℕ × List ℕ) → Type 0
Elsewhere epoch others = AllByRecursion (λ (pair : ℕ × List ℕ). pair.0 ≢ epoch) others

here : (epoch : ℕ) (tag : List ℕ) (tags : List (List ℕ)) → list_any (λ other. is_same_pair other (epoch, tag)) (pairs_of epoch tags) ≡ list_any (λ other. bytes_eq other tag) tags
here epoch tag [] = refl
here epoch tag (first ∷ tags) = rw (eq-eqb epoch epoch refl) (ap (λ (later : Bool). bytes_eq first tag || later) (here epoch tag tags))

elsewhere : (epoch : ℕ) (tag : List ℕ) (others : List (ℕ × List ℕ)) → Elsewhere epoch others → list_any (λ other. is_same_pair other (epoch, tag)) others ≡ false
elsewhere epoch tag [] all = refl
elsewhere epoch tag (pair ∷ others) all = rw (ne_eqb pair.0 epoch all.0) (elsewhere epoch tag others all.1)

or_false : (a b : Bool) → b ≡ false → (a || b) ≡ a
or_false true b is = refl
or_false false b is = is

among_both : (epoch : ℕ) (tag : List ℕ) (tags : List (List ℕ)) (others : List (ℕ × List ℕ)) → Elsewhere epoch others
    → list_any (λ other. is_same_pair other (epoch, tag)) (pairs_of epoch tags ++ others) ≡ list_any (λ other. bytes_eq other tag) tags
among_both epoch tag tags others all =
    list_any-append (λ other. is_same_pair other (epoch, tag)) (pairs_of epoch tags) others
    ∙ or_false (list_any (λ other. is_same_pair other (epoch, tag)) (pairs_of epoch tags)) (list_any (λ other. is_same_pair other (epoch, tag)) others) (elsewhere epoch tag others all)
    ∙ here epoch tag tags

-- the pairs of an epoch, before those of others
one_more : (epoch : ℕ) (tags : List (List ℕ)) (others : List (ℕ × List ℕ)) → Elsewhere epoch others
    → distinct is_same_pair (pairs_of epoch tags ++ others) ≡ distinct_count tags + distinct is_same_pair others
one_more epoch [] others all = omega arith
one_more epoch (tag ∷ tags) others all =
    let rest = one_more epoch tags others all in
    let known = among_both epoch tag tags others all in
    elim (cases_Bool (list_any (λ other. bytes_eq other tag) tags)) [
      | inl again ↦ rw (known ∙ again, again) rest
      | inr new ↦ rw (known ∙ new, new) (omega (arith, rest))
    ]

all_elsewhere : (epoch other : ℕ) (tags : List (List ℕ)) → other ≢ epoch → Elsewhere epoch (pairs_of other tags ++ [])
all_elsewhere epoch other [] differ = tt
all_elsewhere epoch other (tag ∷ tags) differ = (differ, all_elsewhere epoch other tags differ)

pub spent_summed : (floor : ℕ) (logs : List EpochLog) → AreNear floor (map (λ log. log.epoch) logs)
    → distinct is_same_pair (flat_map (λ (log : EpochLog). pairs_of log.epoch log.tags) logs) ≡ sum_by (λ (log : EpochLog). distinct_count log.tags) logs
spent_summed floor [] near = refl
spent_summed floor (a ∷ []) near = omega (arith, one_more a.epoch a.tags [] tt, sum_by-cons (λ (log : EpochLog). distinct_count log.tags) a [])
spent_summed floor (a ∷ b ∷ []) near =
    omega (
      arith,
      one_more a.epoch a.tags (pairs_of b.epoch b.tags ++ []) (all_elsewhere a.epoch b.epoch b.tags (λ same. near.2 (sym same))),
      one_more b.epoch b.tags [] tt,
      sum_by-cons (λ (log : EpochLog). distinct_count log.tags) a (b ∷ []),
      sum_by-cons (λ (log : EpochLog). distinct_count log.tags) b [],
    )
spent_summed floor (a ∷ b ∷ c ∷ others) near = absurd near

-- of a book
pub spent_by_logs : (book : StoredBook) → AreNear book.floor (begun book) → spent book ≡ sum_by (λ (log : EpochLog). distinct_count log.tags) book.logs
spent_by_logs book near = spent_summed book.floor book.logs near
