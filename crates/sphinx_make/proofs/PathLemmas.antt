-- A path that is sealed hop by hop.
use Rattle.std.proofs.Common.{◌≡◌, ℕ, suc, ◌+◌, ◌-◌, ◌*◌, ◌≤◌, ◌<◌, List, [], ◌∷◌, ◌++◌, length, drop, take, get_or, Option, Some, None, Result, Ok, Err, All, refl, sym, ap, subst, ◌∙◌, arith, append_assoc}
use Rattle.std.specs.Option.{ok_or}
use Rattle.std.proofs.lemmas.List.{append-nil, drop_all, drop_more}
use Rattle.mix_base.specs.Results.{◌>>=◌, IsRefusedBy}
use Rattle.mix_base.specs.Suites.{SuiteMeaning}
use Rattle.sphinx_make.specs.Making.{sealed_hop, sealed_path}
use Rattle.sphinx_make.specs.declared.faults.MakeFault.{MakeFault}
use Rattle.sphinx_make.specs.declared.faults.MakeFault.TheVariants.{KeyForm}
use Rattle.sphinx_make.specs.declared.path.HopSpec.{HopSpec}
use Rattle.sphinx_make.specs.declared.path.SealedHop.{SealedHop}

-- hops that are sealed, in front of what the rest gives
abbrev pub with_front : List SealedHop → Result (List SealedHop) MakeFault → Result (List SealedHop) MakeFault
with_front front (Ok hops) = Ok (front ++ hops)
with_front front (Err why) = Err why

regroup : (front : List SealedHop) (hop : SealedHop) (rest : Result (List SealedHop) MakeFault) → with_front front (rest >>= λ others. Ok (hop ∷ others)) ≡ with_front (front ++ hop ∷ []) rest
regroup front hop (Ok others) = ap (λ (hops : List SealedHop). Ok hops) (sym (append_assoc front (hop ∷ []) others))
regroup front hop (Err why) = refl

-- one hop more
pub goes_on : (suite : SuiteMeaning) (front : List SealedHop) (place : ℕ) (spec : HopSpec) (rest : List HopSpec) (coins : List ℕ) (hop : SealedHop) → ok_or (sealed_hop suite spec (take suite.kem.coins coins)) (KeyForm place) ≡ Ok hop → with_front front (sealed_path suite place (spec ∷ rest) coins) ≡ with_front (front ++ hop ∷ []) (sealed_path suite (place + 1) rest (drop suite.kem.coins coins))
unfolding sealed_path
goes_on suite front place spec rest coins hop h = rw h (regroup front hop (sealed_path suite (place + 1) rest (drop suite.kem.coins coins)))

-- a hop that isn't sealed
pub ends : (suite : SuiteMeaning) (why : MakeFault) (front : List SealedHop) (place : ℕ) (spec : HopSpec) (rest : List HopSpec) (coins : List ℕ) → ok_or (sealed_hop suite spec (take suite.kem.coins coins)) (KeyForm place) ≡ Err why → with_front front (sealed_path suite place (spec ∷ rest) coins) ≡ Err why
unfolding sealed_path
ends suite why front place spec rest coins h = rw h refl

pub none_left : (suite : SuiteMeaning) (front : List SealedHop) (place : ℕ) (coins : List ℕ) → with_front front (sealed_path suite place [] coins) ≡ Ok front
unfolding sealed_path
none_left suite front place coins = ap (λ (hops : List SealedHop). Ok hops) (append-nil front)

-- the same in a loop over the path, with the coins that are left
pub goes_on_at : (suite : SuiteMeaning) (front new : List SealedHop) (place n : ℕ) (path : List HopSpec) (spec : HopSpec) (rest own others : List ℕ) (hop : SealedHop) (total : Result (List SealedHop) MakeFault)
    → suite.kem.coins ≡ n → place < length path → spec ≡ get_or path place spec → own ≡ take n rest → others ≡ drop n rest → ok_or (sealed_hop suite spec own) (KeyForm place) ≡ Ok hop → new ≡ front ++ hop ∷ []
    → with_front front (sealed_path suite place (drop place path) rest) ≡ total → with_front new (sealed_path suite (place + 1) (drop (place + 1) path) others) ≡ total
goes_on_at suite front new place n path spec rest own others hop total coins_are within is own_is others_are made new_is so_far =
    let behind : List HopSpec = drop (place + 1) path in
    let cut : drop place path ≡ spec ∷ behind = drop_more path place spec within ∙ ap (λ (s : HopSpec). s ∷ behind) (sym is) in
    let own_coins : own ≡ take suite.kem.coins rest = own_is ∙ ap (λ k. take k rest) (sym coins_are) in
    let other_coins : others ≡ drop suite.kem.coins rest = others_are ∙ ap (λ k. drop k rest) (sym coins_are) in
    let here : ok_or (sealed_hop suite spec (take suite.kem.coins rest)) (KeyForm place) ≡ Ok hop = ap (λ xs. ok_or (sealed_hop suite spec xs) (KeyForm place)) (sym own_coins) ∙ made in
    let one = goes_on suite front place spec behind rest hop here in
    rw (new_is, other_coins) (sym one ∙ ap (λ (specs : List HopSpec). with_front front (sealed_path suite place specs rest)) (sym cut) ∙ so_far)

stops : (suite : SuiteMeaning) (why : MakeFault) (front : List SealedHop) (place n : ℕ) (path : List HopSpec) (spec : HopSpec) (rest own : List ℕ) (total : Result (List SealedHop) MakeFault)
    → suite.kem.coins ≡ n → place < length path → spec ≡ get_or path place spec → own ≡ take n rest → ok_or (sealed_hop suite spec own) (KeyForm place) ≡ Err why
    → with_front front (sealed_path suite place (drop place path) rest) ≡ total → total ≡ Err why
stops suite why front place n path spec rest own total coins_are within is own_is refused so_far =
    let behind : List HopSpec = drop (place + 1) path in
    let cut : drop place path ≡ spec ∷ behind = drop_more path place spec within ∙ ap (λ (s : HopSpec). s ∷ behind) (sym is) in
    let own_coins : own ≡ take suite.kem.coins rest = own_is ∙ ap (λ k. take k rest) (sym coins_are) in
    let here : ok_or (sealed_hop suite spec (take suite.kem.coins rest)) (KeyForm place) ≡ Err why = ap (λ xs. ok_or (sealed_hop suite spec xs) (KeyForm place)) (sym own_coins) ∙ refused in
    sym so_far ∙ ap (λ (specs : List HopSpec). with_front front (sealed_path suite place specs rest)) cut ∙ ends suite why front place spec behind rest here

pub stops_at : (suite : SuiteMeaning) (cause : Option MakeFault) (front : List SealedHop) (place n : ℕ) (path : List HopSpec) (spec : HopSpec) (rest own : List ℕ) (total : Result (List SealedHop) MakeFault)
    → suite.kem.coins ≡ n → place < length path → spec ≡ get_or path place spec → own ≡ take n rest → IsRefusedBy cause (ok_or (sealed_hop suite spec own) (KeyForm place))
    → with_front front (sealed_path suite place (drop place path) rest) ≡ total → IsRefusedBy cause total
stops_at suite None front place n path spec rest own total coins_are within is own_is refused so_far = tt
stops_at suite (Some why) front place n path spec rest own total coins_are within is own_is refused so_far = stops suite why front place n path spec rest own total coins_are within is own_is refused so_far

-- all of the path
pub all_sealed : (suite : SuiteMeaning) (front : List SealedHop) (place : ℕ) (path : List HopSpec) (rest : List ℕ) (total : Result (List SealedHop) MakeFault) → length path ≤ place → with_front front (sealed_path suite place (drop place path) rest) ≡ total → total ≡ Ok front
all_sealed suite front place path rest total past so_far =
    sym so_far ∙ ap (λ (specs : List HopSpec). with_front front (sealed_path suite place specs rest)) (drop_all place path past) ∙ none_left suite front place rest

-- the coins that are left after one hop more
pub left_after : (hops place each left behind : ℕ) → place < hops → left ≡ (hops - place) * each → behind + each ≡ left → behind ≡ (hops - (place + 1)) * each
left_after hops place each left behind within e split =
    let one_more : hops - place ≡ hops - (place + 1) + 1 = omega arith in
    let product : (hops - place) * each ≡ (hops - (place + 1) + 1) * each = ap (λ n. n * each) one_more in
    omega (arith, product, e, split)

-- what holds of each hop, of the first one and of the rest
pub head_of : (P : SealedHop → Type 0) (hops : List SealedHop) (hop : SealedHop) (rest : List SealedHop) → hops ≡ hop ∷ rest → All P hops → P hop
head_of P hops hop rest e all = let each = subst (λ (hs : List SealedHop). All P hs) e all in each 0 hop (omega arith)

pub tail_of : (P : SealedHop → Type 0) (hops : List SealedHop) (hop : SealedHop) (rest : List SealedHop) → hops ≡ hop ∷ rest → All P hops → All P rest
tail_of P hops hop rest e all = let each = subst (λ (hs : List SealedHop). All P hs) e all in λ k d within. each (suc k) d (omega arith)
