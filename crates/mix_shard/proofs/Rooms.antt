-- How much room the tale needs: an entry for each item that is held, and for each caller who isn't done.
use Rattle.std.proofs.Common.{◌≡◌, ℕ, ◌+◌, Bool, true, false, not, cond, List, [], ◌∷◌, ◌++◌, map, replicate, Some, sym, ap, ◌∙◌, set, get_or, arith}
use Rattle.std.specs.List.{count_by, slice_get}
use Rattle.std.proofs.lemmas.List.{map-append}
use Rattle.mix_shard.specs.declared.entries.Entry.{Entry}
use Rattle.mix_shard.specs.declared.entries.Told.{Told}
use Rattle.std.proofs.lemmas.List.Sums.{sum_by-set}
use Rattle.std.proofs.lemmas.Option.{get_or_from_slice_get, slice_get_within}
use Rattle.std.proofs.lemmas.List.Folds.{sum_by-replicate}

-- an entry told behind others
pub entries_told : (entries entries' : List Entry) (told told' : List Told) (one : Told) → entries' ≡ entries ++ one.entry ∷ []
    → told' ≡ told ++ one ∷ [] → entries ≡ map (λ (t : Told). t.entry) told → entries' ≡ map (λ (t : Told). t.entry) told'
entries_told entries entries' told told' one entries_is told_is same =
    entries_is
    ∙ ap (λ (es : List Entry). es ++ one.entry ∷ []) same
    ∙ sym (map-append (λ (t : Told). t.entry) told (one ∷ []))
    ∙ ap (map (λ (t : Told). t.entry)) (sym told_is)

-- what one caller needs
weight : Bool → ℕ
weight is_done = cond (not is_done) 1 0

-- one who becomes done needs one entry less
pub done_more : (done : List Bool) (caller : ℕ) → slice_get done caller ≡ Some false
    → count_by not (set done caller true) + 1 ≡ count_by not done
unfolding weight
done_more done caller active =
    let within = slice_get_within done caller false active in
    let here : get_or done caller true ≡ false = get_or_from_slice_get done caller false true active in
    let counted = sum_by-set weight done caller true true within in
    let value : weight (get_or done caller true) ≡ weight false = ap weight here in
    omega (arith, counted, value)

-- where nobody is done, each caller needs one
pub all_owed : (done : List Bool) (callers : ℕ) → done ≡ replicate callers false → count_by not done ≡ callers
unfolding weight
all_owed done callers nobody =
    let counted = sum_by-replicate weight callers false in
    let same = ap (count_by not) nobody in
    omega (arith, counted, same)
