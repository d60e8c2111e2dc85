-- A buffer that is filled part by part.
use Rattle.std.proofs.Common.{◌≡◌, ℕ, ◌+◌, ◌≤◌, List, ◌++◌, length, take, drop, ap, ◌∙◌, le_refl, drop_at, length-take-le}
use Rattle.std.proofs.lemmas.Slice.{take-put_mid_below}
use borrow.Rule.Slice.PartMut.{put_mid, post_of}
use lib.Seq.{take-add, take-append-le}

-- behind a filled front a part was filled: the front is longer by it
pub take-filled : (front room count : ℕ) (old part : List ℕ) → front ≤ length old → count ≤ length part
    → take (front + count) (put_mid front room old part) ≡ take front old ++ take count part
take-filled front room count old part within fits =
    let all = put_mid front room old part in
    let behind = post_of front room old in
    take-add front count all
    ∙ ap (λ xs. xs ++ take count (drop front all)) (take-put_mid_below _ _ _ _ _ (le_refl _) within)
    ∙ ap (λ xs. take front old ++ xs) (ap (take count) (drop_at (take front old) (part ++ behind) front (length-take-le front old within)) ∙ take-append-le count part behind fits)
