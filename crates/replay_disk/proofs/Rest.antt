-- What an area at rest is: its writes and lengths leave no image but its contents. So a write over it leaves, at every
-- place outside its range, what the contents have there.
use Rattle.std.proofs.Common.{◌≡◌, ◌⊎◌, inl, inr, ℕ, suc, ◌+◌, ◌<◌, ◌≤◌, max, List, [], ◌∷◌, ◌++◌, length, get_or, take, set, refl, sym, ◌∙◌, ap, subst, arith, length-append, length-take}
use Rattle.std.proofs.lemmas.Bool.{cases_lt, cases_eq}
use Rattle.std.proofs.lemmas.List.{get_or_append_left, get_or_at, get_or-take, get_or-set_same, get_or-set_other, length-set}
use Rattle.replay_disk.specs.Disk.{Range, Area, Areas, IsOutside, IsImage, IsTried, IsAtRest, area_at}

-- its two lengths are that of the contents, and each byte of these is on the disk and outside the written ranges
pub record IsStill (area : Area) : Type 0 where
  pub least : area.least ≡ length area.contents
  pub greatest : area.greatest ≡ length area.contents
  pub there : (k : ℕ) → k < length area.contents → (k < length area.synced) × IsOutside k area.written

outside_cases : (k : ℕ) (ranges : List Range) → IsOutside k ranges ⊎ ¬ IsOutside k ranges
outside_cases k [] = inl tt
outside_cases k (range ∷ ranges) = elim (outside_cases k ranges) [
  | inl rest ↦ elim (cases_lt k range.place) [
    | inl before ↦ inl ((λ le. absurd (omega arith)), rest)
    | inr past ↦ elim (cases_lt k (range.place + range.size)) [
      | inl within ↦ inr (λ out. let h = out.0 past in absurd (omega arith))
      | inr behind ↦ inl ((λ _. behind), rest)
    ]
  ]
  | inr touched ↦ inr (λ out. touched out.1)
]

module _ (area : Area) (image : IsImage area area.contents) (only : (other : List ℕ) → IsImage area other → other ≡ area.contents) where
  abbrev bytes : List ℕ
  bytes = area.contents

  -- a shorter image, where there may be one
  not_less : area.least < length bytes → ⊥
  not_less less =
      let short : List ℕ = take area.least bytes in
      let count : length short ≡ area.least = omega (arith, length-take area.least bytes) in
      let same : short ≡ bytes = only short (record {
        no_shorter = omega arith;
        no_longer = let long = image.no_longer in omega arith;
        outside = λ k synced here out. get_or-take area.least bytes k 0 (omega arith) ∙ image.outside k synced (omega arith) out;
      }) in
      let long = ap length same in
      omega arith

  -- a longer one
  not_more : length bytes < area.greatest → ⊥
  not_more more =
      let last : ℕ = get_or area.synced (length bytes) 0 in
      let long : List ℕ = bytes ++ last ∷ [] in
      let count : length long ≡ length bytes + 1 = length-append bytes (last ∷ []) in
      let same : long ≡ bytes = only long (record {
        no_shorter = let short = image.no_shorter in omega arith;
        no_longer = omega arith;
        outside = λ k synced here out. elim (cases_lt k (length bytes)) [
          | inl before ↦ get_or_append_left bytes (last ∷ []) 0 k before ∙ image.outside k synced before out
          | inr behind ↦
              let at : k ≡ length bytes = omega arith in
              ap (λ (n : ℕ). get_or long n 0) at ∙ get_or_at bytes last [] 0 (length bytes) refl ∙ sym (ap (λ (n : ℕ). get_or area.synced n 0) at)
        ];
      }) in
      let length_of = ap length same in
      omega arith

  -- one with another byte at a place
  not_free : (k : ℕ) → k < length bytes → ((k < length area.synced) → IsOutside k area.written → ⊥) → ⊥
  not_free k here free =
      let other : List ℕ = set bytes k (suc (get_or bytes k 0)) in
      let count : length other ≡ length bytes = length-set bytes k (suc (get_or bytes k 0)) in
      let same : other ≡ bytes = only other (record {
        no_shorter = let short = image.no_shorter in omega arith;
        no_longer = let long = image.no_longer in omega arith;
        outside = λ j synced there out. elim (cases_eq j k) [
          | inl is ↦ absurd (free (subst (λ (n : ℕ). n < length area.synced) is synced) (subst (λ (n : ℕ). IsOutside n area.written) is out))
          | inr apart ↦ get_or-set_other bytes k j (suc (get_or bytes k 0)) 0 apart ∙ image.outside j synced (omega arith) out
        ];
      }) in
      let byte : suc (get_or bytes k 0) ≡ get_or bytes k 0 = sym (get_or-set_same bytes k (suc (get_or bytes k 0)) 0 here) ∙ ap (λ (xs : List ℕ). get_or xs k 0) same in
      omega arith

  still_there : (k : ℕ) → k < length bytes → (k < length area.synced) × IsOutside k area.written
  still_there k here = elim (cases_lt k (length area.synced)) [
    | inl synced ↦ elim (outside_cases k area.written) [
      | inl out ↦ (synced, out)
      | inr touched ↦ absurd (not_free k here (λ _ out. touched out))
    ]
    | inr past ↦ absurd (not_free k here (λ synced _. absurd (omega arith)))
  ]

  still_area : IsStill area
  still_area = record {
    least = elim (cases_lt area.least (length bytes)) [
      | inl less ↦ absurd (not_less less)
      | inr enough ↦ let short = image.no_shorter in omega arith
    ];
    greatest = elim (cases_lt (length bytes) area.greatest) [
      | inl more ↦ absurd (not_more more)
      | inr enough ↦ let long = image.no_longer in omega arith
    ];
    there = still_there;
  }

pub rests_still : (areas : Areas) (area : ℕ) → IsAtRest areas area → IsStill (area_at area areas)
rests_still areas area rest = still_area (area_at area areas) rest.image rest.only

outside_more : (k : ℕ) (ranges : List Range) (range : Range) → IsOutside k ranges → (range.place ≤ k → range.place + range.size ≤ k) → IsOutside k (ranges ++ range ∷ [])
outside_more k [] range out apart = (apart, tt)
outside_more k (first ∷ ranges) range out apart = (out.0, outside_more k ranges range out.1 apart)

-- an image after a write was tried over an area at rest
module _ (areas : Areas) (area : ℕ) (rest : IsAtRest areas area) (range : Range) (new : Area) (tried : IsTried range (area_at area areas) new) (image : List ℕ) (is : IsImage new image) where
  abbrev old : Area
  old = area_at area areas

  pub tried_no_shorter : length old.contents ≤ length image
  tried_no_shorter = let still = rests_still areas area rest in omega (arith, is.no_shorter, tried.least, still.least)

  pub tried_no_longer : length image ≤ max (length old.contents) (range.place + range.size)
  tried_no_longer = let still = rests_still areas area rest in omega (arith, is.no_longer, tried.greatest, still.greatest)

  pub tried_outside : (k : ℕ) → k < length old.contents → (range.place ≤ k → range.place + range.size ≤ k) → get_or image k 0 ≡ get_or old.contents k 0
  tried_outside k here apart =
      let still = rests_still areas area rest in
      let out = still.there k here in
      let there : k < length image = omega (arith, tried_no_shorter) in
      is.outside k (subst (λ (xs : List ℕ). k < length xs) (sym tried.synced) out.0) there
      (subst (λ (ranges : List Range). IsOutside k ranges) (sym tried.written) (outside_more k old.written range out.1 apart))
      ∙ ap (λ (xs : List ℕ). get_or xs k 0) tried.synced
      ∙ sym (rest.image.outside k out.0 here out.1)
