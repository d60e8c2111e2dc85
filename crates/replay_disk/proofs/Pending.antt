-- The pending writes of an area: where they end, and their ranges, as writes come and go.
use Rattle.std.proofs.Common.{◌≡◌, ◌≢◌, inl, inr, ℕ, zero, suc, ◌+◌, ◌<◌, ◌≤◌, true, false, cond, List, [], ◌∷◌, ◌++◌, length, drop, refl, ap, arith, eq-eqb}
use Rattle.std.proofs.lemmas.List.{drop_more}
use Rattle.std.proofs.lemmas.Bool.{cases_eq}
use Rattle.std.proofs.lemmas.Bool.Decides.{nat_tests}
use Rattle.std.specs.Prelude.{◌==◌, not}
use Rattle.replay_disk.specs.Disk.{Range}
use Rattle.replay_disk.specs.Kept.{write_at, ranges_of}
use Rattle.replay_disk.specs.MemoryRack.{Write, without_area, picked}
use Rattle.replay_disk.specs.MemoryDisk.{EndBy}

-- a write of the area ends by the limit
pub ends_at : (area limit i : ℕ) (writes : List Write) → EndBy area limit writes → i < length writes → (write_at i writes).area ≡ area → (write_at i writes).place + length (write_at i writes).bytes ≤ limit
ends_at area limit i [] ends within of = absurd (omega arith)
ends_at area limit zero (write ∷ writes) ends within of = ends.0 of
ends_at area limit (suc i) (write ∷ writes) ends within of = ends_at area limit i writes ends.1 (omega arith) of

pub EndBy-weaken : (area limit more : ℕ) (writes : List Write) → limit ≤ more → EndBy area limit writes → EndBy area more writes
EndBy-weaken area limit more [] le ends = tt
EndBy-weaken area limit more (write ∷ writes) le ends = ((λ of. let h = ends.0 of in omega arith), EndBy-weaken area limit more writes le ends.1)

-- a write of the area adds its range
pub ranges_of-push : (area place : ℕ) (bytes : List ℕ) (writes : List Write)
    → ranges_of area (writes ++ (record { area = area; place = place; bytes = bytes }) ∷ []) ≡ ranges_of area writes ++ (record { place = place; size = length bytes }) ∷ []
ranges_of-push area place bytes [] = let test : (area == area) ≡ true = eq-eqb area area refl in rw test
ranges_of-push area place bytes (first ∷ writes) =
    let rest = ranges_of-push area place bytes writes in
    let range : Range = record { place = first.place; size = length first.bytes } in
    let more : List Range = ranges_of area writes in
    let last : List Range = (record { place = place; size = length bytes }) ∷ [] in
    let all : List Range = ranges_of area (writes ++ (record { area = area; place = place; bytes = bytes }) ∷ []) in
    elim (first.area == area) as (λ b. cond b (range ∷ all) all ≡ cond b (range ∷ more) more ++ last) [ true ↦ ap (λ (rs : List Range). range ∷ rs) rest | false ↦ rest ]

-- one of another area doesn't
pub ranges_of-push_other : (area other place : ℕ) (bytes : List ℕ) (writes : List Write) → other ≢ area
    → ranges_of area (writes ++ (record { area = other; place = place; bytes = bytes }) ∷ []) ≡ ranges_of area writes
ranges_of-push_other area other place bytes [] apart = let test : (other == area) ≡ false = grind (arith, nat_tests) in rw test
ranges_of-push_other area other place bytes (first ∷ writes) apart =
    let rest = ranges_of-push_other area other place bytes writes apart in
    let range : Range = record { place = first.place; size = length first.bytes } in
    let more : List Range = ranges_of area writes in
    let all : List Range = ranges_of area (writes ++ (record { area = other; place = place; bytes = bytes }) ∷ []) in
    elim (first.area == area) as (λ b. cond b (range ∷ all) all ≡ cond b (range ∷ more) more) [ true ↦ ap (λ (rs : List Range). range ∷ rs) rest | false ↦ rest ]

pub EndBy-push : (area limit : ℕ) (writes : List Write) (write : Write) → (write.area ≡ area → write.place + length write.bytes ≤ limit) → EndBy area limit writes → EndBy area limit (writes ++ write ∷ [])
EndBy-push area limit [] write here ends = (here, tt)
EndBy-push area limit (first ∷ writes) write here ends = (ends.0, EndBy-push area limit writes write here ends.1)

pub EndBy-without : (area limit gone : ℕ) (writes : List Write) → EndBy area limit writes → EndBy area limit (without_area gone writes)
EndBy-without area limit gone [] ends = tt
EndBy-without area limit gone (write ∷ writes) ends =
    let kept : List Write = without_area gone writes in
    let rest : EndBy area limit kept = EndBy-without area limit gone writes ends.1 in
    elim (write.area == gone) as (λ b. EndBy area limit (cond (not b) (write ∷ kept) kept)) [ true ↦ rest | false ↦ (ends.0, rest) ]

-- the area whose writes have gone has none
pub EndBy-gone : (area limit : ℕ) (writes : List Write) → EndBy area limit (without_area area writes)
EndBy-gone area limit [] = tt
EndBy-gone area limit (write ∷ writes) =
    let kept : List Write = without_area area writes in
    let rest : EndBy area limit kept = EndBy-gone area limit writes in
    elim (cases_eq write.area area) [
      | inl of ↦ let test : (write.area == area) ≡ true = eq-eqb write.area area of in rw test rest
      | inr apart ↦ let test : (write.area == area) ≡ false = grind (arith, nat_tests) in rw test ((λ of. absurd (apart of)), rest)
    ]

pub ranges_of-gone : (area : ℕ) (writes : List Write) → ranges_of area (without_area area writes) ≡ []
ranges_of-gone area [] = refl
ranges_of-gone area (write ∷ writes) =
    let rest = ranges_of-gone area writes in
    elim (cases_eq write.area area) [
      | inl of ↦ let test : (write.area == area) ≡ true = eq-eqb write.area area of in rw test rest
      | inr apart ↦ let test : (write.area == area) ≡ false = grind (arith, nat_tests) in rw (test, test) rest
    ]

pub ranges_of-without : (area gone : ℕ) (writes : List Write) → area ≢ gone → ranges_of area (without_area gone writes) ≡ ranges_of area writes
ranges_of-without area gone [] apart = refl
ranges_of-without area gone (write ∷ writes) apart =
    let rest = ranges_of-without area gone writes apart in
    elim (cases_eq write.area gone) [
      | inl of ↦
          let test : (write.area == gone) ≡ true = eq-eqb write.area gone of in
          let other : (write.area == area) ≡ false = grind (arith, nat_tests) in
          rw (test, other) rest
      | inr stays ↦
          let test : (write.area == gone) ≡ false = grind (arith, nat_tests) in
          let range : Range = record { place = write.place; size = length write.bytes } in
          let kept : List Range = ranges_of area (without_area gone writes) in
          let more : List Range = ranges_of area writes in
          rw test (elim (write.area == area) as (λ b. cond b (range ∷ kept) kept ≡ cond b (range ∷ more) more) [ true ↦ ap (λ (rs : List Range). range ∷ rs) rest | false ↦ rest ])
    ]
