-- The blocks of HKDF-Expand, written one behind the other.
use Rattle.std.proofs.Common.{◌≡◌, ℕ, zero, suc, ◌+◌, ◌≤◌, ◌<◌, List, [], ◌∷◌, ◌++◌, length, take, drop, min, refl, ap, sym, ◌∙◌, ◌⊎◌, inl, inr, arith, append-nil, length-take, add-one}
use Rattle.std.proofs.lemmas.Bool.{cases_lt}
use Rattle.std.proofs.lemmas.List.{take_all, drop_all, take_at}
use Rattle.std.proofs.Math.Seq.{take-append-add}
use Rattle.prim_std.specs.Primitives.{hmac, hkdf_block, hkdf_blocks}

-- the next block, and one block more
pub hkdf_block-next : (prk info : List ℕ) (i : ℕ) → hkdf_block prk info (i + 1) ≡ hmac prk (hkdf_block prk info i ++ info ++ (i + 1) ∷ [])
unfolding hkdf_block
hkdf_block-next prk info i = rw add-one refl

pub hkdf_blocks-next : (prk info : List ℕ) (n : ℕ) → hkdf_blocks prk info (n + 1) ≡ hkdf_blocks prk info n ++ hkdf_block prk info (n + 1)
unfolding hkdf_blocks
hkdf_blocks-next prk info n = rw add-one refl

-- what is cut from the first part of a list is not seen where the whole is cut at the same length
pub take-take_append : (n : ℕ) (xs ys : List ℕ) → take n (take n xs ++ ys) ≡ take n (xs ++ ys)
take-take_append zero xs ys = refl
take-take_append (suc n) [] ys = refl
take-take_append (suc n) (x ∷ xs) ys = ap (λ (rest : List ℕ). x ∷ rest) (take-take_append n xs ys)

-- a block over the front of the rest, so much of it as fits
pub take-overwritten : (rest block : List ℕ) (n : ℕ) → length block ≡ 32 → n ≡ min (length rest) 32
    → take 32 (take n block ++ drop n rest) ≡ take (length rest) block
take-overwritten rest block n long count = by (cases_lt 32 (length rest))
  where
    by : ((32 < length rest) ⊎ (length rest ≤ 32)) → take 32 (take n block ++ drop n rest) ≡ take (length rest) block
    by (inl more) =
        let whole : n ≡ 32 = omega arith in
        let same : take n block ≡ block = take_all n block (omega arith) in
        rw same (take_at block (drop n rest) 32 long ∙ sym (take_all (length rest) block (omega arith)))
    by (inr fewer) =
        let all : n ≡ length rest = omega arith in
        rw (drop_all n rest (omega arith), append-nil (take n block))
        (take_all 32 (take n block) (omega (arith, length-take n block)) ∙ ap (λ (k : ℕ). take k block) all)

-- the same behind a front
pub take-put : (front rest block written : List ℕ) (at n all : ℕ) → length front ≡ at → at + length rest ≡ all
    → length block ≡ 32 → n ≡ min (length rest) 32 → written ≡ take n block
    → take (at + 32) (front ++ (written ++ drop n rest)) ≡ take all (front ++ block)
take-put front rest block written at n all behind whole long count wrote =
    rw (
      wrote,
      ← behind,
      ← whole,
      ← behind,
      take-append-add front (take n block ++ drop n rest) 32,
      take-append-add front block (length rest),
      take-overwritten rest block n long count,
    ) refl
