-- Bytes laid at a place of a list: what stands there then, and how long it is.
use Rattle.std.proofs.Common.{◌≡◌, ℕ, ◌+◌, ◌-◌, ◌/◌, ◌≤◌, List, ◌++◌, length, take, drop, sym, ◌∙◌, ap, inl, inr, arith, length-append, length-drop, length-take, replicate}
use Rattle.std.proofs.lemmas.List.{append-nil, append_assoc, take_at, drop_at, take-append-drop, take-append-le, drop_all, length-replicate}
use Rattle.std.proofs.lemmas.Bool.{cases_lt}
use Rattle.replay_disk.specs.Disk.{with_bytes}
use Rattle.replay_disk.specs.MemoryRack.{laid, torn}

-- what is filled up to a place has nothing past it but what was there
pub drop_filled : (old : List ℕ) (end fill : ℕ) → drop end (old ++ replicate (end - length old) fill) ≡ drop end old
drop_filled old end fill = elim (cases_lt (length old) end) [
  | inl short ↦ drop_all end (old ++ replicate (end - length old) fill) (omega (arith, length-append old (replicate (end - length old) fill), length-replicate (end - length old) fill)) ∙ sym (drop_all end old (omega arith))
  | inr long ↦ let none : end - length old ≡ 0 = omega arith in rw (none, append-nil old)
]

-- other bytes, as many, in the place of some in the middle
overlaid : (front kept old new back : List ℕ) (place : ℕ) → place ≡ length front + length kept → length new ≡ length old
    → with_bytes place new (front ++ (kept ++ old) ++ back) ≡ front ++ (kept ++ new) ++ back
overlaid front kept old new back place at same =
    let before : front ++ (kept ++ old) ++ back ≡ (front ++ kept) ++ (old ++ back) = simp append_assoc in
    let all : front ++ (kept ++ old) ++ back ≡ ((front ++ kept) ++ old) ++ back = simp append_assoc in
    let first : take place (front ++ (kept ++ old) ++ back) ≡ front ++ kept =
    ap (λ (xs : List ℕ). take place xs) before ∙ take_at (front ++ kept) (old ++ back) place (omega (arith, length-append front kept)) in
    let last : drop (place + length new) (front ++ (kept ++ old) ++ back) ≡ back =
    ap (λ (xs : List ℕ). drop (place + length new) xs) all ∙ drop_at ((front ++ kept) ++ old) back (place + length new) (omega (arith, length-append front kept, length-append (front ++ kept) old)) in
    (λ i. first i ++ new ++ last i) ∙ simp append_assoc

pub length-torn : (bytes : List ℕ) → length (torn bytes) ≡ length bytes
length-torn bytes =
    omega (arith, length-append (take (length bytes / 2) bytes) (replicate (length bytes - length bytes / 2) 0x7f), length-take (length bytes / 2) bytes, length-replicate {A = ℕ} (length bytes - length bytes / 2) 0x7f)

-- the second half of laid bytes, laid over
pub torn_over : (place from to : ℕ) (bytes old : List ℕ) → place + length bytes ≤ length old → from ≡ place + length bytes / 2 → to ≡ place + length bytes
    → with_bytes from (replicate (to - from) 0x7f) (with_bytes place bytes old) ≡ with_bytes place (torn bytes) old
torn_over place from to bytes old within is_from is_to =
    let half = length bytes / 2 in
    let rest : List ℕ = replicate (length bytes - half) 0x7f in
    let front : List ℕ = take place old in
    let back : List ℕ = drop (place + length bytes) old in
    let count : to - from ≡ length bytes - half = omega arith in
    let parts : front ++ bytes ++ back ≡ front ++ (take half bytes ++ drop half bytes) ++ back = ap (λ (xs : List ℕ). front ++ xs ++ back) (sym (take-append-drop half bytes)) in
    let end : drop (place + length (torn bytes)) old ≡ back = ap (λ (n : ℕ). drop (place + n) old) (length-torn bytes) in
    ap (λ (n : ℕ). with_bytes from (replicate n 0x7f) (front ++ bytes ++ back)) count
    ∙ ap (λ (xs : List ℕ). with_bytes from rest xs) parts
    ∙ overlaid front (take half bytes) (drop half bytes) rest back from (omega (arith, length-take place old, length-take half bytes)) (omega (arith, length-replicate {A = ℕ} (length bytes - half) 0x7f, length-drop half bytes))
    ∙ ap (λ (xs : List ℕ). front ++ torn bytes ++ xs) (sym end)
