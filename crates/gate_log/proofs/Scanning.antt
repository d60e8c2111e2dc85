-- The records of bytes: those of a front and of what follows it, and where they end.
use Rattle.std.proofs.Common.{◌≡◌, ◌≢◌, ◌⊎◌, inl, inr, ℕ, zero, suc, ◌+◌, ◌*◌, ◌<◌, ◌≤◌, true, false, List, [], ◌∷◌, ◌++◌, length, take, drop, refl, sym, ◌∙◌, ap, arith, length-append, length-take, take-append-drop}
use Rattle.std.proofs.lemmas.List.{append-nil, take-append-le, take-take}
use Rattle.std.proofs.lemmas.Bool.{cases_lt, cases_eq}
use Rattle.std.proofs.lemmas.Bool.Decides.{nat_tests}
use Rattle.std.specs.Prelude.{◌==◌, ◌&&◌, nat_lt}
use Rattle.gate_log.specs.Records.{records_after, records, end_place}

-- skipped bytes are dropped
pub records_after-drop : (size skipped : ℕ) (bytes : List ℕ) → records_after size skipped bytes ≡ records_after size zero (drop skipped bytes)
records_after-drop size zero bytes = refl
records_after-drop size (suc skipped) [] = refl
records_after-drop size (suc skipped) (byte ∷ bytes) = records_after-drop size skipped bytes

pub opens : (size byte : ℕ) (bytes : List ℕ) → byte ≡ 1 → size < length bytes → (byte == 1 && nat_lt size (length bytes)) ≡ true
opens size byte bytes is long = grind (arith, nat_tests)

pub shuts : (size byte : ℕ) (bytes : List ℕ) → byte ≢ 1 → (byte == 1 && nat_lt size (length bytes)) ≡ false
shuts size byte bytes isnt = grind (arith, nat_tests)

pub short : (size byte : ℕ) (bytes : List ℕ) → length bytes ≤ size → (byte == 1 && nat_lt size (length bytes)) ≡ false
short size byte bytes few = grind (arith, nat_tests)

pub records-open : (size byte : ℕ) (bytes : List ℕ) → byte ≡ 1 → size < length bytes → records size (byte ∷ bytes) ≡ take size bytes ∷ records size (drop size bytes)
records-open size byte bytes is long = let test = opens size byte bytes is long in rw test (ap (λ (rs : List (List ℕ)). take size bytes ∷ rs) (records_after-drop size size bytes))

pub records-shut : (size byte : ℕ) (bytes : List ℕ) → byte ≢ 1 → records size (byte ∷ bytes) ≡ []
records-shut size byte bytes isnt = let test = shuts size byte bytes isnt in rw test

-- too few bytes for a record
pub records-few : (size : ℕ) (bytes : List ℕ) → length bytes ≤ size + 1 → records size bytes ≡ []
records-few size [] few = refl
records-few size (byte ∷ bytes) few = let test = short size byte bytes (omega arith) in rw test

-- a byte opens a record behind it, or not
pub gate_cases : (size byte : ℕ) (bytes : List ℕ) → ((byte ≡ 1) × (size < length bytes)) ⊎ ((byte == 1 && nat_lt size (length bytes)) ≡ false)
gate_cases size byte bytes = elim (cases_eq byte 1) [
  | inl is ↦ elim (cases_lt size (length bytes)) [ inl long ↦ inl (is, long) | inr few ↦ inr (short size byte bytes few) ]
  | inr isnt ↦ inr (shuts size byte bytes isnt)
]

-- the records end within the bytes
pub ends_within : (size skipped : ℕ) (bytes : List ℕ) → skipped ≤ length bytes → skipped + (size + 1) * length (records_after size skipped bytes) ≤ length bytes
ends_within size zero [] within = omega arith
ends_within size (suc skipped) [] within = absurd (omega arith)
ends_within size (suc skipped) (byte ∷ bytes) within = let rest = ends_within size skipped bytes (omega arith) in omega arith
ends_within size zero (byte ∷ bytes) within = elim (gate_cases size byte bytes) [
  | inl gate ↦
      let long = gate.1 in
      let rest = ends_within size size bytes (omega arith) in
      let whole : records size (byte ∷ bytes) ≡ take size bytes ∷ records_after size size bytes = let test = opens size byte bytes gate.0 gate.1 in rw test in
      let count : (size + 1) * length (records size (byte ∷ bytes)) ≡ (size + 1) * suc (length (records_after size size bytes)) = ap (λ (rs : List (List ℕ)). (size + 1) * length rs) whole in
      omega arith
  | inr shut ↦
      let whole : records size (byte ∷ bytes) ≡ [] = rw shut in
      let count : (size + 1) * length (records size (byte ∷ bytes)) ≡ (size + 1) * 0 = ap (λ (rs : List (List ℕ)). (size + 1) * length rs) whole in
      omega arith
]

pub take_nil : (n : ℕ) → take {A = ℕ} n [] ≡ []
take_nil zero = refl
take_nil (suc n) = refl

-- what stands before the end place, before other bytes: the same records, and those of the other bytes
front_keeps_after : (size skipped : ℕ) (bytes tail : List ℕ) → skipped ≤ length bytes → 0 < length tail
    → records_after size skipped (take (skipped + (size + 1) * length (records_after size skipped bytes)) bytes ++ tail) ≡ records_after size skipped bytes ++ records size tail
front_keeps_after size zero [] tail within some = ap (λ (xs : List ℕ). records size (xs ++ tail)) (take_nil (zero + (size + 1) * 0))
front_keeps_after size (suc skipped) [] tail within some = absurd (omega arith)
front_keeps_after size (suc skipped) (byte ∷ bytes) tail within some =
    let m = (size + 1) * length (records_after size skipped bytes) in
    let more : suc skipped + m ≡ suc (skipped + m) = omega arith in
    rw more (front_keeps_after size skipped bytes tail (omega arith) some)
front_keeps_after size zero (byte ∷ bytes) tail within some = elim (gate_cases size byte bytes) [
  | inl gate ↦
      let long = gate.1 in
      let rest : List (List ℕ) = records_after size size bytes in
      let m = size + (size + 1) * length rest in
      let front : List ℕ = take m bytes ++ tail in
      let room : size < length front = omega (arith, length-append (take m bytes) tail, length-take m bytes) in
      let whole : records size (byte ∷ bytes) ≡ take size bytes ∷ rest = let test = opens size byte bytes gate.0 gate.1 in rw test in
      let again : records size (byte ∷ front) ≡ take size front ∷ records_after size size front = let test = opens size byte front gate.0 room in rw test in
      let first : take size front ≡ take size bytes = take-append-le size (take m bytes) tail (omega (arith, length-take m bytes)) ∙ take-take size m bytes (omega arith) in
      let then : records_after size size front ≡ rest ++ records size tail = front_keeps_after size size bytes tail (omega arith) some in
      let times : (size + 1) * length (records size (byte ∷ bytes)) ≡ (size + 1) * suc (length rest) = ap (λ (rs : List (List ℕ)). (size + 1) * length rs) whole in
      let count : zero + (size + 1) * length (records size (byte ∷ bytes)) ≡ suc m = omega arith in
      ap (λ (k : ℕ). records size (take k (byte ∷ bytes) ++ tail)) count
      ∙ again
      ∙ (λ i. first i ∷ then i)
      ∙ sym (ap (λ (rs : List (List ℕ)). rs ++ records size tail) whole)
  | inr shut ↦
      let whole : records size (byte ∷ bytes) ≡ [] = rw shut in
      let times : (size + 1) * length (records size (byte ∷ bytes)) ≡ (size + 1) * 0 = ap (λ (rs : List (List ℕ)). (size + 1) * length rs) whole in
      let count : zero + (size + 1) * length (records size (byte ∷ bytes)) ≡ zero = omega arith in
      ap (λ (k : ℕ). records size (take k (byte ∷ bytes) ++ tail)) count ∙ sym (ap (λ (rs : List (List ℕ)). rs ++ records size tail) whole)
]

pub front_keeps : (size : ℕ) (bytes tail : List ℕ) → 0 < length tail → records size (take (end_place size bytes) bytes ++ tail) ≡ records size bytes ++ records size tail
front_keeps size bytes tail some =
    let place : end_place size bytes ≡ zero + (size + 1) * length (records size bytes) = omega arith in
    ap (λ (k : ℕ). records size (take k bytes ++ tail)) place ∙ front_keeps_after size zero bytes tail (omega arith) some

pub end_within : (size : ℕ) (bytes : List ℕ) → end_place size bytes ≤ length bytes
end_within size bytes = let within = ends_within size zero bytes (omega arith) in omega arith

-- other bytes that stand for nothing, from the end place on
pub tail_nothing : (size : ℕ) (bytes image : List ℕ) → take (end_place size bytes) image ≡ take (end_place size bytes) bytes → length bytes ≤ length image
    → records size (drop (end_place size bytes) image) ≡ [] → 0 < length (drop (end_place size bytes) image) → records size image ≡ records size bytes
tail_nothing size bytes image front longer none some =
    let p = end_place size bytes in
    let whole : image ≡ take p bytes ++ drop p image = sym (take-append-drop p image) ∙ ap (λ (xs : List ℕ). xs ++ drop p image) front in
    ap (λ (xs : List ℕ). records size xs) whole ∙ front_keeps size bytes (drop p image) some ∙ ap (λ (rs : List (List ℕ)). records size bytes ++ rs) none ∙ append-nil (records size bytes)
