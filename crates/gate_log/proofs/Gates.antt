-- What a gate byte says of the records from its place on, and which bytes the first records need.
use Rattle.std.proofs.Common.{◌≡◌, ◌≢◌, ◌⊎◌, inl, inr, ℕ, zero, suc, ◌+◌, ◌-◌, ◌*◌, ◌<◌, ◌≤◌, true, false, List, [], ◌∷◌, length, get_or, take, drop, refl, sym, ◌∙◌, ap, arith, length-take}
use Rattle.std.proofs.lemmas.List.{take-take, drop-drop, drop-take}
use Rattle.std.proofs.lemmas.Bool.{cases_lt, cases_eq}
use Rattle.std.proofs.lemmas.Bool.Decides.{nat_tests}
use Rattle.std.specs.Prelude.{◌==◌, ◌&&◌, nat_lt}
use Rattle.gate_log.specs.declared.scan.Gate.TheVariants.{Record, Closed, Open}
use Rattle.gate_log.specs.Records.{records}
use Rattle.gate_log.specs.Scanning.{gate_of}
use Rattle.gate_log.proofs.Scanning.{records-open, records-shut, records-few, gate_cases, opens, take_nil}

-- what the tests of a gate byte say
gate_of-cases : (size byte : ℕ) (bytes : List ℕ) → ((gate_of size (byte ∷ bytes) ≡ Record) × (byte ≡ 1) × (size < length bytes)) ⊎ (((gate_of size (byte ∷ bytes) ≡ Open) × (length bytes ≤ size)) ⊎ ((gate_of size (byte ∷ bytes) ≡ Closed) × (byte ≢ 1)))
gate_of-cases size byte bytes = elim (cases_eq byte 1) [
  | inl is ↦
      let test : (byte == 1) ≡ true = grind (arith, nat_tests) in
      elim (cases_lt size (length bytes)) [
        | inl long ↦ let more : nat_lt size (length bytes) ≡ true = grind (arith, nat_tests) in inl (rw (test, more), is, long)
        | inr few ↦ let less : nat_lt size (length bytes) ≡ false = grind (arith, nat_tests) in inr (inl (rw (test, less), few))
      ]
  | inr isnt ↦ let test : (byte == 1) ≡ false = grind (arith, nat_tests) in inr (inr (rw test, isnt))
]

pub gate_record : (size : ℕ) (bytes : List ℕ) → gate_of size bytes ≡ Record → records size bytes ≡ take size (drop 1 bytes) ∷ records size (drop (size + 1) bytes)
gate_record size [] is = cc
gate_record size (byte ∷ bytes) is = elim (gate_of-cases size byte bytes) [
  | inl found ↦ let next : size + 1 ≡ suc size = omega arith in rw next (records-open size byte bytes found.1 found.2)
  | inr others ↦ elim others [ inl few ↦ let other = few.0 in cc | inr shut ↦ let other = shut.0 in cc ]
]

pub gate_closed : (size : ℕ) (bytes : List ℕ) → gate_of size bytes ≡ Closed → (records size bytes ≡ []) × (0 < length bytes) × (get_or bytes 0 0 ≢ 1)
gate_closed size [] is = cc
gate_closed size (byte ∷ bytes) is = elim (gate_of-cases size byte bytes) [
  | inl found ↦ let other = found.0 in cc
  | inr others ↦ elim others [ inl few ↦ let other = few.0 in cc | inr shut ↦ (records-shut size byte bytes shut.1, omega arith, shut.1) ]
]

pub gate_open : (size : ℕ) (bytes : List ℕ) → gate_of size bytes ≡ Open → (records size bytes ≡ []) × (length bytes ≤ size + 1)
gate_open size [] is = (refl, omega arith)
gate_open size (byte ∷ bytes) is = elim (gate_of-cases size byte bytes) [
  | inl found ↦ let other = found.0 in cc
  | inr others ↦ elim others [ inl few ↦ let short = few.1 in (records-few size (byte ∷ bytes) (omega arith), omega arith) | inr shut ↦ let other = shut.0 in cc ]
]

-- no record, though a byte is there: it is an open gate
pub gate_unshut : (size : ℕ) (bytes : List ℕ) → gate_of size bytes ≡ Open → 0 < length bytes → get_or bytes 0 0 ≡ 1
gate_unshut size [] is some = absurd (omega arith)
gate_unshut size (byte ∷ bytes) is some = elim (cases_eq byte 1) [
  | inl one ↦ one
  | inr isnt ↦ let test : (byte == 1) ≡ false = grind (arith, nat_tests) in let shut : gate_of size (byte ∷ bytes) ≡ Closed = rw test in cc
]

-- a byte that opens no record opens none where fewer bytes are behind it
cut_short : (size byte : ℕ) (bytes : List ℕ) (m : ℕ) → (byte == 1 && nat_lt size (length bytes)) ≡ false → records size (byte ∷ take m bytes) ≡ []
cut_short size byte bytes m shut = elim (gate_cases size byte (take m bytes)) [
  | inl gate ↦
      let long : size < length bytes = let few = gate.1 in omega (arith, length-take m bytes) in
      let open_now = opens size byte bytes gate.0 long in
      let no : true ≡ false = sym open_now ∙ shut in cc
  | inr none ↦ rw none
]

-- the records from a record's place on are those that follow the first ones
pub drop_records : (size n : ℕ) (bytes : List ℕ) → n ≤ length (records size bytes) → drop n (records size bytes) ≡ records size (drop (n * (size + 1)) bytes)
drop_records size zero bytes within = let start : zero * (size + 1) ≡ zero = omega arith in rw start
drop_records size (suc n) [] within = absurd (omega arith)
drop_records size (suc n) (byte ∷ bytes) within = elim (gate_cases size byte bytes) [
  | inl gate ↦
      let whole = records-open size byte bytes gate.0 gate.1 in
      let count = ap length whole in
      let next : suc n * (size + 1) ≡ suc (size + n * (size + 1)) = omega arith in
      ap (λ (rs : List (List ℕ)). drop (suc n) rs) whole
      ∙ drop_records size n (drop size bytes) (omega arith)
      ∙ ap (λ (xs : List ℕ). records size xs) (drop-drop (n * (size + 1)) size bytes)
      ∙ sym (ap (λ (k : ℕ). records size (drop k (byte ∷ bytes))) next)
  | inr shut ↦ let none : records size (byte ∷ bytes) ≡ [] = rw shut in let count = ap length none in absurd (omega arith)
]

-- the first records need no bytes but their own and one more
pub front_records : (size most m : ℕ) (bytes : List ℕ) → most * (size + 1) + 1 ≤ m → take most (records size (take m bytes)) ≡ take most (records size bytes)
front_records size zero m bytes enough = refl
front_records size (suc most) m [] enough = ap (λ (xs : List ℕ). take (suc most) (records size xs)) (take_nil m)
front_records size (suc most) zero (byte ∷ bytes) enough = absurd (omega arith)
front_records size (suc most) (suc m) (byte ∷ bytes) enough = elim (gate_cases size byte bytes) [
  | inl gate ↦
      let long = gate.1 in
      let times : suc most * (size + 1) ≡ most * (size + 1) + (size + 1) = omega arith in
      let fits : size ≤ m = omega arith in
      let whole = records-open size byte bytes gate.0 gate.1 in
      let cut = records-open size byte (take m bytes) gate.0 (omega (arith, length-take m bytes)) in
      let first : take size (take m bytes) ≡ take size bytes = take-take size m bytes fits in
      let split : size + (m - size) ≡ m = omega arith in
      let back : drop size (take m bytes) ≡ take (m - size) (drop size bytes) = sym (ap (λ (k : ℕ). drop size (take k bytes)) split) ∙ drop-take size (m - size) bytes in
      let rest : take most (records size (drop size (take m bytes))) ≡ take most (records size (drop size bytes)) =
      ap (λ (xs : List ℕ). take most (records size xs)) back ∙ front_records size most (m - size) (drop size bytes) (omega arith) in
      ap (λ (rs : List (List ℕ)). take (suc most) rs) cut ∙ (λ i. first i ∷ rest i) ∙ sym (ap (λ (rs : List (List ℕ)). take (suc most) rs) whole)
  | inr shut ↦
      let none : records size (byte ∷ bytes) ≡ [] = rw shut in
      let cut : records size (byte ∷ take m bytes) ≡ [] = cut_short size byte bytes m shut in
      ap (λ (rs : List (List ℕ)). take (suc most) rs) (cut ∙ sym none)
]
