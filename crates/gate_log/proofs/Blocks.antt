-- Reading the records of an area block by block, and those of a block one by one.
use Rattle.std.proofs.Common.{◌≡◌, ◌≢◌, inl, inr, ℕ, zero, suc, ◌+◌, ◌-◌, ◌*◌, ◌≤◌, min, List, [], ◌∷◌, ◌++◌, length, take, drop, refl, sym, ◌∙◌, ap, arith, length-take, length-drop}
use Rattle.std.proofs.lemmas.List.{append-nil, append_assoc, take-take, take_all, drop-drop}
use Rattle.std.proofs.lemmas.List.Folds.{concat-append}
use Rattle.std.proofs.lemmas.Bool.{cases_lt}
use Rattle.std.specs.List.{concat}
use Rattle.gate_log.specs.declared.scan.Gate.{Gate}
use Rattle.gate_log.specs.declared.scan.Gate.TheVariants.{Record, Closed, Open}
use Rattle.gate_log.specs.Records.{records}
use Rattle.gate_log.specs.Scanning.{gate_of}
use Rattle.gate_log.proofs.Gates.{gate_record, gate_closed, gate_open, drop_records, front_records}

take_next : {A : Type 0} → (n : ℕ) (xs ys : List A) (y : A) → drop n xs ≡ y ∷ ys → take (n + 1) xs ≡ take n xs ++ y ∷ []
take_next zero xs ys y is = ap (λ zs. take 1 zs) is
take_next (suc n) [] ys y is = cc
take_next (suc n) (x ∷ xs) ys y is =
    let more : suc n + 1 ≡ suc (n + 1) = omega arith in
    ap (λ (k : ℕ). take k (x ∷ xs)) more ∙ ap (λ zs. x ∷ zs) (take_next n xs ys y is)

take_none : {A : Type 0} → (n : ℕ) → take {A = A} n [] ≡ []
take_none zero = refl
take_none (suc n) = refl

take_plus : {A : Type 0} → (m n : ℕ) (xs : List A) → take (m + n) xs ≡ take m xs ++ take n (drop m xs)
take_plus zero n xs = let start : zero + n ≡ n = omega arith in ap (λ (k : ℕ). take k xs) start
take_plus (suc m) n [] = take_none (suc m + n) ∙ sym (take_none n)
take_plus (suc m) n (x ∷ xs) =
    let more : suc m + n ≡ suc (m + n) = omega arith in
    ap (λ (k : ℕ). take k (x ∷ xs)) more ∙ ap (λ zs. x ∷ zs) (take_plus m n xs)

pub take_min : {A : Type 0} → (m : ℕ) (xs : List A) → take (min m (length xs)) xs ≡ take m xs
take_min m xs = elim (cases_lt m (length xs)) [
  | inl less ↦ let is : min m (length xs) ≡ m = omega arith in ap (λ (k : ℕ). take k xs) is
  | inr more ↦ let is : min m (length xs) ≡ length xs = omega arith in ap (λ (k : ℕ). take k xs) is ∙ take_all (length xs) xs (omega arith) ∙ sym (take_all m xs more)
]

concat-one : (xss : List (List ℕ)) (xs : List ℕ) → concat (xss ++ xs ∷ []) ≡ concat xss ++ xs
concat-one xss xs = concat-append xss (xs ∷ []) ∙ ap (λ (ys : List ℕ). concat xss ++ ys) (append-nil xs)

-- one record more, at the place behind the first n
module _ (size n : ℕ) (bytes rest : List ℕ) (there : n ≤ length (records size bytes)) (at : rest ≡ drop (n * (size + 1)) bytes) where
  left : drop n (records size bytes) ≡ records size rest
  left = drop_records size n bytes there ∙ sym (ap (λ (xs : List ℕ). records size xs) at)

  module _ (gate : gate_of size rest ≡ Record) where
    next : drop n (records size bytes) ≡ take size (drop 1 rest) ∷ records size (drop (size + 1) rest)
    next = left ∙ gate_record size rest gate

    pub more_there : n + 1 ≤ length (records size bytes)
    more_there = let count = ap length next in omega (arith, length-drop n (records size bytes))

    pub more_rest : drop (size + 1) rest ≡ drop ((n + 1) * (size + 1)) bytes
    more_rest =
        let place : n * (size + 1) + (size + 1) ≡ (n + 1) * (size + 1) = omega arith in
        ap (λ (xs : List ℕ). drop (size + 1) xs) at ∙ drop-drop (size + 1) (n * (size + 1)) bytes ∙ ap (λ (k : ℕ). drop k bytes) place

    pub more_found : (old found new : List ℕ) → found ≡ old ++ concat (take n (records size bytes)) → new ≡ found ++ take size (drop 1 rest) → new ≡ old ++ concat (take (n + 1) (records size bytes))
    more_found old found new so_far added =
        let one : List ℕ = take size (drop 1 rest) in
        added
        ∙ ap (λ (xs : List ℕ). xs ++ one) so_far
        ∙ append_assoc old (concat (take n (records size bytes))) one
        ∙ ap (λ (xs : List ℕ). old ++ xs) (sym (concat-one (take n (records size bytes)) one) ∙ sym (ap concat (take_next n (records size bytes) (records size (drop (size + 1) rest)) one next)))

  pub no_more : gate_of size rest ≢ Record → length (records size bytes) ≡ n
  no_more isnt = none_at (gate_of size rest) refl isnt
    where
      ended : records size rest ≡ [] → length (records size bytes) ≡ n
      ended none = let count = ap length (left ∙ none) in omega (arith, length-drop n (records size bytes), there)

      none_at : (gate : Gate) → gate_of size rest ≡ gate → gate ≢ Record → length (records size bytes) ≡ n
      none_at Record is isnt = absurd (isnt refl)
      none_at Closed is isnt = ended (gate_closed size rest is).0
      none_at Open is isnt = ended (gate_open size rest is).0

-- a block of the bytes behind the first `count` records
module _ (size count at m n : ℕ) (bytes piece : List ℕ) (there : count ≤ length (records size bytes)) (place : at ≡ count * (size + 1))
    (read : n ≡ min m (length bytes - at)) (is : piece ≡ take n (drop at bytes)) (long : 128 * (size + 1) + 1 ≤ m) where
  is_front : piece ≡ take m (drop at bytes)
  is_front =
      let same : n ≡ min m (length (drop at bytes)) = omega (arith, read, length-drop at bytes) in
      is ∙ ap (λ (k : ℕ). take k (drop at bytes)) same ∙ take_min m (drop at bytes)

  behind : take 128 (records size piece) ≡ take 128 (drop count (records size bytes))
  behind =
      ap (λ (xs : List ℕ). take 128 (records size xs)) is_front
      ∙ front_records size 128 m (drop at bytes) long
      ∙ ap (λ (k : ℕ). take 128 (records size (drop k bytes))) place
      ∙ sym (ap (λ (rs : List (List ℕ)). take 128 rs) (drop_records size count bytes there))

  pub block_count : (most taken : ℕ) → most ≤ 128 → taken ≡ min most (length (records size piece)) → taken ≡ min most (length (records size bytes) - count)
  block_count most taken few count_is =
      let same = ap length behind in
      omega (arith, count_is, length-take 128 (records size piece), length-take 128 (drop count (records size bytes)), length-drop count (records size bytes))

  pub block_found : (taken : ℕ) (old new : List ℕ) → taken ≤ 128 → old ≡ concat (take count (records size bytes)) → new ≡ old ++ concat (take taken (records size piece)) → new ≡ concat (take (count + taken) (records size bytes))
  block_found taken old new few so_far added =
      let all : List (List ℕ) = records size bytes in
      let cut : take taken (records size piece) ≡ take taken (drop count all) =
      sym (take-take taken 128 (records size piece) few) ∙ ap (λ (rs : List (List ℕ)). take taken rs) behind ∙ take-take taken 128 (drop count all) few in
      added
      ∙ (λ i. so_far i ++ concat (cut i))
      ∙ sym (concat-append (take count all) (take taken (drop count all)))
      ∙ sym (ap concat (take_plus count taken all))
