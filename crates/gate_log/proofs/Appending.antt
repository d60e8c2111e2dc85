-- The records of an area as a record is appended, as the end is closed, and as the log is emptied.
use Rattle.std.proofs.Common.{◌≡◌, inl, inr, ℕ, suc, ◌+◌, ◌-◌, ◌*◌, ◌<◌, ◌≤◌, List, [], ◌∷◌, ◌++◌, length, get_or, take, drop, replicate, refl, sym, ◌∙◌, ap, arith, max, length-append, length-take, length-drop, take-append-drop}
use Rattle.std.proofs.lemmas.List.{append-nil, append_assoc, take-take, take_at, take_all, drop_at, drop_more, get_or-take, get_or-drop, get_or_at, length-take-le, drop-replicate}
use Rattle.std.proofs.lemmas.Bool.{cases_lt, cases_eq}
use Rattle.replay_disk.specs.Disk.{with_bytes}
use Rattle.gate_log.specs.Log.{IsOldOrWith, IsOldOrNone}
use Rattle.gate_log.specs.Scanning.{SameOutside}
use Rattle.gate_log.specs.Records.{records, end_place, with_records, IsClosed}
use Rattle.gate_log.proofs.Scanning.{records-open, records-shut, records-few, front_keeps, end_within, tail_nothing, gate_cases}

take_written : (place : ℕ) (bytes old : List ℕ) → place ≤ length old → take place (with_bytes place bytes old) ≡ take place old
take_written place bytes old within =
    let back : List ℕ = drop (place + length bytes) old in
    ap (λ (xs : List ℕ). take place xs) (append_assoc (take place old) bytes back) ∙ take_at (take place old) (bytes ++ back) place (length-take-le place old within)

drop_written : (place : ℕ) (bytes old : List ℕ) → place ≤ length old → drop place (with_bytes place bytes old) ≡ bytes ++ drop (place + length bytes) old
drop_written place bytes old within =
    let back : List ℕ = drop (place + length bytes) old in
    ap (λ (xs : List ℕ). drop place xs) (append_assoc (take place old) bytes back) ∙ drop_at (take place old) (bytes ++ back) place (length-take-le place old within)

-- a list from its front and the rest
joined : (place : ℕ) (image front back : List ℕ) → take place image ≡ front → drop place image ≡ back → image ≡ front ++ back
joined place image front back is_front is_back = sym (take-append-drop place image) ∙ (λ i. is_front i ++ is_back i)

shorter_front : (place more : ℕ) (image old : List ℕ) → place ≤ more → take more image ≡ take more old → take place image ≡ take place old
shorter_front place more image old le same = sym (take-take place more image le) ∙ ap (λ (xs : List ℕ). take place xs) same ∙ take-take place more old le

module _ (size : ℕ) (old bytes : List ℕ) (count : length bytes ≡ size) (closed : IsClosed size old) where
  abbrev place : ℕ
  place = end_place size old

  abbrev framed : List ℕ
  framed = bytes ++ 0 ∷ []

  abbrev staged : List ℕ
  staged = with_bytes (place + 1) framed old

  abbrev behind : List ℕ
  behind = framed ++ drop (place + 1 + length framed) old

  -- whatever stands behind the closed gate, the records stay
  pub behind_keeps : (image : List ℕ) → SameOutside (place + 1) (length framed) old image → records size image ≡ records size old
  behind_keeps image same =
      let there : place < length image = let h = closed.there in omega (arith, same.no_shorter) in
      let front = shorter_front place (place + 1) image old (omega arith) same.before in
      let gate : get_or image place 0 ≡ get_or old place 0 =
      sym (get_or-take (place + 1) image place 0 (omega arith)) ∙ ap (λ (xs : List ℕ). get_or xs place 0) same.before ∙ get_or-take (place + 1) old place 0 (omega arith) in
      let rest = drop_more image place 0 there in
      let none : records size (drop place image) ≡ [] =
      ap (λ (xs : List ℕ). records size xs) rest ∙ records-shut size (get_or image place 0) (drop (place + 1) image) (λ is. closed.shut (sym gate ∙ is)) in
      tail_nothing size old image front same.no_shorter none (omega (arith, length-drop place image))

  within : place + 1 ≤ length old
  within = let h = closed.there in omega arith

  staged_front : take place staged ≡ take place old
  staged_front = shorter_front place (place + 1) staged old (omega arith) (take_written (place + 1) framed old within)

  staged_behind : drop (place + 1) staged ≡ behind
  staged_behind = drop_written (place + 1) framed old within

  pub staged_long : place < length staged
  staged_long =
      omega (arith, within, length-append (take (place + 1) old ++ framed) (drop (place + 1 + length framed) old), length-append (take (place + 1) old) framed, length-take (place + 1) old)

  -- what the gate byte opens
  opened : (gate : ℕ) → gate ≡ 1 → records size (gate ∷ behind) ≡ bytes ∷ []
  opened gate is =
      let back : List ℕ = drop (place + 1 + length framed) old in
      let split : behind ≡ bytes ++ (0 ∷ back) = append_assoc bytes (0 ∷ []) back in
      let first : take size behind ≡ bytes = ap (λ (xs : List ℕ). take size xs) split ∙ take_at bytes (0 ∷ back) size count in
      let rest : records size (drop size behind) ≡ [] = ap (λ (xs : List ℕ). records size (drop size xs)) split ∙ ap (λ (xs : List ℕ). records size xs) (drop_at bytes (0 ∷ back) size count) in
      let long : size < length behind = omega (arith, length-append framed back, length-append bytes (0 ∷ []), count) in
      records-open size gate behind is long ∙ (λ i. first i ∷ rest i)

  records_at : (image : List ℕ) (gate : ℕ) → take place image ≡ take place old → drop place image ≡ gate ∷ behind → records size image ≡ records size old ++ records size (gate ∷ behind)
  records_at image gate front rest =
      ap (λ (xs : List ℕ). records size xs) (joined place image (take place old) (gate ∷ behind) front rest) ∙ front_keeps size old (gate ∷ behind) (omega arith)

  -- the gate byte torn or not: the record is there whole, or not at all
  pub gate_image : (image : List ℕ) → SameOutside place 1 staged image → IsOldOrWith (records size old) (bytes ∷ []) (records size image)
  gate_image image same =
      let there : place < length image = omega (arith, staged_long, same.no_shorter) in
      let gate = get_or image place 0 in
      let rest : drop place image ≡ gate ∷ behind = drop_more image place 0 there ∙ ap (λ (xs : List ℕ). gate ∷ xs) (same.after ∙ staged_behind) in
      let is = records_at image gate (same.before ∙ staged_front) rest in
      elim (cases_eq gate 1) [
        | inl one ↦ inr (is ∙ ap (λ (rs : List (List ℕ)). records size old ++ rs) (opened gate one))
        | inr other ↦ inl (is ∙ ap (λ (rs : List (List ℕ)). records size old ++ rs) (records-shut size gate behind other) ∙ append-nil (records size old))
      ]

  abbrev written : List ℕ
  written = with_bytes place (1 ∷ []) staged

  written_front : take place written ≡ take place old
  written_front = take_written place (1 ∷ []) staged (omega (arith, staged_long)) ∙ staged_front

  written_rest : drop place written ≡ 1 ∷ behind
  written_rest = drop_written place (1 ∷ []) staged (omega (arith, staged_long)) ∙ ap (λ (xs : List ℕ). 1 ∷ xs) staged_behind

  -- both writes together: an open gate, the record and a closed gate
  pub written_is : written ≡ with_records size (bytes ∷ []) old
  written_is =
      let from : place + 1 + length framed ≡ place + length (1 ∷ framed) = omega arith in
      joined place written (take place old) (1 ∷ behind) written_front written_rest
      ∙ ap (λ (n : ℕ). take place old ++ ((1 ∷ framed) ++ drop n old)) from
      ∙ sym (append_assoc (take place old) (1 ∷ framed) (drop (place + length (1 ∷ framed)) old))

  pub records-written : records size written ≡ records size old ++ bytes ∷ []
  records-written = records_at written 1 written_front written_rest ∙ ap (λ (rs : List (List ℕ)). records size old ++ rs) (opened 1 refl)

  pub closed-written : IsClosed size written
  closed-written =
      let back : List ℕ = drop (place + 1 + length framed) old in
      let more : length (records size written) ≡ length (records size old) + 1 = ap length records-written ∙ length-append (records size old) (bytes ∷ []) in
      let times : (size + 1) * length (records size written) ≡ (size + 1) * (length (records size old) + 1) = ap (λ (n : ℕ). (size + 1) * n) more in
      let end : end_place size written ≡ place + (size + 1) = omega arith in
      let split : behind ≡ bytes ++ (0 ∷ back) = append_assoc bytes (0 ∷ []) back in
      let long : length (drop place written) ≡ suc (length behind) = ap length written_rest in
      let size_behind : size < length behind = omega (arith, length-append framed back, length-append bytes (0 ∷ []), count) in
      let next : place + (size + 1) ≡ place + suc size = omega arith in
      let at : get_or written (place + (size + 1)) 0 ≡ 0 =
      ap (λ (n : ℕ). get_or written n 0) next ∙ sym (get_or-drop place written (suc size) 0) ∙ ap (λ (xs : List ℕ). get_or xs (suc size) 0) written_rest
      ∙ ap (λ (xs : List ℕ). get_or xs size 0) split ∙ get_or_at bytes 0 back 0 size count in
      record {
        there = omega (arith, length-drop place written);
        shut = λ is. let one : 0 ≡ 1 = sym at ∙ sym (ap (λ (n : ℕ). get_or written n 0) end) ∙ is in cc;
      }

-- An end that isn't closed: one byte there, torn or not, makes no record.
module _ (size : ℕ) (old : List ℕ) (few : length old ≤ end_place size old + size + 1) where
  abbrev end : ℕ
  end = end_place size old

  pub end_keeps : (image : List ℕ) → SameOutside end 1 old image → records size image ≡ records size old
  end_keeps image same =
      let rest = ap length same.after in
      let long : length image ≤ max (length old) (end + 1) = omega (arith, length-drop (end + 1) image, length-drop (end + 1) old) in
      elim (cases_lt end (length image)) [
        | inl there ↦
            tail_nothing size old image same.before same.no_shorter (records-few size (drop end image) (omega (arith, length-drop end image))) (omega (arith, length-drop end image))
        | inr ended ↦
            let all : image ≡ old = sym (take_all end image ended) ∙ same.before ∙ take_all end old (omega (arith, same.no_shorter)) in
            ap (λ (xs : List ℕ). records size xs) all
      ]

  abbrev shut_end : List ℕ
  shut_end = with_bytes end (0 ∷ []) old

  pub shut_same : SameOutside end 1 old shut_end
  shut_same =
      let within = end_within size old in record {
        before = take_written end (0 ∷ []) old within;
        after = drop_past shut_end;
        no_shorter = omega (arith, length-append (take end old ++ 0 ∷ []) (drop (end + 1) old), length-append (take end old) (0 ∷ []), length-take end old, length-drop (end + 1) old);
      }
    where
      drop_past : (xs : List ℕ) → drop (end + 1) shut_end ≡ drop (end + 1) old
      drop_past xs = drop_at (take end old ++ 0 ∷ []) (drop (end + 1) old) (end + 1) (let within = end_within size old in omega (arith, length-append (take end old) (0 ∷ []), length-take end old))

  pub closed-shut : IsClosed size shut_end
  closed-shut =
      let within = end_within size old in
      let rest : drop end shut_end ≡ 0 ∷ drop (end + 1) old = drop_written end (0 ∷ []) old within in
      let long = ap length rest in
      let same = end_keeps shut_end shut_same in
      let place : end_place size shut_end ≡ end = ap (λ (rs : List (List ℕ)). (size + 1) * length rs) same in
      let from : end + 0 ≡ end = omega arith in
      let at : get_or shut_end end 0 ≡ 0 = sym (ap (λ (n : ℕ). get_or shut_end n 0) from) ∙ sym (get_or-drop end shut_end 0 0) ∙ ap (λ (xs : List ℕ). get_or xs 0 0) rest in
      record {
        there = omega (arith, length-drop end shut_end);
        shut = λ is. let one : 0 ≡ 1 = sym at ∙ sym (ap (λ (n : ℕ). get_or shut_end n 0) place) ∙ is in cc;
      }

-- The first byte of a log with a record, torn or not: the records stay, or there is none.
pub reset_image : (size : ℕ) (old image : List ℕ) → 0 < length (records size old) → SameOutside 0 1 old image → IsOldOrNone (records size old) (records size image)
reset_image size [] image some same = absurd (omega arith)
reset_image size (byte ∷ bytes) [] some same = let h = same.no_shorter in absurd (omega arith)
reset_image size (byte ∷ bytes) (first ∷ rest) some same = elim (gate_cases size byte bytes) [
  | inl gate ↦
      let back : rest ≡ bytes = same.after in
      elim (cases_eq first 1) [
        | inl one ↦ inl (λ i. records size ((one ∙ sym gate.0) i ∷ back i))
        | inr other ↦ inr (records-shut size first rest other)
      ]
  | inr shut ↦ let none : records size (byte ∷ bytes) ≡ [] = rw shut in let h = ap length none in absurd (omega arith)
]

pub closed-reset : (size : ℕ) (bytes : List ℕ) → IsClosed size (0 ∷ bytes)
closed-reset size bytes =
    let end : end_place size (0 ∷ bytes) ≡ 0 = omega arith in
    record {
      there = omega arith;
      shut = λ is. let one : 0 ≡ 1 = sym (ap (λ (n : ℕ). get_or (0 ∷ bytes) n 0) end) ∙ is in cc;
    }

-- bytes in front of closed gates: the first of these is the one behind them
pub framed_is : (copied bytes gates : List ℕ) (size : ℕ) → copied ≡ bytes → size ≡ length bytes → size ≤ 63 → gates ≡ replicate 64 0 → take (size + 1) (copied ++ drop size gates) ≡ bytes ++ 0 ∷ []
framed_is copied bytes gates size is_copied is_size short is_gates =
    let left : 64 - size ≡ suc (63 - size) = omega arith in
    let back : drop size gates ≡ 0 ∷ replicate (63 - size) 0 = ap (λ (xs : List ℕ). drop size xs) is_gates ∙ drop-replicate size 64 0 ∙ ap (λ (n : ℕ). replicate {A = ℕ} n 0) left in
    ap (λ (xs : List ℕ). take (size + 1) (xs ++ drop size gates)) is_copied
    ∙ ap (λ (xs : List ℕ). take (size + 1) (bytes ++ xs)) back
    ∙ ap (λ (xs : List ℕ). take (size + 1) xs) (sym (append_assoc bytes (0 ∷ []) (replicate (63 - size) 0)))
    ∙ take_at (bytes ++ 0 ∷ []) (replicate (63 - size) 0) (size + 1) (omega (arith, length-append bytes (0 ∷ [])))
