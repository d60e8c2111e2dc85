-- Writes that are tried, done or laid keep what stands outside them, so images stay images.
use Rattle.std.proofs.Common.{◌≡◌, inl, inr, ℕ, zero, suc, ◌+◌, ◌-◌, ◌/◌, ◌%◌, ◌<◌, ◌≤◌, Bool, true, false, List, [], ◌∷◌, ◌++◌, length, get_or, take, drop, replicate, refl, sym, ◌∙◌, ap, subst, arith, max, length-append, length-drop, length-take, eq-eqb}
use Rattle.std.proofs.lemmas.List.{length-replicate, get_or_append_left, get_or-append_right, get_or-take, get_or-drop, length-take-le}
use Rattle.std.proofs.lemmas.Bool.{cases_lt, cases_eq}
use Rattle.std.proofs.lemmas.Bool.Decides.{nat_tests}
use Rattle.std.specs.Prelude.{slice_index, ◌==◌}
use Rattle.replay_disk.specs.Disk.{Range, Area, IsOutside, IsImage, IsTried, with_bytes}
use Rattle.replay_disk.specs.Kept.{Buffer, ranges_of}
use Rattle.replay_disk.specs.MemoryRack.{Write, laid, laid_by, torn, picked}
use Rattle.replay_disk.specs.MemoryDisk.{EndBy, IsWritten, area_of}
use Rattle.replay_disk.proofs.Laying.{length-torn}
use Rattle.replay_disk.proofs.Pending.{ranges_of-push}

pub length-with_bytes : (place : ℕ) (bytes old : List ℕ) → place ≤ length old → length (with_bytes place bytes old) ≡ max (length old) (place + length bytes)
length-with_bytes place bytes old within =
    omega (arith, length-append (take place old ++ bytes) (drop (place + length bytes) old), length-append (take place old) bytes, length-take place old, length-drop (place + length bytes) old)

-- a place before the bytes or past them has what it had
pub with_bytes-outside : (place : ℕ) (bytes old : List ℕ) (k : ℕ) → place ≤ length old → k < length old → (place ≤ k → place + length bytes ≤ k)
    → slice_index (with_bytes place bytes old) k ≡ slice_index old k
with_bytes-outside place bytes old k within here outside = elim (cases_lt k place) [
  | inl before ↦
      let front : length (take place old) ≡ place = length-take-le place old within in
      let first : get_or (take place old ++ bytes ++ drop (place + length bytes) old) k 0 ≡ get_or (take place old ++ bytes) k 0 =
      get_or_append_left (take place old ++ bytes) (drop (place + length bytes) old) 0 k (omega (arith, length-append (take place old) bytes)) in
      first ∙ get_or_append_left (take place old) bytes 0 k (omega arith) ∙ get_or-take place old k 0 before
  | inr past ↦
      let end : place + length bytes ≤ k = outside past in
      let front : length (take place old) ≡ place = length-take-le place old within in
      let size : length (take place old ++ bytes) ≡ place + length bytes = omega (arith, length-append (take place old) bytes) in
      let same : place + length bytes + (k - (place + length bytes)) ≡ k = omega arith in
      get_or-append_right (take place old ++ bytes) (drop (place + length bytes) old) (place + length bytes) k 0 size end
      ∙ get_or-drop (place + length bytes) old (k - (place + length bytes)) 0
      ∙ ap (λ (n : ℕ). get_or old n 0) same
]

pub length-laid : (fill place : ℕ) (bytes old : List ℕ) → length (laid fill place bytes old) ≡ max (length old) (place + length bytes)
length-laid fill place bytes old =
    let count : length (old ++ replicate (place + length bytes - length old) fill) ≡ length old + (place + length bytes - length old) =
    length-append old (replicate (place + length bytes - length old) fill) ∙ ap (λ (n : ℕ). length old + n) (length-replicate (place + length bytes - length old) fill) in
    omega (arith, length-with_bytes place bytes (old ++ replicate (place + length bytes - length old) fill) (omega arith))

pub laid-outside : (fill place : ℕ) (bytes old : List ℕ) (k : ℕ) → k < length old → (place ≤ k → place + length bytes ≤ k) → slice_index (laid fill place bytes old) k ≡ slice_index old k
laid-outside fill place bytes old k here outside =
    let more : List ℕ = replicate (place + length bytes - length old) fill in
    let count : length (old ++ more) ≡ length old + (place + length bytes - length old) =
    length-append old more ∙ ap (λ (n : ℕ). length old + n) (length-replicate (place + length bytes - length old) fill) in
    with_bytes-outside place bytes (old ++ more) k (omega arith) (omega arith) outside ∙ get_or_append_left old more 0 k here

IsOutside-split : (k : ℕ) (rs : List Range) (r : Range) → IsOutside k (rs ++ r ∷ []) → IsOutside k rs × IsOutside k (r ∷ [])
IsOutside-split k [] r out = (tt, out)
IsOutside-split k (first ∷ rs) r out = let rest = IsOutside-split k rs r out.1 in ((out.0, rest.0), rest.1)

-- after a write that was tried, the contents are still an image
pub image_tried : (range : Range) (old new : Area) → length old.synced ≤ old.least → IsImage old old.contents → IsTried range old new → IsImage new new.contents
image_tried range old new least image tried = record {
  no_shorter = omega (arith, image.no_shorter, tried.least, tried.no_shorter);
  no_longer = omega (arith, image.no_longer, tried.greatest, tried.no_longer);
  outside = λ k synced here out.
      let apart = IsOutside-split k old.written range (subst (λ rs. IsOutside k rs) tried.written out) in
      let was : k < length old.synced = subst (λ (xs : List ℕ). k < length xs) tried.synced synced in
      let there : k < length old.contents = omega (arith, image.no_shorter) in
      tried.outside k there apart.1 ∙ image.outside k was there apart.0 ∙ ap (λ (xs : List ℕ). slice_index xs k) (sym tried.synced);
}

-- a write in the bytes of an area is one that was tried
pub tried_written : (area place : ℕ) (bytes : List ℕ) (done : Bool) (writes : List Write) (old new : Buffer) → place ≤ length old.contents → IsWritten place bytes done old new
    → IsTried (record { place = place; size = length bytes }) (area_of area writes old) (area_of area (writes ++ (record { area = area; place = place; bytes = bytes }) ∷ []) new)
tried_written area place bytes true writes old new within written = record {
  written = ranges_of-push area place bytes writes;
  synced = written.synced;
  least = ap length written.synced;
  greatest = written.greatest;
  no_shorter = omega (arith, ap length written.contents, length-with_bytes place bytes old.contents within);
  no_longer = omega (arith, ap length written.contents, length-with_bytes place bytes old.contents within);
  outside = λ k here out. ap (λ (xs : List ℕ). slice_index xs k) written.contents ∙ with_bytes-outside place bytes old.contents k within here out.0;
}
tried_written area place bytes false writes old new within written = record {
  written = ranges_of-push area place bytes writes;
  synced = written.synced;
  least = ap length written.synced;
  greatest = written.greatest;
  no_shorter = omega (arith, ap length written.contents);
  no_longer = omega (arith, ap length written.contents);
  outside = λ k here out. ap (λ (xs : List ℕ). slice_index xs k) written.contents;
}

-- bytes that a crash may leave, where a place that has Out was not written
pub record IsLeft (Out : ℕ → Type 0) (synced : List ℕ) (greatest : ℕ) (image : List ℕ) : Type 0 where
  pub no_shorter : length synced ≤ length image
  pub no_longer : length image ≤ greatest
  pub same : (k : ℕ) → k < length synced → Out k → slice_index image k ≡ slice_index synced k

left_laid : (Out : ℕ → Type 0) (synced image : List ℕ) (greatest fill place : ℕ) (bytes : List ℕ) → place + length bytes ≤ greatest
    → ((k : ℕ) → Out k → place ≤ k → place + length bytes ≤ k) → IsLeft Out synced greatest image → IsLeft Out synced greatest (laid fill place bytes image)
left_laid Out synced image greatest fill place bytes ends apart left = record {
  no_shorter = omega (arith, length-laid fill place bytes image, left.no_shorter);
  no_longer = omega (arith, length-laid fill place bytes image, left.no_longer);
  same = λ k here out. laid-outside fill place bytes image k (omega (arith, left.no_shorter)) (apart k out) ∙ left.same k here out;
}

left_laid_by : (Out : ℕ → Type 0) (synced image : List ℕ) (greatest digit : ℕ) (write : Write) → write.place + length write.bytes ≤ greatest
    → ((k : ℕ) → Out k → write.place ≤ k → write.place + length write.bytes ≤ k) → IsLeft Out synced greatest image → IsLeft Out synced greatest (laid_by digit write image)
left_laid_by Out synced image greatest zero write ends apart left = left
left_laid_by Out synced image greatest (suc zero) write ends apart left = left_laid Out synced image greatest 0x7f write.place write.bytes ends apart left
left_laid_by Out synced image greatest (suc (suc n)) write ends apart left =
    let size = length-torn write.bytes in
    left_laid Out synced image greatest 0x7f write.place (torn write.bytes) (omega (arith, size)) (λ k out past. let end = apart k out past in omega (arith, size)) left

-- what a pick leaves is such bytes
pub left_picked : (Out : ℕ → Type 0) (area pick : ℕ) (writes : List Write) (synced image : List ℕ) (greatest : ℕ) → EndBy area greatest writes
    → ((k : ℕ) → Out k → IsOutside k (ranges_of area writes)) → IsLeft Out synced greatest image → IsLeft Out synced greatest (picked area pick writes image)
left_picked Out area pick [] synced image greatest ends apart left = left
left_picked Out area pick (write ∷ writes) synced image greatest ends apart left = elim (cases_eq write.area area) [
  | inl of ↦
      let test : (write.area == area) ≡ true = eq-eqb write.area area of in
      let ranges : ranges_of area (write ∷ writes) ≡ (record { place = write.place; size = length write.bytes }) ∷ ranges_of area writes = rw test in
      let far : (k : ℕ) → Out k → IsOutside k ((record { place = write.place; size = length write.bytes }) ∷ ranges_of area writes) = λ k out. subst (λ rs. IsOutside k rs) ranges (apart k out) in
      rw test (left_picked Out area (pick / 3) writes synced (laid_by (pick % 3) write image) greatest ends.1 (λ k out. (far k out).1)
      (left_laid_by Out synced image greatest (pick % 3) write (ends.0 of) (λ k out. (far k out).0) left))
  | inr other ↦
      let test : (write.area == area) ≡ false = grind (arith, nat_tests) in
      let ranges : ranges_of area (write ∷ writes) ≡ ranges_of area writes = rw test in
      rw test (left_picked Out area (pick / 3) writes synced image greatest ends.1 (λ k out. subst (λ rs. IsOutside k rs) ranges (apart k out)) left)
]

-- so a crash leaves an image
pub image_picked : (area pick : ℕ) (writes : List Write) (buffer : Buffer) → EndBy area buffer.greatest writes → length buffer.synced ≤ buffer.greatest
    → IsImage (area_of area writes buffer) (picked area pick writes buffer.synced)
image_picked area pick writes buffer ends synced =
    let left = left_picked (λ k. IsOutside k (ranges_of area writes)) area pick writes buffer.synced buffer.synced buffer.greatest ends (λ k out. out)
    (record { no_shorter = omega arith; no_longer = synced; same = λ k here out. refl }) in
    record { no_shorter = left.no_shorter; no_longer = left.no_longer; outside = λ k here there out. left.same k here out }
