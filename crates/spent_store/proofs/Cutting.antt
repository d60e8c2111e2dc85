-- Records of one size that stand one after the other, cut apart again.
use Rattle.std.proofs.Common.{◌≡◌, ℕ, zero, suc, ◌+◌, ◌*◌, ◌/◌, ◌<◌, ◌≤◌, ◌==◌, ◌&&◌, ◌||◌, ◌%◌, nat_lt, Bool, true, false, if◌then◌else◌, List, [], ◌∷◌, ◌++◌, length, map, take, drop, inl, inr, refl, ap, subst, ◌∙◌, arith}
use Rattle.std.specs.List.{AllByRecursion, concat, list_any}
use Rattle.std.specs.Simd.{first_chunks}
use Rattle.std.proofs.Math.Nat.{mul-div_cancel_left}
use Rattle.std.proofs.Math.Seq.{take-append_seam, drop-append_seam}
use Rattle.std.proofs.lemmas.Bool.{cases_lt, eq-eqb, ne_eqb, ltb-true}
use Rattle.std.proofs.lemmas.List.{length-append, length-take-le}
use Rattle.gate_log.specs.Records.{records, records_after}
use Rattle.spent_store.specs.Books.{EpochLog, area_of, log_in}
use Rattle.spent_store.specs.Joined.{cut, cut_log}

-- each has the size
abbrev pub AllLong : ℕ → List (List ℕ) → Type 0
AllLong size found = AllByRecursion (λ (one : List ℕ). length one ≡ size) found

first_long : (size : ℕ) (test : Bool) (bytes : List ℕ) (rest : List (List ℕ)) → (test ≡ true → size ≤ length bytes) → AllLong size rest → AllLong size (if test then take size bytes ∷ rest else [])
first_long size true bytes rest enough all = (length-take-le size bytes (enough refl), all)
first_long size false bytes rest enough all = tt

second_so : (a b : Bool) → (a && b) ≡ true → b ≡ true
second_so true b both = both
second_so false b both = absurd (cc)

long_after : (size skipped : ℕ) (bytes : List ℕ) → AllLong size (records_after size skipped bytes)
long_after size skipped [] = tt
long_after size (suc skipped) (byte ∷ bytes) = long_after size skipped bytes
long_after size zero (byte ∷ bytes) =
    first_long size (byte == 1 && nat_lt size (length bytes)) bytes (records_after size size bytes)
    (λ both. let more = ltb-true size (length bytes) (second_so (byte == 1) (nat_lt size (length bytes)) both) in omega (arith, more)) (long_after size size bytes)

-- the records of an area have the size that they are read by
pub records_long : (size : ℕ) (bytes : List ℕ) → AllLong size (records size bytes)
records_long size bytes = long_after size 0 bytes

length-concat : (size : ℕ) (found : List (List ℕ)) → AllLong size found → length (concat found) ≡ size * length found
length-concat size [] all = omega arith
length-concat size (one ∷ others) all =
    let rest = length-concat size others all.1 in
    let times : size * suc (length others) ≡ size + size * length others = omega arith in
    omega (arith, length-append one (concat others), all.0, rest, times)

chunks-concat : (size : ℕ) (found : List (List ℕ)) → AllLong size found → first_chunks size (length found) (concat found) ≡ found
chunks-concat size [] all = refl
chunks-concat size (one ∷ others) all =
    let front : take size (one ++ concat others) ≡ one = subst (λ (n : ℕ). take n (one ++ concat others) ≡ one) all.0 (take-append_seam one (concat others)) in
    let back : drop size (one ++ concat others) ≡ concat others = subst (λ (n : ℕ). drop n (one ++ concat others) ≡ concat others) all.0 (drop-append_seam one (concat others)) in
    rw (front, back) (ap (λ (rest : List (List ℕ)). one ∷ rest) (chunks-concat size others all.1))

pub cut-concat : (size : ℕ) (found : List (List ℕ)) → 0 < size → AllLong size found → cut size (concat found) ≡ found
cut-concat size found some all =
    let number : length (concat found) / size ≡ length found = ap (λ (n : ℕ). n / size) (length-concat size found all) ∙ mul-div_cancel_left (length found) some in
    rw number (chunks-concat size found all)

-- the records of an area that were joined
pub cut_records : (size : ℕ) (bytes joined : List ℕ) → 0 < size → joined ≡ concat (records size bytes) → cut size joined ≡ records size bytes
cut_records size bytes joined some is = ap (λ (xs : List ℕ). cut size xs) is ∙ cut-concat size (records size bytes) some (records_long size bytes)

-- ---- the logs of epochs

-- the logs are of these epochs
pub cut_epochs : (one two epochs : List ℕ) → map (λ (log : EpochLog). log.epoch) (map (cut_log one two) epochs) ≡ epochs
cut_epochs one two [] = refl
cut_epochs one two (epoch ∷ epochs) = ap (λ (rest : List ℕ). epoch ∷ rest) (cut_epochs one two epochs)

or_first : (a b : Bool) → a ≡ true → (a || b) ≡ true
or_first a b holds = rw holds refl

or_second : (a b : Bool) → b ≡ true → (a || b) ≡ true
or_second true b holds = refl
or_second false b holds = holds

cut_one : (one two first second : List ℕ) (epoch : ℕ) → (area_of epoch == 1 ≡ true → one ≡ concat (records 32 first)) → (area_of epoch == 2 ≡ true → two ≡ concat (records 32 second))
    → cut_log one two epoch ≡ log_in first second epoch
cut_one one two first second epoch is_one is_two =
    elim (cases_lt (epoch % 2) 1) [
      | inl even ↦
          let in_one : area_of epoch == 1 ≡ true = eq-eqb (area_of epoch) 1 (omega arith) in
          rw in_one (ap (λ (tags : List (List ℕ)). record { epoch = epoch; tags = tags }) (cut_records 32 first one (omega arith) (is_one in_one)))
      | inr odd ↦
          let second_area : area_of epoch ≡ 2 = omega arith in
          rw (ne_eqb (area_of epoch) 1 (λ same. omega (arith, same, second_area)))
          (ap (λ (tags : List (List ℕ)). record { epoch = epoch; tags = tags }) (cut_records 32 second two (omega arith) (is_two (eq-eqb (area_of epoch) 2 second_area))))
    ]

-- where the areas of begun epochs were read, their logs are these
pub cut_logs : (one two first second begun : List ℕ) → (list_any (λ epoch. area_of epoch == 1) begun ≡ true → one ≡ concat (records 32 first))
    → (list_any (λ epoch. area_of epoch == 2) begun ≡ true → two ≡ concat (records 32 second)) → map (cut_log one two) begun ≡ map (log_in first second) begun
cut_logs one two first second [] is_one is_two = refl
cut_logs one two first second (epoch ∷ epochs) is_one is_two =
    let here : cut_log one two epoch ≡ log_in first second epoch
    = cut_one one two first second epoch (λ used. is_one (or_first (area_of epoch == 1) (list_any (λ e. area_of e == 1) epochs) used))
    (λ used. is_two (or_first (area_of epoch == 2) (list_any (λ e. area_of e == 2) epochs) used)) in
    let later : map (cut_log one two) epochs ≡ map (log_in first second) epochs
    = cut_logs one two first second epochs (λ used. is_one (or_second (area_of epoch == 1) (list_any (λ e. area_of e == 1) epochs) used))
    (λ used. is_two (or_second (area_of epoch == 2) (list_any (λ e. area_of e == 2) epochs) used)) in
    λ i. here i ∷ later i

pub chunk_count : (size count : ℕ) (joined : List ℕ) → length (first_chunks size count joined) ≡ count
chunk_count size zero joined = refl
chunk_count size (suc count) joined = ap suc (chunk_count size count (drop size joined))

cut_few : (limit : ℕ) (joined : List ℕ) → length joined ≤ 32 * limit → length (cut 32 joined) ≤ limit
cut_few limit joined few = omega (arith, chunk_count 32 (length joined / 32) joined)

-- none of them is longer than the limit
pub cut_fits : (limit : ℕ) (one two epochs : List ℕ) → length one ≤ 32 * limit → length two ≤ 32 * limit → AllByRecursion (λ (log : EpochLog). length log.tags ≤ limit) (map (cut_log one two) epochs)
cut_fits limit one two [] few_one few_two = tt
cut_fits limit one two (epoch ∷ epochs) few_one few_two = (fits (area_of epoch == 1), cut_fits limit one two epochs few_one few_two)
  where
    fits : (first : Bool) → length (cut 32 (if first then one else two)) ≤ limit
    fits true = cut_few limit one few_one
    fits false = cut_few limit two few_two
