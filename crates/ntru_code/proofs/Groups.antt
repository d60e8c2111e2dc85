-- The bytes of each form, group by group, as numbers.
use Rattle.std.proofs.Common.{◌≡◌, ℕ, zero, suc, ◌+◌, ◌-◌, ◌*◌, ◌^◌, ◌<◌, min, ℤ, List, slice_index, refl, sym, ap, ◌∙◌, arith, lit<}
use Rattle.std.proofs.Math.Nat.{pow-suc, pow-zero}
use Rattle.std.proofs.lemmas.List.FromFn.{get_or-map-range_with_len}
use Rattle.ntru_code.specs.Packing.{group_number, last_of, number, translated}
use Rattle.ntru_code.specs.Forms.{field, rounded, small, spelling, whole}
use Rattle.ntru_code.specs.Groups.{AreRoundedGroups, AreSmallGroups, AreWholeGroups, sum_of_digits}
use Rattle.ntru_code.specs.declared.forms.Form.{Form}
use Rattle.ntru_code.proofs.Digits.{same_number}

-- the lowest digit by itself
one_digit : (base : ℕ) (f : ℕ → ℕ) (start : ℕ) → sum_of_digits base f start 1 ≡ f start
unfolding sum_of_digits
one_digit base f start =
    let here : start + 0 ≡ start = omega arith in
    rw (pow-zero base, here) (omega arith)

lowest_apart : (base : ℕ) (f : ℕ → ℕ) (start count : ℕ) → sum_of_digits base f start (suc count) ≡ f start + base * sum_of_digits base f (suc start) count
unfolding sum_of_digits
lowest_apart base f start zero = one_digit base f start ∙ omega arith
lowest_apart base f start (suc count) =
    let here : start + suc count ≡ suc start + count = omega arith in
    let power : base ^ suc count ≡ base ^ count * base = pow-suc base count in
    ap (λ n. n + f (start + suc count) * base ^ suc count) (lowest_apart base f start count)
    ∙ ap (λ place. f start + base * sum_of_digits base f (suc start) count + f place * base ^ suc count) here
    ∙ ap (λ n. f start + base * sum_of_digits base f (suc start) count + f (suc start + count) * n) power
    ∙ omega arith

-- a number is the sum of its digits times the powers of the base
number_is_sum : (base : ℕ) (f : ℕ → ℕ) (last start : ℕ) → number base f start last ≡ sum_of_digits base f start (suc last)
unfolding number
number_is_sum base f zero start = sym (one_digit base f start)
number_is_sum base f (suc last) start =
    ap (λ n. f start + base * n) (number_is_sum base f last (suc start)) ∙ sym (lowest_apart base f start (suc last))

-- the bytes of a group are the number of its fields
same_sum : (form : Form) (polynomial : List ℤ) (bytes : List ℕ) (group last_byte last_field byte from : ℕ) → 0 < form.bytes.group
    → bytes ≡ spelling form polynomial → group * form.bytes.group < form.bytes.count
    → last_of form.bytes group ≡ last_byte → last_of form.fields group ≡ last_field
    → group * form.bytes.group ≡ byte → group * form.fields.group ≡ from
    → sum_of_digits form.bytes.base (slice_index bytes) byte (suc last_byte) ≡ sum_of_digits form.fields.base (field form polynomial) from (suc last_field)
unfolding spelling group_number
same_sum form polynomial bytes group last_byte last_field byte from some is inside bytes_end fields_end bytes_from fields_from =
    let f : ℕ → ℕ = field form polynomial in
    let g : ℕ → ℕ = slice_index bytes in
    let spelled : (k : ℕ) → k < form.bytes.count → g k ≡ translated form.fields form.bytes f k =
    λ k within. ap (λ (l : List ℕ). slice_index l k) is ∙ get_or-map-range_with_len (translated form.fields form.bytes f) 0 form.bytes.count k k 0 within (omega arith) in
    sym (ap (λ start. number form.bytes.base g start (last_of form.bytes group)) bytes_from ∙ ap (number form.bytes.base g byte) bytes_end ∙ number_is_sum form.bytes.base g last_byte byte)
    ∙ same_number form.fields form.bytes f g some spelled group inside
    ∙ ap (λ start. number form.fields.base f start (last_of form.fields group)) fields_from
    ∙ ap (number form.fields.base f from) fields_end
    ∙ number_is_sum form.fields.base f last_field from

pub small_groups : (polynomial : List ℤ) (bytes : List ℕ) → bytes ≡ spelling small polynomial → AreSmallGroups polynomial bytes
unfolding last_of
small_groups polynomial bytes is = record {
  full = λ group within.
      let to : min 1 (191 - group * 1) - 1 ≡ 0 = omega arith in
      let from : min 4 (762 - group * 4) - 1 ≡ 3 = omega arith in
      same_sum small polynomial bytes group 0 3 group (4 * group) (lit< tt) is (omega arith) to from (omega arith) (omega arith);
  last = same_sum small polynomial bytes 190 0 1 190 760 (lit< tt) is (lit< tt) refl refl refl refl;
}

pub whole_groups : (polynomial : List ℤ) (bytes : List ℕ) → bytes ≡ spelling whole polynomial → AreWholeGroups polynomial bytes
unfolding last_of
whole_groups polynomial bytes is = record {
  full = λ group within.
      let to : min 8 (1218 - group * 8) - 1 ≡ 7 = omega arith in
      let from : min 5 (761 - group * 5) - 1 ≡ 4 = omega arith in
      same_sum whole polynomial bytes group 7 4 (8 * group) (5 * group) (lit< tt) is (omega arith) to from (omega arith) (omega arith);
  last = same_sum whole polynomial bytes 152 1 0 1216 760 (lit< tt) is (lit< tt) refl refl refl refl;
}

pub rounded_groups : (polynomial : List ℤ) (bytes : List ℕ) → bytes ≡ spelling rounded polynomial → AreRoundedGroups polynomial bytes
unfolding last_of
rounded_groups polynomial bytes is = record {
  full = λ group within.
      let to : min 4 (1015 - group * 4) - 1 ≡ 3 = omega arith in
      let from : min 3 (761 - group * 3) - 1 ≡ 2 = omega arith in
      same_sum rounded polynomial bytes group 3 2 (4 * group) (3 * group) (lit< tt) is (omega arith) to from (omega arith) (omega arith);
  last = same_sum rounded polynomial bytes 253 2 1 1012 759 (lit< tt) is (lit< tt) refl refl refl refl;
}
