-- The three forms once more, group by group: the bytes of some fields are one number, little-endian, and it is the sum
-- of field i times base^i. The fields are c + 1, c + 2295 and (c + 2295) / 3 of the coefficients c.
use Rattle.std.specs.Prelude.{◌≡◌, ℕ, zero, suc, ◌+◌, ◌*◌, ◌^◌, ◌<◌, ℤ, List, slice_index}
use Rattle.ntru_code.specs.Forms.{field, rounded, small, whole}

-- the sum of digit i times base^i, of so many digits from a place on
unfoldable pub sum_of_digits : ℕ → (ℕ → ℕ) → ℕ → ℕ → ℕ
sum_of_digits base digits start zero = 0
sum_of_digits base digits start (suc count) =
    sum_of_digits base digits start count + digits (start + count) * base ^ count

-- the number that so many bytes from a place on spell, the low byte first
abbrev pub little_endian : List ℕ → ℕ → ℕ → ℕ
little_endian bytes start count = sum_of_digits 256 (slice_index bytes) start count

-- the small form: four fields of base 4 in each byte, and in the last the 761st, with 0 behind it
pub record AreSmallGroups (polynomial : List ℤ) (bytes : List ℕ) : Type 0 where
  pub full : (group : ℕ) → group < 190
      → little_endian bytes group 1 ≡ sum_of_digits 4 (field small polynomial) (4 * group) 4
  pub last : little_endian bytes 190 1 ≡ sum_of_digits 4 (field small polynomial) 760 2

-- the form modulo 4591: five fields of base 6144 in eight bytes, and the last one in two
pub record AreWholeGroups (polynomial : List ℤ) (bytes : List ℕ) : Type 0 where
  pub full : (group : ℕ) → group < 152
      → little_endian bytes (8 * group) 8 ≡ sum_of_digits 6144 (field whole polynomial) (5 * group) 5
  pub last : little_endian bytes 1216 2 ≡ sum_of_digits 6144 (field whole polynomial) 760 1

-- the rounded form: three fields of base 1536 in four bytes, and the last two in three
pub record AreRoundedGroups (polynomial : List ℤ) (bytes : List ℕ) : Type 0 where
  pub full : (group : ℕ) → group < 253
      → little_endian bytes (4 * group) 4 ≡ sum_of_digits 1536 (field rounded polynomial) (3 * group) 3
  pub last : little_endian bytes 1012 3 ≡ sum_of_digits 1536 (field rounded polynomial) 759 2
