-- Packing by base: digits are taken in groups, and each group is one number, of which both sides have their own
-- digits. So fields become bytes, and bytes become fields, by one rule.
use Rattle.std.specs.Prelude.{ℕ, zero, suc, ◌+◌, ◌-◌, ◌*◌, ◌/◌, ◌%◌, min}
use Rattle.ntru_code.specs.declared.packing.Side.{Side}

-- the number whose digits stand from a place on, the lowest first; the last digit is that many places further
unfoldable pub number : ℕ → (ℕ → ℕ) → ℕ → ℕ → ℕ
number base digits start zero = digits start
number base digits start (suc last) = digits start + base * number base digits (suc start) last

-- the digit at a place of a number: the remainder, or a digit of the quotient; the last is the whole quotient
unfoldable pub digit : ℕ → ℕ → ℕ → ℕ → ℕ
digit base zero place value = value
digit base (suc last) zero value = value % base
digit base (suc last) (suc place) value = digit base last place (value / base)

-- the place of a group's last digit in it: the last group of a side may be shorter
unfoldable pub last_of : Side → ℕ → ℕ
last_of side group = min side.group (side.count - group * side.group) - 1

-- the number of a group
unfoldable pub group_number : Side → (ℕ → ℕ) → ℕ → ℕ
group_number side digits group = number side.base digits (group * side.group) (last_of side group)

-- the digit at a place of one side, from the digits of the other
unfoldable pub translated : Side → Side → (ℕ → ℕ) → ℕ → ℕ
translated from to digits place =
    digit to.base (last_of to (place / to.group)) (place % to.group) (group_number from digits (place / to.group))
