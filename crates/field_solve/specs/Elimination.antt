-- What the elimination keeps: rows of numbers modulo a prime, each the ring's product of one polynomial and a
-- known combination.
use Rattle.std.specs.Prelude.{◌≡◌, ◌⊎◌, ℕ, zero, suc, ◌+◌, ◌-◌, ◌%◌, ◌<◌, ◌≤◌, ℤ, pos, negsuc, ◌+ℤ◌, List, length, slice_index, slice_index_or, if◌then◌else◌, nat_le}
use Rattle.ntru_ring.specs.Centring.{IsCongruent}
use Rattle.ntru_ring.specs.Polynomials.{coefficient}
use Rattle.ntru_ring.specs.Product.{convolution, folded}
use Rattle.field_solve.specs.declared.rows.Row.{Row}

-- each number of a list is below the bound
pub record AllBelow (bound : ℕ) (numbers : List ℕ) : Type 0 where
  pub below : (place : ℕ) → slice_index numbers place < bound

-- the coefficient at a place of the product of a polynomial and a list of numbers
unfoldable pub times : (ℕ → ℤ) → List ℕ → ℕ → ℤ
times poly combination place = folded (convolution poly (λ i. pos (slice_index combination i))) place

-- the coefficient at a place of x^power times the polynomial, before x^761 is replaced
abbrev pub raised : (ℕ → ℤ) → ℕ → ℕ → ℤ
raised poly power place = if nat_le power place then poly (place - power) else pos 0

-- modulo the prime, the entries are a start plus the product of the polynomial and the combination
pub record Combines (prime : ℕ) (poly start : ℕ → ℤ) (combination entries : List ℕ) : Type 0 where
  pub at : (place : ℕ) → place < 761 → IsCongruent prime (pos (slice_index entries place)) (start place +ℤ times poly combination place)

-- two starts: 0, and the polynomial -1
abbrev pub nothing : ℕ → ℤ
nothing place = pos 0

abbrev pub minus_one : ℕ → ℤ
minus_one zero = negsuc 0
minus_one (suc place) = pos 0

-- the row stands at a place of the rows
pub record StandsAt (rows : List Row) (place : ℕ) (row : Row) : Type 0 where
  pub within : place < length rows
  pub is : row ≡ slice_index_or rows place row

-- a row has 761 numbers below 4591, with 1 at its pivot. Its combination is no longer than its place allows
pub record IsRow (place : ℕ) (row : Row) : Type 0 where
  pub whole : length row.entries.items ≡ 761
  pub small : AllBelow 4591 row.entries.items
  pub short : length row.combination.items ≤ place + 1
  pub small_combination : AllBelow 4591 row.combination.items
  pub pivot_within : row.pivot < 761
  pub one : slice_index row.entries.items row.pivot ≡ 1

-- each row is 0 at the pivots of the rows before it
pub record AreRows (rows : List Row) : Type 0 where
  pub each : (place : ℕ) (row : Row) → StandsAt rows place row → IsRow place row
  pub clear : (before place : ℕ) (earlier row : Row) → before < place → StandsAt rows before earlier → StandsAt rows place row → slice_index row.entries.items earlier.pivot ≡ 0

-- each row is the product of the polynomial and the row's combination
pub record AreCombined (prime : ℕ) (poly : ℕ → ℤ) (rows : List Row) : Type 0 where
  pub each : (place : ℕ) (row : Row) → StandsAt rows place row → Combines prime poly nothing row.combination.items row.entries.items

-- the numbers are multiples of the prime at the pivots of the first rows
pub record AreCleared (prime count : ℕ) (rows : List Row) (entries : List ℕ) : Type 0 where
  pub at : (place : ℕ) (row : Row) → place < count → StandsAt rows place row → slice_index entries row.pivot % prime ≡ 0

-- a column is free, or a row's pivot
abbrev pub IsFree : List ℕ → ℕ → Type 0
IsFree columns column = (place : ℕ) × (place < length columns) × (slice_index columns place ≡ column)

abbrev pub IsPivot : List Row → ℕ → Type 0
IsPivot rows column = (place : ℕ) × (row : Row) × StandsAt rows place row × (row.pivot ≡ column)

-- the elimination so far: each of the 761 columns is free or a pivot, and there are as many rows as columns that
-- aren't free
pub record Progress (prime : ℕ) (poly : List ℤ) (columns : List ℕ) (rows : List Row) : Type 0 where
  pub count : length columns + length rows ≡ 761
  pub within : AllBelow 761 columns
  pub covered : (column : ℕ) → column < 761 → IsFree columns column ⊎ IsPivot rows column
  pub rows_hold : AreRows rows
  pub combined : AreCombined prime (coefficient poly) rows

-- modulo the prime, the numbers aren't all 0, and their product with the polynomial is 0
pub record Divides (prime : ℕ) (poly : List ℤ) (numbers : List ℕ) : Type 0 where
  pub some : (place : ℕ) × (place < 761) × (slice_index numbers place ≡ 1)
  pub zero_product : (place : ℕ) → place < 761 → IsCongruent prime (pos 0) (times (coefficient poly) numbers place)

-- modulo the prime, the product of the numbers with the polynomial is 1
pub record Inverts (prime : ℕ) (poly : ℕ → ℤ) (numbers : List ℕ) : Type 0 where
  pub at : (place : ℕ) → place < 761 → IsCongruent prime (pos 0) (minus_one place +ℤ times poly numbers place)
