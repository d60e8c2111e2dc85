-- The two moduli, both prime, and the inverses of the numbers below them.
use Rattle.std.specs.Prelude.{◌≡◌, ℕ, ◌*◌, ◌%◌, ◌<◌, List, slice_index}
use Rattle.field_solve.specs.declared.fields.Modulus.{Modulus}
use Rattle.field_solve.specs.declared.fields.Modulus.TheVariants.{Three, Q}

-- the prime of a modulus
abbrev pub prime_of : Modulus → ℕ
prime_of Three = 3
prime_of Q = 4591

-- a table has, at each number from 1 below the prime, a number below the prime whose product with it leaves 1
pub record AreInverses (prime : ℕ) (table : List ℕ) : Type 0 where
  pub below : (number : ℕ) → number < prime → slice_index table number < prime
  pub product : (number : ℕ) → 0 < number → number < prime → number * slice_index table number % prime ≡ 1
