-- Integers near zero: their range, the centred residue of a modulus, and the nearest multiple of 3.
use Rattle.std.specs.Prelude.{◌≡◌, ℕ, ◌/◌, ℤ, pos, neg_ℤ, ◌+ℤ◌, ◌-ℤ◌, ◌*ℤ◌, ◌≤ℤ◌}
use Rattle.std.specs.Int.{int_rem_euclid}

-- an integer is no further from zero than the bound
pub record IsWithin (bound : ℕ) (z : ℤ) : Type 0 where
  pub low : neg_ℤ (pos bound) ≤ℤ z
  pub high : z ≤ℤ pos bound

-- two integers differ by a multiple of the modulus
abbrev pub IsCongruent : ℕ → ℤ → ℤ → Type 0
IsCongruent modulus y z = (q : ℤ) × (y ≡ z +ℤ q *ℤ pos modulus)

-- r is the centred residue of z modulo an odd number: no further from zero than its half, and a multiple of it away
pub record IsResidue (modulus : ℕ) (z r : ℤ) : Type 0 where
  pub near : IsWithin (modulus / 2) r
  pub congruent : IsCongruent modulus z r

-- that residue, from -h to h modulo 2 h + 1: the remainder of z + h, less h
unfoldable pub centred : ℕ → ℤ → ℤ
centred modulus z = let half = modulus / 2 in int_rem_euclid (z +ℤ pos half) (pos modulus) -ℤ pos half

-- r is the multiple of 3 that is nearest to z: it is a multiple, and at most 1 away
pub record IsNearestMultiple (z r : ℤ) : Type 0 where
  pub multiple : (q : ℤ) × (r ≡ q *ℤ pos 3)
  pub near : IsWithin 1 (r -ℤ z)

-- that multiple: what remains once the residue from -1 to 1 is taken off
unfoldable pub nearest_multiple : ℤ → ℤ
nearest_multiple z = z -ℤ centred 3 z
