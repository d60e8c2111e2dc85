use Rattle.std.proofs.Common.{◌≡◌, ℕ, length}
use Rattle.ntru_ring.specs.Centring.{IsWithin}
use Rattle.ntru_ring.specs.Polynomials.{coefficient}
use Rattle.ntru_ring.proofs.tests.polynomial.Given as goal

abbrev pub invariant-loop-place : goal.invariant-loop-place
invariant-loop-place l = (length l.list.items ≡ l.place) × ((k : ℕ) → IsWithin 2295 (coefficient l.list.items k))
