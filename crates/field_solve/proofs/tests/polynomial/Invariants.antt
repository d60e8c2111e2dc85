use Rattle.std.proofs.Common.{◌≡◌, ℕ, ◌/◌, ◌<◌, length}
use Rattle.ntru_ring.specs.Centring.{IsWithin}
use Rattle.ntru_ring.specs.Polynomials.{coefficient}
use Rattle.field_solve.specs.Moduli.{prime_of}
use Rattle.field_solve.proofs.tests.polynomial.Given as goal

abbrev pub invariant-loop-place : goal.invariant-loop-place
invariant-loop-place l = record {
  whole : length l.list.items ≡ l.place;
  near : (place : ℕ) → place < l.place → IsWithin (prime_of l.fn.modulus / 2) (coefficient l.list.items place);
}
