use Rattle.std.proofs.Common.{◌≡◌, ℕ, ◌<◌, ◌/◌, slice_index, length, pos}
use Rattle.ntru_ring.specs.Centring.{IsCongruent, IsWithin}
use Rattle.ntru_ring.specs.Polynomials.{coefficient}
use Rattle.field_solve.proofs.fields.polynomial.Given as goal

abbrev pub invariant-loop-place : goal.invariant-loop-place
invariant-loop-place l = record {
  whole : length l.coefficients.items ≡ l.place;
  near : (place : ℕ) → place < l.place → IsWithin (l.fn.prime / 2) (coefficient l.coefficients.items place);
  congruent : (place : ℕ) → place < l.place → IsCongruent l.fn.prime (coefficient l.coefficients.items place) (pos (slice_index l.numbers place));
}
