use Rattle.std.proofs.Common.{◌≡◌, ℕ, ◌<◌, ◌^◌, ◌∷◌, ◌++◌, [], replicate, slice_index, length, pos}
use Rattle.ntru_ring.specs.Centring.{IsCongruent}
use Rattle.ntru_ring.specs.Polynomials.{coefficient}
use Rattle.field_solve.specs.Elimination.{times}
use Rattle.field_solve.proofs.powers.product.Given as goal

abbrev pub invariant-loop-place : goal.invariant-loop-place
invariant-loop-place l = record {
  whole : length l.entries.items ≡ l.place;
  room : (place : ℕ) → place < l.place → slice_index l.entries.items place < 2 ^ 25;
  combined : (place : ℕ) → place < l.place → IsCongruent l.fn.prime (pos (slice_index l.entries.items place)) (times (coefficient l.fn.poly) (replicate l.fn.power 0 ++ 1 ∷ []) place);
}
