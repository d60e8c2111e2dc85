use Rattle.std.proofs.Common.{◌≡◌, ℕ, ◌*◌, ◌<◌, pos, ◌-ℤ◌}
use Rattle.ntru_ring.specs.Centring.{IsWithin}
use Rattle.ntru_ring.specs.Polynomials.{coefficient, coefficients}
use Rattle.ntru_code.specs.Forms.{field_in, bound_at}
use Rattle.ntru_code.proofs.decoding.read_coefficients.Given as goal

abbrev pub invariant-loop-place : goal.invariant-loop-place
invariant-loop-place l =
    record {
      items : l.list.items ≡ coefficients l.place (λ k. pos (l.form.step * field_in l.form l.bytes k) -ℤ pos l.form.lowest);
      within : (k : ℕ) → IsWithin 2295 (coefficient l.list.items k);
      below : (k : ℕ) → k < l.place → field_in l.form l.bytes k < bound_at l.form k;
    }
