-- Congruence of integers: it is an equivalence that sums and products keep.
use lib.IntN.{zero-*ℤ}
use Rattle.std.proofs.Common.{◌≡◌, ℕ, ◌*◌, ◌/◌, ◌%◌, arith, sym, ap, ◌∙◌, ℤ, pos, ◌+ℤ◌}
use Rattle.std.proofs.Math.Nat.{div-add-mod}
use Rattle.std.specs.Prelude.{◌*ℤ◌, ◌-ℤ◌, neg_ℤ, negsuc}
use Rattle.std.proofs.lemmas.Int.{ints}
use Rattle.ntru_ring.specs.Centring.{IsCongruent}
use Rattle.field_solve.proofs.Integers.{mul-add_left, mul-add_right, mul_assoc}

pub congruent_same : (m : ℕ) (a b : ℤ) → a ≡ b → IsCongruent m a b
congruent_same m a b e = (pos 0, omega (arith, ints, e, zero-*ℤ (pos m)))

pub congruent_turned : (m : ℕ) (a b : ℤ) → IsCongruent m a b → IsCongruent m b a
congruent_turned m a b h =
    (neg_ℤ h.0, omega (arith, ints, h.1, mul-add_right h.0 (neg_ℤ h.0) (pos m), ap (λ x. x *ℤ pos m) (opposite h.0), zero-*ℤ (pos m)))
  where
    opposite : (q : ℤ) → q +ℤ neg_ℤ q ≡ pos 0
    opposite q = omega (arith, ints)

pub congruent_chained : (m : ℕ) (a b c : ℤ) → IsCongruent m a b → IsCongruent m b c → IsCongruent m a c
congruent_chained m a b c h k = (h.0 +ℤ k.0, omega (arith, ints, h.1, k.1, mul-add_right h.0 k.0 (pos m)))

pub congruent-add : (m : ℕ) (a b c d : ℤ) → IsCongruent m a b → IsCongruent m c d → IsCongruent m (a +ℤ c) (b +ℤ d)
congruent-add m a b c d h k = (h.0 +ℤ k.0, omega (arith, ints, h.1, k.1, mul-add_right h.0 k.0 (pos m)))

pub congruent-mul : (m : ℕ) (g a b : ℤ) → IsCongruent m a b → IsCongruent m (g *ℤ a) (g *ℤ b)
congruent-mul m g a b h = (g *ℤ h.0, ap (λ x. g *ℤ x) h.1 ∙ mul-add_left g b (h.0 *ℤ pos m) ∙ ap (λ x. g *ℤ b +ℤ x) (sym (mul_assoc g h.0 (pos m))))

-- a number and its remainder
pub congruent-mod : (m n : ℕ) → IsCongruent m (pos (n % m)) (pos n)
congruent-mod m n = congruent_turned m (pos n) (pos (n % m)) (pos (n / m), ap pos (omega (arith, div-add-mod n m)))

-- one multiple of the modulus less
pub congruent_less : (m : ℕ) (a b : ℤ) → IsCongruent m a b → IsCongruent m (a -ℤ pos m) b
congruent_less m a b h = (h.0 +ℤ negsuc 0, omega (arith, ints, h.1, mul-add_right h.0 (negsuc 0) (pos m)))

-- a multiple of a number, each time with the remainder in its place
pub congruent-scaled : (m f n : ℕ) → IsCongruent m (pos (f * (n % m) % m)) (pos f *ℤ pos n)
congruent-scaled m f n =
    congruent_chained m (pos (f * (n % m) % m)) (pos f *ℤ pos (n % m)) (pos f *ℤ pos n) (congruent-mod m (f * (n % m))) (congruent-mul m (pos f) (pos (n % m)) (pos n) (congruent-mod m n))

pub congruent-multiple : (m n : ℕ) → n % m ≡ 0 → IsCongruent m (pos 0) (pos n)
congruent-multiple m n e = let h = congruent-mod m n in (h.0, ap pos (sym e) ∙ h.1)
