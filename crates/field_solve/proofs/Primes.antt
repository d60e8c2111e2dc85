-- Numbers modulo 3 and 4591: no number from 2 below divides the prime, so that the inverses of smaller numbers give
-- those of greater ones.
use Rattle.std.proofs.Common.{◌≡◌, ℕ, zero, suc, ◌+◌, ◌-◌, ◌*◌, ◌/◌, ◌%◌, ◌<◌, ◌≤◌, ◌^◌, Bool, true, false, ◌&&◌, ltb, inl, inr, arith, refl, sym, ap, ◌∙◌, subst}
use borrow.Author.Tests.{ltb-true}
use Rattle.std.proofs.Math.Nat.{div-add-mod, mul-add-mod_self_left, add-mul-mod_self_left, add-mod-mod, mod-eq_of_lt, mul-one}
use Rattle.std.proofs.lemmas.Nat.{mul-mod_second, mod_below, mul-le}
use Rattle.std.proofs.lemmas.Bool.{cases_lt}
use Rattle.field_solve.specs.Moduli.{prime_of}
use Rattle.field_solve.specs.declared.fields.Modulus.{Modulus}
use Rattle.field_solve.specs.declared.fields.Modulus.TheVariants.{Three, Q}

-- the prime leaves a remainder at each of the n numbers from 2 on
leaves_remainders : ℕ → ℕ → Bool
leaves_remainders prime zero = true
leaves_remainders prime (suc n) = ltb 0 (prime % suc (suc n)) && leaves_remainders prime n

both : (a b : Bool) → a && b ≡ true → (a ≡ true) × (b ≡ true)
both true true e = (refl, refl)
both true false e = cc
both false b e = cc

remainder_below : (prime n k : ℕ) → leaves_remainders prime n ≡ true → k < n → 0 < prime % suc (suc k)
unfolding leaves_remainders
remainder_below prime zero k e h = absurd (omega arith)
remainder_below prime (suc n) k e h =
    let parts = both (ltb 0 (prime % suc (suc n))) (leaves_remainders prime n) e in
    elim (cases_lt k n) [
      | inl lt ↦ remainder_below prime n k parts.1 lt
      | inr ge ↦ let at : n ≡ k = omega arith in subst (λ (x : ℕ). 0 < prime % suc (suc x)) at (ltb-true 0 (prime % suc (suc n)) parts.0)
    ]

all_of_4591 : leaves_remainders 4591 4589 ≡ true
unfolding leaves_remainders
all_of_4591 = refl

pub remainder_positive : (modulus : Modulus) (n : ℕ) → 2 ≤ n → n < prime_of modulus → 0 < prime_of modulus % n
remainder_positive Three n low high =
    let two : 2 ≡ n = omega arith in
    let one : 0 < 3 % 2 = omega arith in
    subst (λ (k : ℕ). 0 < 3 % k) two one
remainder_positive Q n low high =
    let e : suc (suc (n - 2)) ≡ n = omega arith in
    let P : ℕ → Type 0 = λ k. 0 < 4591 % k in
    subst P e (remainder_below 4591 4589 (n - 2) all_of_4591 (omega arith))

pub prime_bounds : (modulus : Modulus) → (2 < prime_of modulus) × (prime_of modulus ≤ 4591) × (prime_of modulus % 2 ≡ 1)
prime_bounds Three = (omega arith, omega arith, refl)
prime_bounds Q = (omega arith, omega arith, refl)

-- a product of numbers below a prime of the two
pub product_below : (a b : ℕ) → a ≤ 4591 → b < 4591 → a * b < 2 ^ 25
product_below a b h k = let whole : a * b ≤ 4591 * 4591 = mul-le a b 4591 4591 h (omega arith) in omega arith

inverse_sum : (p a t q r x y k j : ℕ) → p * k + x ≡ q * t → p * j + 1 ≡ r * t → a * q + r ≡ p → y + x ≡ p → a * y + p * t ≡ p * (a + a * k + j) + 1
inverse_sum p a t q r x y k j s1 s2 s3 s4 =
    let m1 : a * (p * k + x) ≡ a * (q * t) = ap (λ (z : ℕ). a * z) s1 in
    let m2 : (a * q + r) * t ≡ p * t = ap (λ (z : ℕ). z * t) s3 in
    let m3 : a * (y + x) ≡ a * p = ap (λ (z : ℕ). a * z) s4 in
    omega arith

-- the inverse of a number a, from that of the remainder that a leaves of the prime
pub inverse_next : (p a t : ℕ) → 1 < p → (p % a) * t % p ≡ 1 → a * ((p - p / a * t % p) % p) % p ≡ 1
inverse_next p a t big known =
    let r = p % a in
    let q = p / a in
    let x = q * t % p in
    let k = q * t / p in
    let j = r * t / p in
    let y = p - x in
    let xp : x < p = mod_below (q * t) p (omega arith) in
    let s1 : p * k + x ≡ q * t = div-add-mod (q * t) p in
    let s2 : p * j + 1 ≡ r * t = ap (λ (z : ℕ). p * j + z) (sym known) ∙ div-add-mod (r * t) p in
    let s3 : a * q + r ≡ p = div-add-mod p a in
    let s4 : y + x ≡ p = omega arith in
    let whole : a * y + p * t ≡ p * (a + a * k + j) + 1 = inverse_sum p a t q r x y k j s1 s2 s3 s4 in
    mul-mod_second a y p ∙ sym (add-mul-mod_self_left (a * y) p t) ∙ ap (λ (z : ℕ). z % p) whole ∙ mul-add-mod_self_left p (a + a * k + j) 1 ∙ mod-eq_of_lt big

-- what is to be added to a number so that a multiple of the prime is left
pub cleared_by : (p e : ℕ) → 0 < p → (e + (p - e % p) % p * 1) % p ≡ 0
cleared_by p e some =
    let x = e % p in
    let below : x < p = mod_below e p some in
    let k = e / p in
    let s : p * k + x ≡ e = div-add-mod e p in
    let y = p - x in
    let t : e + y ≡ p * (k + 1) + 0 = omega arith in
    ap (λ (z : ℕ). (e + z) % p) (mul-one (y % p)) ∙ add-mod-mod e y p ∙ ap (λ (z : ℕ). z % p) t ∙ mul-add-mod_self_left p (k + 1) 0 ∙ mod-eq_of_lt some
