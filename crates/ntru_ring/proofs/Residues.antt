-- The centred residue is the one integer in its range that differs by a multiple of the modulus.
use Rattle.std.proofs.Common.{◌≡◌, ℕ, suc, ◌+◌, ◌-◌, ◌*◌, ◌/◌, ◌%◌, ◌<◌, ℤ, pos, negsuc, ◌+ℤ◌, ◌-ℤ◌, ◌*ℤ◌, refl, ap, ◌∙◌, arith}
use Rattle.std.specs.Int.{int_rem_euclid}
use Rattle.std.proofs.lemmas.Int.{ints, int_rem_euclid_is}
use Rattle.std.proofs.lemmas.Nat.{mod-mul-add, mod_below, div-add-mod'}
use Rattle.ntru_ring.specs.Centring.{IsWithin, IsCongruent, IsResidue, centred, IsNearestMultiple, nearest_multiple}

-- what lies m above a multiple of n leaves m
below_itself : (n m : ℕ) → m < n → m % n ≡ m
below_itself n m below = let e : m ≡ 0 * n + m = omega arith in ap (λ x. x % n) e ∙ mod-mul-add 0 n m below

rem_euclid_above : (n m : ℕ) (q : ℤ) → m < n → int_rem_euclid (pos m +ℤ q *ℤ pos n) (pos n) ≡ pos m
rem_euclid_above n m (pos t) below =
    int_rem_euclid_is (pos m +ℤ pos t *ℤ pos n) (pos n) n 0 (t * n + m) (omega arith) refl (omega (arith, ints)) ∙ ap pos (mod-mul-add t n m below)
rem_euclid_above n m (negsuc t) below =
    int_rem_euclid_is (pos m +ℤ negsuc t *ℤ pos n) (pos n) n (suc t) m (omega arith) refl (omega (arith, ints)) ∙ ap pos (below_itself n m below)

-- half of an odd number
pub half_of_odd : (h : ℕ) → (2 * h + 1) / 2 ≡ h
half_of_odd h = omega arith

-- the residue by what lies half the modulus higher
centred_above : (h m : ℕ) (z q : ℤ) → m < 2 * h + 1 → z +ℤ pos h ≡ pos m +ℤ q *ℤ pos (2 * h + 1) → centred (2 * h + 1) z ≡ pos m -ℤ pos h
unfolding centred
centred_above h m z q below e =
    rw half_of_odd (ap (λ y. int_rem_euclid y (pos (2 * h + 1)) -ℤ pos h) e ∙ ap (λ y. y -ℤ pos h) (rem_euclid_above (2 * h + 1) m q below))

-- the residue is what lies within h and differs by a multiple of 2 h + 1
pub centred_is : (h : ℕ) (z q r : ℤ) → IsWithin h r → z ≡ r +ℤ q *ℤ pos (2 * h + 1) → centred (2 * h + 1) z ≡ r
centred_is h z q (pos a) within differs =
    centred_above h (a + h) z q (omega (arith, ints)) (omega (arith, ints)) ∙ omega (arith, ints)
centred_is h z q (negsuc a) within differs =
    centred_above h (h - suc a) z q (omega (arith, ints)) (omega (arith, ints)) ∙ omega (arith, ints)

-- an integer as a multiple of n and what remains
record Parts (n : ℕ) (y : ℤ) : Type 0 where
  rest : ℕ
  times : ℤ
  below : rest < n
  is : y ≡ pos rest +ℤ times *ℤ pos n

parts : (n : ℕ) (y : ℤ) → 0 < n → Parts n y
parts n (pos a) some = record { rest = a % n; times = pos (a / n); below = mod_below a n some; is = omega (arith, ints, div-add-mod' a n) }
parts n (negsuc a) some =
    let short : a % n < n = mod_below a n some in
    record { rest = n - 1 - a % n; times = negsuc (a / n); below = omega arith; is = omega (arith, ints, div-add-mod' a n) }

-- every integer is its residue and a multiple
pub centred_differs : (h : ℕ) (z : ℤ) → IsCongruent (2 * h + 1) z (centred (2 * h + 1) z)
centred_differs h z =
    let p = parts (2 * h + 1) (z +ℤ pos h) (omega arith) in
    let at : centred (2 * h + 1) z ≡ pos p.rest -ℤ pos h = centred_above h p.rest z p.times p.below p.is in
    (p.times, omega (arith, ints, p.is, at))

pub centred_within : (h : ℕ) (z : ℤ) → IsWithin h (centred (2 * h + 1) z)
centred_within h z =
    let p = parts (2 * h + 1) (z +ℤ pos h) (omega arith) in
    let at : centred (2 * h + 1) z ≡ pos p.rest -ℤ pos h = centred_above h p.rest z p.times p.below p.is in
    rw at (record { low = omega (arith, ints, p.below); high = omega (arith, ints, p.below) })

pub centred_is_residue : (h : ℕ) (z : ℤ) → IsResidue (2 * h + 1) z (centred (2 * h + 1) z)
centred_is_residue h z =
    let near : IsWithin ((2 * h + 1) / 2) (centred (2 * h + 1) z) = rw half_of_odd (centred_within h z) in
    record { near = near; congruent = centred_differs h z }

-- the nearest multiple of 3 is one, and there is no other
pub nearest_multiple_is : (z : ℤ) → IsNearestMultiple z (nearest_multiple z)
unfolding nearest_multiple
nearest_multiple_is z =
    let d = centred_differs 1 z in
    let w = centred_within 1 z in
    record { multiple = (d.0, omega (arith, ints, d.1)); near = record { low = omega (arith, ints, w.low, w.high); high = omega (arith, ints, w.low, w.high) } }

pub nearest_multiple_only : (z r : ℤ) → IsNearestMultiple z r → r ≡ nearest_multiple z
unfolding nearest_multiple
nearest_multiple_only z r nearest =
    let q : ℤ = nearest.multiple.0 in
    let is : r ≡ q *ℤ pos 3 = nearest.multiple.1 in
    let within : IsWithin 1 (z -ℤ r) = record { low = omega (arith, ints, nearest.near.high); high = omega (arith, ints, nearest.near.low) } in
    let at : centred 3 z ≡ z -ℤ r = centred_is 1 z q (z -ℤ r) within (omega (arith, ints)) in
    omega (arith, ints, at)
