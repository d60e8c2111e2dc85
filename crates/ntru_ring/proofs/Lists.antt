-- Lists of 761 coefficients, and what becomes of them under a function of each coefficient.
use Rattle.std.proofs.Common.{◌≡◌, ℕ, zero, suc, ◌≤◌, ℤ, pos, ◌*ℤ◌, List, [], ◌∷◌, map, get_or, refl, ◌∙◌, arith, ◌*◌, unsigned_abs, replicate}
use Rattle.std.proofs.lemmas.List.{length-map, get_or_past, length-replicate}
use Rattle.std.proofs.lemmas.Int.{ints, unsigned_abs-mul}
use Rattle.std.proofs.lemmas.Nat.{mul-le}
use Rattle.ntru_ring.specs.Centring.{IsWithin, centred, nearest_multiple}
use Rattle.ntru_ring.specs.Polynomials.{AreNearestMultiples, AreResidues, IsPolynomial, coefficient, tripled, reduced, rounded}
use Rattle.ntru_ring.proofs.Residues.{centred_is, centred_is_residue, centred_within, nearest_multiple_is}

-- zero is within every bound
pub zero_within : (bound : ℕ) → IsWithin bound (pos 0)
zero_within bound = record { low = omega (arith, ints); high = omega (arith, ints) }

map_within : (a b : ℕ) (f : ℤ → ℤ) → ((z : ℤ) → IsWithin a z → IsWithin b (f z)) → (xs : List ℤ) → ((place : ℕ) → IsWithin a (get_or xs place (pos 0))) → (place : ℕ) → IsWithin b (get_or (map f xs) place (pos 0))
map_within a b f keeps [] within place = zero_within b
map_within a b f keeps (x ∷ xs) within zero = keeps x (within 0)
map_within a b f keeps (x ∷ xs) within (suc place) = map_within a b f keeps xs (λ k. within (suc k)) place

-- a function of each coefficient that keeps their range keeps polynomials
pub IsPolynomial-map : (a b : ℕ) (f : ℤ → ℤ) (xs : List ℤ) → ((z : ℤ) → IsWithin a z → IsWithin b (f z)) → IsPolynomial a xs → IsPolynomial b (map f xs)
IsPolynomial-map a b f xs keeps polynomial = record { whole = length-map xs f ∙ polynomial.whole; in_range = map_within a b f keeps xs polynomial.in_range }

pub tripled_is_polynomial : (a : List ℤ) → IsPolynomial 2295 a → IsPolynomial 2295 (tripled a)
tripled_is_polynomial a polynomial = IsPolynomial-map 2295 2295 _ a (λ z _. centred_within 2295 (z *ℤ pos 3)) polynomial

pub reduced_is_polynomial : (a : List ℤ) → IsPolynomial 2295 a → IsPolynomial 1 (reduced a)
reduced_is_polynomial a polynomial = IsPolynomial-map 2295 1 _ a (λ z _. centred_within 1 z) polynomial

-- 2295 is a multiple of 3, so rounding doesn't leave the range
nearest_multiple_within : (z : ℤ) → IsWithin 2295 z → IsWithin 2295 (nearest_multiple z)
nearest_multiple_within z within =
    let n = nearest_multiple_is z in
    record { low = omega (arith, ints, n.multiple.1, n.near.low, n.near.high); high = omega (arith, ints, n.multiple.1, n.near.low, n.near.high) }

pub rounded_is_polynomial : (a : List ℤ) → IsPolynomial 2295 a → IsPolynomial 2295 (rounded a)
rounded_is_polynomial a polynomial = IsPolynomial-map 2295 2295 _ a nearest_multiple_within polynomial

pub lifted_is_polynomial : (a : List ℤ) → IsPolynomial 1 a → IsPolynomial 2295 a
lifted_is_polynomial a polynomial =
    record {
      whole = polynomial.whole;
      in_range = λ place. record { low = omega (arith, ints, polynomial.in_range place); high = omega (arith, ints, polynomial.in_range place) };
    }

-- at each place, past the last one too
pub rounded_is_nearest : (a : List ℤ) → AreNearestMultiples a (rounded a)
rounded_is_nearest [] place = record { multiple = (pos 0, refl); near = zero_within 1 }
rounded_is_nearest (x ∷ xs) zero = nearest_multiple_is x
rounded_is_nearest (x ∷ xs) (suc place) = rounded_is_nearest xs place

-- what is done to each coefficient gives residues
pub tripled_are_residues : (a : List ℤ) → AreResidues 4591 (λ place. coefficient a place *ℤ pos 3) (tripled a)
tripled_are_residues [] place within = record { near = zero_within 2295; congruent = (pos 0, refl) }
tripled_are_residues (x ∷ xs) zero within = centred_is_residue 2295 (x *ℤ pos 3)
tripled_are_residues (x ∷ xs) (suc place) within = tripled_are_residues xs place (omega arith)

pub reduced_are_residues : (a : List ℤ) → AreResidues 3 (coefficient a) (reduced a)
reduced_are_residues [] place within = record { near = zero_within 1; congruent = (pos 0, refl) }
reduced_are_residues (x ∷ xs) zero within = centred_is_residue 1 x
reduced_are_residues (x ∷ xs) (suc place) within = reduced_are_residues xs place (omega arith)

-- coefficients from -1 to 1 are reduced modulo 3 already
pub reduced_same : (a : List ℤ) → ((k : ℕ) → IsWithin 1 (coefficient a k)) → reduced a ≡ a
reduced_same [] within = refl
reduced_same (x ∷ xs) within =
    let first : centred 3 x ≡ x = centred_is 1 x (pos 0) x (within 0) (omega (arith, ints)) in
    let rest : reduced xs ≡ xs = reduced_same xs (λ k. within (suc k)) in
    cc

-- past the last place there is nothing
pub coefficient_past : (bound : ℕ) (a : List ℤ) (place : ℕ) → IsPolynomial bound a → 761 ≤ place → coefficient a place ≡ pos 0
coefficient_past bound a place polynomial past = get_or_past a place (pos 0) (omega (arith, polynomial.whole))

-- a product of integers is within the product of their bounds
within_abs : (m : ℕ) (x : ℤ) → IsWithin m x → unsigned_abs x ≤ m
within_abs m x within = omega (arith, ints, within.low, within.high)

abs_within : (m : ℕ) (x : ℤ) → unsigned_abs x ≤ m → IsWithin m x
abs_within m x small = record { low = omega (arith, ints); high = omega (arith, ints) }

pub product_within : (m n : ℕ) (x y : ℤ) → IsWithin m x → IsWithin n y → IsWithin (m * n) (x *ℤ y)
product_within m n x y left right =
    abs_within (m * n) (x *ℤ y) (rw unsigned_abs-mul (mul-le _ _ m n (within_abs m x left) (within_abs n y right)))

replicate_within : (bound : ℕ) (x : ℤ) (n : ℕ) → IsWithin bound x → (place : ℕ) → IsWithin bound (coefficient (replicate n x) place)
replicate_within bound x zero here place = zero_within bound
replicate_within bound x (suc n) here zero = here
replicate_within bound x (suc n) here (suc place) = replicate_within bound x n here place

-- the same coefficient at every place
pub replicate_is_polynomial : (bound : ℕ) (x : ℤ) → IsWithin bound x → IsPolynomial bound (replicate 761 x)
replicate_is_polynomial bound x here = record { whole = length-replicate 761 x; in_range = replicate_within bound x 761 here }
