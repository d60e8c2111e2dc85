-- The ring's product at a place is linear in its second factor, over the integers.
use lib.IntN.{*ℤ_comm, *ℤ-zero, +ℤ_idl}
use Rattle.std.proofs.Common.{◌≡◌, ℕ, zero, suc, ◌+◌, ◌-◌, arith, sym, ap, ◌∙◌, ℤ, pos, ◌+ℤ◌}
use Rattle.std.specs.Prelude.{◌*ℤ◌}
use Rattle.std.proofs.lemmas.Int.{ints}
use Rattle.ntru_ring.specs.Centring.{IsCongruent}
use Rattle.ntru_ring.specs.Product.{sum_below, convolution, folded}
use Rattle.field_solve.proofs.Integers.{mul-add_left, mul-mul_swap}

-- the coefficient of a product at a place
unfoldable pub coefficient_of : (ℕ → ℤ) → (ℕ → ℤ) → ℕ → ℤ
coefficient_of p c place = folded (convolution p c) place

-- at each place the values of one function are those of another plus g times those of a third
abbrev pub IsSum : (ℕ → ℤ) → (ℕ → ℤ) → ℤ → (ℕ → ℤ) → Type 0
IsSum f a g b = (i : ℕ) → f i ≡ a i +ℤ g *ℤ b i

pub sum_below-linear : (n : ℕ) (f a : ℕ → ℤ) (g : ℤ) (b : ℕ → ℤ) → IsSum f a g b → sum_below n f ≡ sum_below n a +ℤ g *ℤ sum_below n b
unfolding sum_below
sum_below-linear zero f a g b h = omega (arith, ints, *ℤ-zero g)
sum_below-linear (suc n) f a g b h =
    omega (arith, ints, sum_below-linear n f a g b h, h n, mul-add_left g (sum_below n b) (b n))

convolution-linear : (p f a : ℕ → ℤ) (g : ℤ) (b : ℕ → ℤ) → IsSum f a g b → IsSum (convolution p f) (convolution p a) g (convolution p b)
unfolding convolution
convolution-linear p f a g b h s =
    sum_below-linear (suc s) (λ i. p i *ℤ f (s - i)) (λ i. p i *ℤ a (s - i)) g (λ i. p i *ℤ b (s - i))
    (λ i. ap (λ x. p i *ℤ x) (h (s - i)) ∙ mul-add_left (p i) (a (s - i)) (g *ℤ b (s - i)) ∙ ap (λ x. p i *ℤ a (s - i) +ℤ x) (mul-mul_swap (p i) g (b (s - i))))

pub folded-linear : (f a : ℕ → ℤ) (g : ℤ) (b : ℕ → ℤ) → IsSum f a g b → IsSum (folded f) (folded a) g (folded b)
unfolding folded
folded-linear f a g b h zero = omega (arith, ints, h 0, h 761, mul-add_left g (b 0) (b 761))
folded-linear f a g b h (suc m) =
    omega (arith, ints, h (suc m), h (761 + suc m), h (761 + m), mul-add_left g (b (suc m)) (b (761 + suc m)), mul-add_left g (b (suc m) +ℤ b (761 + suc m)) (b (761 + m)))

pub coefficient_of-linear : (p f a : ℕ → ℤ) (g : ℤ) (b : ℕ → ℤ) → IsSum f a g b → IsSum (coefficient_of p f) (coefficient_of p a) g (coefficient_of p b)
unfolding coefficient_of
coefficient_of-linear p f a g b h = folded-linear (convolution p f) (convolution p a) g (convolution p b) (convolution-linear p f a g b h)

zero_function-twice : (z : ℤ) → z ≡ z +ℤ pos 1 *ℤ z → z ≡ pos 0
zero_function-twice z e = omega (arith, ints, e)

pub coefficient_of-zero : (p : ℕ → ℤ) (place : ℕ) → coefficient_of p (λ _. pos 0) place ≡ pos 0
coefficient_of-zero p place =
    zero_function-twice (coefficient_of p (λ _. pos 0) place) (coefficient_of-linear p (λ _. pos 0) (λ _. pos 0) (pos 1) (λ _. pos 0) (λ _. omega (arith, ints)) place)

pub coefficient_of-multiple : (p c : ℕ → ℤ) (g : ℤ) (place : ℕ) → coefficient_of p (λ i. g *ℤ c i) place ≡ g *ℤ coefficient_of p c place
coefficient_of-multiple p c g place =
    coefficient_of-linear p (λ i. g *ℤ c i) (λ _. pos 0) g c (λ i. sym (+ℤ_idl (g *ℤ c i))) place
    ∙ ap (λ z. z +ℤ g *ℤ coefficient_of p c place) (coefficient_of-zero p place) ∙ +ℤ_idl (g *ℤ coefficient_of p c place)

-- factors that are congruent at each place have congruent products
pub coefficient_of-congruent : (m : ℕ) (p c d : ℕ → ℤ) → ((i : ℕ) → IsCongruent m (c i) (d i)) → (place : ℕ) → IsCongruent m (coefficient_of p c place) (coefficient_of p d place)
coefficient_of-congruent m p c d h place =
    let q : ℕ → ℤ = λ i. (h i).0 in
    let linear = coefficient_of-linear p c d (pos m) q (λ i. (h i).1 ∙ ap (λ z. d i +ℤ z) (*ℤ_comm (q i) (pos m))) place in
    (coefficient_of p q place, linear ∙ ap (λ z. coefficient_of p d place +ℤ z) (*ℤ_comm (pos m) (coefficient_of p q place)))
