-- Laws of the integers' product: it distributes over sums, and its factors may be grouped and turned.
use lib.IntN.{*ℤ_comm}
use borrow.Author.Differences.{up, down, same_in, sum_is_lem, product_is}
use Rattle.std.proofs.Common.{◌≡◌, ℕ, ◌*◌, arith, sym, ap, ◌∙◌, ℤ, ◌+ℤ◌}
use Rattle.std.specs.Prelude.{◌*ℤ◌}

pub mul-add_left : (c a b : ℤ) → c *ℤ (a +ℤ b) ≡ c *ℤ a +ℤ c *ℤ b
mul-add_left c a b =
    let s = sum_is_lem a b in
    let l = ap (λ (x : ℕ). up c * x) s in
    let r = ap (λ (x : ℕ). down c * x) s in
    same_in (c *ℤ (a +ℤ b)) (c *ℤ a +ℤ c *ℤ b) (omega (arith, product_is c (a +ℤ b), product_is c a, product_is c b, sum_is_lem (c *ℤ a) (c *ℤ b)))

pub mul-add_right : (a b c : ℤ) → (a +ℤ b) *ℤ c ≡ a *ℤ c +ℤ b *ℤ c
mul-add_right a b c = *ℤ_comm (a +ℤ b) c ∙ mul-add_left c a b ∙ ap (λ x. x +ℤ c *ℤ b) (*ℤ_comm c a) ∙ ap (λ x. a *ℤ c +ℤ x) (*ℤ_comm c b)

pub mul_assoc : (a b c : ℤ) → (a *ℤ b) *ℤ c ≡ a *ℤ (b *ℤ c)
mul_assoc a b c =
    let p = product_is a b in
    let q = product_is b c in
    let p0 = ap (λ (x : ℕ). x * up c) p.0 in
    let p1 = ap (λ (x : ℕ). x * down c) p.0 in
    let p2 = ap (λ (x : ℕ). x * up c) p.1 in
    let p3 = ap (λ (x : ℕ). x * down c) p.1 in
    let q0 = ap (λ (x : ℕ). up a * x) q.0 in
    let q1 = ap (λ (x : ℕ). down a * x) q.0 in
    let q2 = ap (λ (x : ℕ). up a * x) q.1 in
    let q3 = ap (λ (x : ℕ). down a * x) q.1 in
    same_in ((a *ℤ b) *ℤ c) (a *ℤ (b *ℤ c)) (omega (arith, product_is (a *ℤ b) c, product_is a (b *ℤ c)))

-- the outer factor of a product may change places with the one before it
pub mul-mul_swap : (a g b : ℤ) → a *ℤ (g *ℤ b) ≡ g *ℤ (a *ℤ b)
mul-mul_swap a g b = sym (mul_assoc a g b) ∙ ap (λ x. x *ℤ b) (*ℤ_comm a g) ∙ mul_assoc g a b
