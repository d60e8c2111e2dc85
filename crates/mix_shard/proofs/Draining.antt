-- Every caller of an even number is done: told one after the other, and by its number.
use Rattle.std.proofs.Common.{◌≡◌, ℕ, zero, suc, ◌+◌, ◌%◌, ◌<◌, ◌↔◌, Bool, true, false, List, [], ◌∷◌, length, drop, get_or, Some, refl, sym, ap, subst, arith}
use Rattle.std.specs.List.{slice_get}
use Rattle.std.proofs.Math.Seq.{drop-cons}
use Rattle.std.proofs.Common.{add-one}
use Rattle.mix_shard.specs.Kept.{AreEvenDone}

split_at : (done : List Bool) (caller : ℕ) → caller < length done → drop caller done ≡ get_or done caller false ∷ drop (caller + 1) done
split_at done caller within = rw (add-one, drop-cons done caller false) refl

-- one caller more
pub even_step : (done : List Bool) (caller : ℕ) (all : Type 0) → caller < length done → (caller % 2 ≡ 0 → get_or done caller false ≡ true)
    → AreEvenDone caller (drop caller done) ↔ all → AreEvenDone (caller + 1) (drop (caller + 1) done) ↔ all
even_step done caller all within over so_far =
    let split = split_at done caller within in (
      λ rest. so_far.0 (subst (λ (d : List Bool). AreEvenDone caller d) (sym split) (over, rest)),
      λ whole. (subst (λ (d : List Bool). AreEvenDone caller d) split (so_far.1 whole)).1,
    )

-- of one told after the other, those of even numbers
even_at : (first : ℕ) (done : List Bool) (place : ℕ) → AreEvenDone first done → place < length done → (first + place) % 2 ≡ 0
    → slice_get done place ≡ Some true
even_at first [] place all within even_number = absurd (omega arith)
even_at first (is_done ∷ others) zero all within even_number = ap Some (all.0 (subst (λ (n : ℕ). n % 2 ≡ 0) (first_one first) even_number))
  where
    first_one : (n : ℕ) → n + 0 ≡ n
    first_one n = omega arith
even_at first (is_done ∷ others) (suc place) all within even_number =
    let same : first + suc place ≡ first + 1 + place = omega arith in
    even_at (first + 1) others place all.1 (omega arith) (subst (λ (n : ℕ). n % 2 ≡ 0) same even_number)

at_even : (first : ℕ) (done : List Bool) → ((place : ℕ) → place < length done → (first + place) % 2 ≡ 0 → slice_get done place ≡ Some true)
    → AreEvenDone first done
at_even first [] each = tt
at_even first (is_done ∷ others) each = (
  λ even_number. first_is (each 0 (omega arith) (subst (λ (n : ℕ). n % 2 ≡ 0) (nothing first) even_number)),
  at_even (first + 1) others (λ place within even_number.
      each (suc place) (omega arith) (subst (λ (n : ℕ). n % 2 ≡ 0) (one_more first place) even_number)),
)
  where
    first_is : Some is_done ≡ Some true → is_done ≡ true
    first_is same = cc

    nothing : (n : ℕ) → n ≡ n + 0
    nothing n = omega arith

    one_more : (n m : ℕ) → n + 1 + m ≡ n + suc m
    one_more n m = omega arith

-- the same from caller 0 on
pub each_done : (done : List Bool) (place : ℕ) → AreEvenDone 0 done → place < length done → place % 2 ≡ 0 → slice_get done place ≡ Some true
each_done done place all within even_number =
    let same : place ≡ 0 + place = omega arith in
    even_at 0 done place all within (subst (λ (n : ℕ). n % 2 ≡ 0) same even_number)

pub all_done : (done : List Bool) → ((place : ℕ) → place < length done → place % 2 ≡ 0 → slice_get done place ≡ Some true) → AreEvenDone 0 done
all_done done each = at_even 0 done (λ place within even_number.
    let same : 0 + place ≡ place = omega arith in
    each place within (subst (λ (n : ℕ). n % 2 ≡ 0) same even_number))
