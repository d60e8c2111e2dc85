-- The product as a sum of multiples of the powers of x, and what follows: of three factors the last two may change
-- places.
use lib.IntN.{*ℤ-zero}
use borrow.Author.Tests.{lt-ltb, le-ltb}
use Rattle.std.proofs.Common.{◌≡◌, ℕ, zero, suc, ◌+◌, ◌-◌, ◌<◌, ◌≤◌, cond, Bool, ltb, inl, inr, arith, refl, sym, ap, ◌∙◌, ℤ, pos, ◌+ℤ◌, slice_index}
use Rattle.std.proofs.Math.Nat.{zero-add, suc-add, add_comm}
use Rattle.std.specs.Prelude.{◌*ℤ◌}
use Rattle.std.proofs.lemmas.Bool.{cases_lt, cases_eq}
use Rattle.std.proofs.lemmas.Int.{ints}
use Rattle.ntru_ring.specs.Product.{sum_below}
use Rattle.field_solve.specs.Elimination.{raised, times}
use Rattle.field_solve.proofs.Integers.{mul-add_left, mul-mul_swap}
use Rattle.field_solve.proofs.Linear.{IsSum, coefficient_of, coefficient_of-linear, coefficient_of-zero, sum_below-linear}
use Rattle.field_solve.proofs.Units.{unit_list, unit_list-at, unit_list-apart, times-unit_zero, times-unit_above, raised-below, raised-above}

-- nothing stands from 761 on
abbrev pub IsShort : (ℕ → ℤ) → Type 0
IsShort f = (place : ℕ) → 761 ≤ place → f place ≡ pos 0

-- the first n values
unfoldable pub cut : ℕ → (ℕ → ℤ) → ℕ → ℤ
cut n f place = cond (ltb place n) (f place) (pos 0)

pub cut-below : (n : ℕ) (f : ℕ → ℤ) (place : ℕ) → place < n → cut n f place ≡ f place
unfolding cut
cut-below n f place below = ap (λ (t : Bool). cond t (f place) (pos 0)) (lt-ltb place n below)

pub cut-above : (n : ℕ) (f : ℕ → ℤ) (place : ℕ) → n ≤ place → cut n f place ≡ pos 0
unfolding cut
cut-above n f place above = ap (λ (t : Bool). cond t (f place) (pos 0)) (le-ltb place n above)

unit : ℕ → ℕ → ℤ
unit power place = pos (slice_index (unit_list power) place)

-- the product with a power of x, at a place
pub by_power : (ℕ → ℤ) → ℕ → ℕ → ℤ
by_power p power place = coefficient_of p (unit power) place

cut-next : (n : ℕ) (c : ℕ → ℤ) → IsSum (cut (suc n) c) (cut n c) (c n) (unit n)
unfolding unit
cut-next n c place = elim (cases_eq place n) [
  | inl same ↦
      let one : slice_index (unit_list n) place ≡ 1 = ap (slice_index (unit_list n)) same ∙ unit_list-at n in
      let value : c place ≡ c n = ap c same in
      omega (arith, ints, cut-below (suc n) c place (omega arith), cut-above n c place (omega arith), ap (λ (k : ℕ). c n *ℤ pos k) one, value)
  | inr apart ↦
      let none : slice_index (unit_list n) place ≡ 0 = unit_list-apart n place apart in
      let nothing_more : c n *ℤ pos (slice_index (unit_list n) place) ≡ pos 0 = ap (λ (k : ℕ). c n *ℤ pos k) none ∙ *ℤ-zero (c n) in
      elim (cases_lt place n) [
        | inl below ↦ omega (arith, ints, cut-below (suc n) c place (omega arith), cut-below n c place below, nothing_more)
        | inr above ↦ omega (arith, ints, cut-above (suc n) c place (omega arith), cut-above n c place above, nothing_more)
      ]
]

-- the first n coefficients of the second factor, each with its power
sum_of_cut : (n : ℕ) (p c : ℕ → ℤ) (place : ℕ) → coefficient_of p (cut n c) place ≡ sum_below n (λ j. c j *ℤ by_power p j place)
unfolding sum_below by_power
sum_of_cut zero p c place = ap (λ (f : ℕ → ℤ). coefficient_of p f place) (λ t i. cut-above 0 c i (omega arith) t) ∙ coefficient_of-zero p place
sum_of_cut (suc n) p c place =
    coefficient_of-linear p (cut (suc n) c) (cut n c) (c n) (unit n) (cut-next n c) place
    ∙ ap (λ z. z +ℤ c n *ℤ coefficient_of p (unit n) place) (sum_of_cut n p c place)

pub cut-short : (c : ℕ → ℤ) → IsShort c → (place : ℕ) → cut 761 c place ≡ c place
cut-short c short place = elim (cases_lt place 761) [
  | inl below ↦ cut-below 761 c place below
  | inr above ↦ cut-above 761 c place above ∙ sym (short place above)
]

pub sum_of_powers : (p c : ℕ → ℤ) (place : ℕ) → IsShort c → coefficient_of p c place ≡ sum_below 761 (λ j. c j *ℤ by_power p j place)
sum_of_powers p c place short = sym (ap (λ (f : ℕ → ℤ). coefficient_of p f place) (λ t i. cut-short c short i t)) ∙ sum_of_cut 761 p c place

-- once more times x
unfoldable pub shifted : (ℕ → ℤ) → ℕ → ℤ
shifted f zero = f 760
shifted f (suc zero) = f 0 +ℤ f 760
shifted f (suc (suc place)) = cut 760 (λ k. f k) (suc place)

unfoldable pub shifts : (ℕ → ℤ) → ℕ → ℕ → ℤ
shifts f zero = f
shifts f (suc n) = shifted (shifts f n)

shifted-linear : (f a : ℕ → ℤ) (g : ℤ) (b : ℕ → ℤ) → IsSum f a g b → IsSum (shifted f) (shifted a) g (shifted b)
unfolding shifted
shifted-linear f a g b h zero = h 760
shifted-linear f a g b h (suc zero) = omega (arith, ints, h 0, h 760, mul-add_left g (b 0) (b 760))
shifted-linear f a g b h (suc (suc place)) = elim (cases_lt (suc place) 760) [
  | inl below ↦ cut-below 760 f (suc place) below ∙ h (suc place) ∙ ap (λ z. z +ℤ g *ℤ b (suc place)) (sym (cut-below 760 a (suc place) below)) ∙ ap (λ z. cut 760 a (suc place) +ℤ g *ℤ z) (sym (cut-below 760 b (suc place) below))
  | inr above ↦
      let none : g *ℤ cut 760 b (suc place) ≡ pos 0 = ap (λ z. g *ℤ z) (cut-above 760 b (suc place) above) ∙ *ℤ-zero g in
      omega (arith, ints, cut-above 760 f (suc place) above, cut-above 760 a (suc place) above, none)
]

shifts-linear : (n : ℕ) (f a : ℕ → ℤ) (g : ℤ) (b : ℕ → ℤ) → IsSum f a g b → IsSum (shifts f n) (shifts a n) g (shifts b n)
unfolding shifts
shifts-linear zero f a g b h = h
shifts-linear (suc n) f a g b h = shifted-linear (shifts f n) (shifts a n) g (shifts b n) (shifts-linear n f a g b h)

shifts-shifts : (f : ℕ → ℤ) (i j : ℕ) → shifts (shifts f i) j ≡ shifts f (j + i)
unfolding shifts
shifts-shifts f i zero = ap (shifts f) (sym (zero-add i))
shifts-shifts f i (suc j) = ap shifted (shifts-shifts f i j) ∙ ap (shifts f) (sym (suc-add j i))

shifted-same : (f g : ℕ → ℤ) → ((i : ℕ) → i < 761 → f i ≡ g i) → (place : ℕ) → shifted f place ≡ shifted g place
unfolding shifted
shifted-same f g h zero = h 760 (omega arith)
shifted-same f g h (suc zero) = ap (λ z. z +ℤ f 760) (h 0 (omega arith)) ∙ ap (λ z. g 0 +ℤ z) (h 760 (omega arith))
shifted-same f g h (suc (suc place)) = elim (cases_lt (suc place) 760) [
  | inl below ↦ cut-below 760 f (suc place) below ∙ h (suc place) (omega arith) ∙ sym (cut-below 760 g (suc place) below)
  | inr above ↦ cut-above 760 f (suc place) above ∙ sym (cut-above 760 g (suc place) above)
]

shifted-short : (f : ℕ → ℤ) → IsShort (shifted f)
unfolding shifted
shifted-short f zero h = absurd (omega arith)
shifted-short f (suc zero) h = absurd (omega arith)
shifted-short f (suc (suc place)) h = cut-above 760 f (suc place) (omega arith)

shifts-short : (n : ℕ) (f : ℕ → ℤ) → IsShort f → IsShort (shifts f n)
unfolding shifts
shifts-short zero f h = h
shifts-short (suc n) f h = shifted-short (shifts f n)

raised-next : (p : ℕ → ℤ) (power place : ℕ) → raised p (suc power) (suc place) ≡ raised p power place
raised-next p power place = elim (cases_lt place power) [
  | inl below ↦ raised-below p (suc power) (suc place) (omega arith) ∙ sym (raised-below p power place below)
  | inr above ↦
      let same : suc place - suc power ≡ place - power = omega arith in
      raised-above p (suc power) (suc place) (omega arith) ∙ ap p same ∙ sym (raised-above p power place above)
]

raised-past : (p : ℕ → ℤ) (power place : ℕ) → IsShort p → 761 + power ≤ place → raised p power place ≡ pos 0
raised-past p power place short far = raised-above p power place (omega arith) ∙ short (place - power) (omega arith)

by_power-first : (p : ℕ → ℤ) (power : ℕ) → by_power p power 0 ≡ raised p power 0 +ℤ raised p power 761
unfolding by_power unit coefficient_of times
by_power-first p power = times-unit_zero p power 0 refl

by_power-above : (p : ℕ → ℤ) (power place : ℕ) → 0 < place → by_power p power place ≡ raised p power place +ℤ raised p power (761 + place) +ℤ raised p power (760 + place)
unfolding by_power unit coefficient_of times
by_power-above p power place some = times-unit_above p power place some

raised-none : (p : ℕ → ℤ) (place : ℕ) → raised p 0 place ≡ p place
raised-none p place =
    let same : place - 0 ≡ place = omega arith in
    raised-above p 0 place (omega arith) ∙ ap p same

by_power-none : (p : ℕ → ℤ) (place : ℕ) → IsShort p → by_power p 0 place ≡ p place
by_power-none p zero short = omega (arith, ints, by_power-first p 0, raised-none p 0, raised-past p 0 761 short (omega arith))
by_power-none p (suc place) short =
    omega (arith, ints, by_power-above p 0 (suc place) (omega arith), raised-none p (suc place), raised-past p 0 (761 + suc place) short (omega arith), raised-past p 0 (760 + suc place) short (omega arith))

by_power-next : (p : ℕ → ℤ) (power place : ℕ) → IsShort p → suc power < 761 → place < 761 → by_power p (suc power) place ≡ shifted (by_power p power) place
unfolding shifted
by_power-next p power zero short small within =
    omega (arith, ints, by_power-first p (suc power), raised-below p (suc power) 0 (omega arith), raised-next p power 760, by_power-above p power 760 (omega arith), raised-past p power 1521 short (omega arith), raised-past p power 1520 short (omega arith))
by_power-next p power (suc zero) short small within =
    omega (arith, ints, by_power-above p (suc power) 1 (omega arith), raised-next p power 0, raised-next p power 761, raised-next p power 760, by_power-first p power, by_power-above p power 760 (omega arith), raised-past p power 1521 short (omega arith), raised-past p power 1520 short (omega arith))
by_power-next p power (suc (suc place)) short small within =
    let far : 761 + suc (suc place) ≡ suc (761 + suc place) = omega arith in
    let near : 760 + suc (suc place) ≡ suc (760 + suc place) = omega arith in
    let one = ap (raised p (suc power)) far ∙ raised-next p power (761 + suc place) in
    let two = ap (raised p (suc power)) near ∙ raised-next p power (760 + suc place) in
    by_power-above p (suc power) (suc (suc place)) (omega arith)
    ∙ ap (λ z. z +ℤ raised p (suc power) (761 + suc (suc place)) +ℤ raised p (suc power) (760 + suc (suc place))) (raised-next p power (suc place))
    ∙ ap (λ z. raised p power (suc place) +ℤ z +ℤ raised p (suc power) (760 + suc (suc place))) one
    ∙ ap (λ z. raised p power (suc place) +ℤ raised p power (761 + suc place) +ℤ z) two
    ∙ sym (by_power-above p power (suc place) (omega arith)) ∙ sym (cut-below 760 (by_power p power) (suc place) (omega arith))

by_power-shifts : (p : ℕ → ℤ) (power place : ℕ) → IsShort p → power < 761 → place < 761 → by_power p power place ≡ shifts p power place
unfolding shifts
by_power-shifts p zero place short small within = by_power-none p place short
by_power-shifts p (suc power) place short small within =
    by_power-next p power place short small within
    ∙ shifted-same (by_power p power) (shifts p power) (λ i below. by_power-shifts p power i short (omega arith) below) place

pub sum_below-same : (n : ℕ) (f g : ℕ → ℤ) → ((i : ℕ) → i < n → f i ≡ g i) → sum_below n f ≡ sum_below n g
unfolding sum_below
sum_below-same zero f g h = refl
sum_below-same (suc n) f g h = ap (λ z. z +ℤ f n) (sum_below-same n f g (λ i below. h i (omega arith))) ∙ ap (λ z. sum_below n g +ℤ z) (h n (omega arith))

sum_below-none : (n : ℕ) (f : ℕ → ℤ) → ((i : ℕ) → f i ≡ pos 0) → sum_below n f ≡ pos 0
unfolding sum_below
sum_below-none zero f h = refl
sum_below-none (suc n) f h = omega (arith, ints, sum_below-none n f h, h n)

sum_of_shifts : (p c : ℕ → ℤ) (place : ℕ) → IsShort p → IsShort c → place < 761 → coefficient_of p c place ≡ sum_below 761 (λ j. c j *ℤ shifts p j place)
sum_of_shifts p c place short_p short_c within =
    sum_of_powers p c place short_c
    ∙ sum_below-same 761 (λ j. c j *ℤ by_power p j place) (λ j. c j *ℤ shifts p j place) (λ j below. ap (λ z. c j *ℤ z) (by_power-shifts p j place short_p below within))

-- the product in the ring, as a function that is 0 from 761 on
abbrev pub in_ring : (ℕ → ℤ) → (ℕ → ℤ) → ℕ → ℤ
in_ring a b = cut 761 (coefficient_of a b)

pub in_ring-short : (a b : ℕ → ℤ) → IsShort (in_ring a b)
in_ring-short a b place above = cut-above 761 (coefficient_of a b) place above

in_ring-sum : (a b : ℕ → ℤ) (place : ℕ) → IsShort a → IsShort b → in_ring a b place ≡ sum_below 761 (λ i. b i *ℤ shifts a i place)
in_ring-sum a b place short_a short_b = elim (cases_lt place 761) [
  | inl below ↦ cut-below 761 (coefficient_of a b) place below ∙ sum_of_shifts a b place short_a short_b below
  | inr above ↦
      cut-above 761 (coefficient_of a b) place above
      ∙ sym (sum_below-none 761 (λ i. b i *ℤ shifts a i place) (λ i. ap (λ z. b i *ℤ z) (shifts-short i a short_a place above) ∙ *ℤ-zero (b i)))
]

twice_is_zero : (z : ℤ) → z ≡ z +ℤ pos 1 *ℤ z → z ≡ pos 0
twice_is_zero z e = omega (arith, ints, e)

shifts-sum : (n m : ℕ) (b : ℕ → ℤ) (A : ℕ → ℕ → ℤ) (place : ℕ) → shifts (λ i. sum_below n (λ j. b j *ℤ A j i)) m place ≡ sum_below n (λ j. b j *ℤ shifts (A j) m place)
unfolding sum_below
shifts-sum zero m b A place = twice_is_zero (shifts (λ i. pos 0) m place) (shifts-linear m (λ i. pos 0) (λ i. pos 0) (pos 1) (λ i. pos 0) (λ i. omega (arith, ints)) place)
shifts-sum (suc n) m b A place =
    shifts-linear m (λ i. sum_below n (λ j. b j *ℤ A j i) +ℤ b n *ℤ A n i) (λ i. sum_below n (λ j. b j *ℤ A j i)) (b n) (A n) (λ i. refl) place
    ∙ ap (λ z. z +ℤ b n *ℤ shifts (A n) m place) (shifts-sum n m b A place)

sums_turned : (n m : ℕ) (b c : ℕ → ℤ) (F : ℕ → ℕ → ℤ) → sum_below n (λ j. c j *ℤ sum_below m (λ i. b i *ℤ F i j)) ≡ sum_below m (λ i. b i *ℤ sum_below n (λ j. c j *ℤ F i j))
unfolding sum_below
sums_turned zero m b c F = sym (sum_below-none m (λ i. b i *ℤ pos 0) (λ i. *ℤ-zero (b i)))
sums_turned (suc n) m b c F =
    ap (λ z. z +ℤ c n *ℤ sum_below m (λ i. b i *ℤ F i n)) (sums_turned n m b c F)
    ∙ sym (sum_below-linear m (λ i. b i *ℤ (sum_below n (λ j. c j *ℤ F i j) +ℤ c n *ℤ F i n)) (λ i. b i *ℤ sum_below n (λ j. c j *ℤ F i j)) (c n) (λ i. b i *ℤ F i n)
    (λ i. mul-add_left (b i) (sum_below n (λ j. c j *ℤ F i j)) (c n *ℤ F i n) ∙ ap (λ z. b i *ℤ sum_below n (λ j. c j *ℤ F i j) +ℤ z) (mul-mul_swap (b i) (c n) (F i n))))

twice_in_ring : (a b c : ℕ → ℤ) (place : ℕ) → IsShort a → IsShort b → IsShort c → place < 761
    → coefficient_of (in_ring a b) c place ≡ sum_below 761 (λ j. c j *ℤ sum_below 761 (λ i. b i *ℤ shifts a (j + i) place))
twice_in_ring a b c place short_a short_b short_c within =
    let sums : ℕ → ℤ = λ k. sum_below 761 (λ i. b i *ℤ shifts a i k) in
    let same : in_ring a b ≡ sums = λ t k. in_ring-sum a b k short_a short_b t in
    sum_of_shifts (in_ring a b) c place (in_ring-short a b) short_c within
    ∙ sum_below-same 761 (λ j. c j *ℤ shifts (in_ring a b) j place) (λ j. c j *ℤ sum_below 761 (λ i. b i *ℤ shifts a (j + i) place))
    (λ j below. ap (λ z. c j *ℤ z)
    (ap (λ (f : ℕ → ℤ). shifts f j place) same ∙ shifts-sum 761 j b (shifts a) place
    ∙ sum_below-same 761 (λ i. b i *ℤ shifts (shifts a i) j place) (λ i. b i *ℤ shifts a (j + i) place) (λ i _. ap (λ (f : ℕ → ℤ). b i *ℤ f place) (shifts-shifts a i j))))

-- of three factors the last two may change places
pub in_ring-turned : (a b c : ℕ → ℤ) (place : ℕ) → IsShort a → IsShort b → IsShort c → place < 761 → coefficient_of (in_ring a b) c place ≡ coefficient_of (in_ring a c) b place
in_ring-turned a b c place short_a short_b short_c within =
    twice_in_ring a b c place short_a short_b short_c within
    ∙ sums_turned 761 761 b c (λ i j. shifts a (j + i) place)
    ∙ sum_below-same 761 (λ i. b i *ℤ sum_below 761 (λ j. c j *ℤ shifts a (j + i) place)) (λ i. b i *ℤ sum_below 761 (λ j. c j *ℤ shifts a (i + j) place))
    (λ i _. ap (λ z. b i *ℤ z) (sum_below-same 761 (λ j. c j *ℤ shifts a (j + i) place) (λ j. c j *ℤ shifts a (i + j) place) (λ j _. ap (λ (n : ℕ). c j *ℤ shifts a n place) (add_comm j i))))
    ∙ sym (twice_in_ring a c b place short_a short_c short_b within)
