-- A number and its digits give each other back.
use Rattle.std.proofs.Common.{◌≡◌, ℕ, zero, suc, ◌+◌, ◌-◌, ◌*◌, ◌/◌, ◌%◌, ◌^◌, ◌<◌, ◌≤◌, refl, ap, ◌∙◌, subst, arith, add-one}
use Rattle.std.proofs.lemmas.Nat.{mod-mul-add, div-mul-add, div-add-mod', mul-add-lt, mod_below, div_below}
use Rattle.std.proofs.Math.Nat.{pow-suc, pow-zero, pow-le-pow_right}
use Rattle.ntru_code.specs.declared.packing.Side.{Side}
use Rattle.ntru_code.specs.Packing.{number, digit, last_of, group_number, translated}
use Rattle.ntru_code.specs.Sides.{HasRoom}

low : (base f n : ℕ) → f < base → (f + base * n) % base ≡ f
low base f n below = let e : f + base * n ≡ n * base + f = omega arith in ap (λ x. x % base) e ∙ mod-mul-add n base f below

high : (base f n : ℕ) → f < base → (f + base * n) / base ≡ n
high base f n below = let e : f + base * n ≡ n * base + f = omega arith in ap (λ x. x / base) e ∙ div-mul-add n base f below

-- each digit of the number is the one that it was made of
pub digit_of_number : (base : ℕ) (f : ℕ → ℕ) → ((k : ℕ) → f k < base) → (last place start : ℕ) → place ≤ last → digit base last place (number base f start last) ≡ f (start + place)
unfolding digit number
digit_of_number base f below zero place start within = let e : start ≡ start + place = omega arith in ap f e
digit_of_number base f below (suc last) zero start within =
    let e : start ≡ start + 0 = omega arith in low base (f start) (number base f (suc start) last) (below start) ∙ ap f e
digit_of_number base f below (suc last) (suc place) start within =
    let e : suc start + place ≡ start + suc place = omega arith in
    ap (digit base last place) (high base (f start) (number base f (suc start) last) (below start)) ∙ digit_of_number base f below last place (suc start) (omega arith) ∙ ap f e

-- the number of its own digits is the number
pub number_of_digits : (base : ℕ) (f : ℕ → ℕ) (last start value : ℕ) → ((place : ℕ) → place ≤ last → f (start + place) ≡ digit base last place value) → number base f start last ≡ value
unfolding digit number
number_of_digits base f zero start value same = let e : start ≡ start + 0 = omega arith in ap f e ∙ same 0 (omega arith)
number_of_digits base f (suc last) start value same =
    let e : start ≡ start + 0 = omega arith in
    let first : f start ≡ value % base = ap f e ∙ same 0 (omega arith) in
    let rest : number base f (suc start) last ≡ value / base =
    number_of_digits base f last (suc start) (value / base)
    (λ place within. let s : suc start + place ≡ start + suc place = omega arith in ap f s ∙ same (suc place) (omega arith)) in
    omega (arith, first, ap (λ n. base * n) rest, div-add-mod' value base)

power_one : (base : ℕ) → base ^ 1 ≡ base
power_one base = pow-suc base 0 ∙ ap (λ x. x * base) (pow-zero base) ∙ omega arith

-- and it is below the power of the base
pub number_below : (base : ℕ) (f : ℕ → ℕ) → ((k : ℕ) → f k < base) → (last start : ℕ) → number base f start last < base ^ suc last
unfolding number
number_below base f below zero start = omega (arith, below start, power_one base)
number_below base f below (suc last) start =
    omega (arith, mul-add-lt (number base f (suc start) last) base (f start) (base ^ suc last) (number_below base f below last (suc start)) (below start), pow-suc base (suc last))

-- a digit of a number that has no more digits is below the base
pub digit_below : (base : ℕ) → 0 < base → (last place value : ℕ) → place ≤ last → value < base ^ suc last → digit base last place value < base
unfolding digit
digit_below base some zero place value within small = omega (arith, small, power_one base)
digit_below base some (suc last) zero value within small = mod_below value base some
digit_below base some (suc last) (suc place) value within small =
    digit_below base some last place (value / base) (omega arith) (div_below value base (base ^ suc last) some (subst (λ m. value < m) (pow-suc base (suc last)) small))

-- a group's last digit lies within it
pub last_in_group : (side : Side) (group : ℕ) → 0 < side.group → last_of side group < side.group
unfolding last_of
last_in_group side group some = omega arith

pub last_in_count : (side : Side) (group : ℕ) → 0 < side.group → group * side.group < side.count → group * side.group + last_of side group < side.count
unfolding last_of
last_in_count side group some inside = omega arith

-- each place lies in its group
pub place_in_group : (side : Side) (place : ℕ) → 0 < side.group → place < side.count → place % side.group ≤ last_of side (place / side.group)
unfolding last_of
place_in_group side place some inside = omega (arith, mod_below place side.group some, div-add-mod' place side.group)

pub group_in_count : (side : Side) (place : ℕ) → place < side.count → place / side.group * side.group < side.count
group_in_count side place inside = omega (arith, div-add-mod' place side.group)

-- the digits that one side has of a group's number make up that number
pub same_number : (from to : Side) (f g : ℕ → ℕ) → 0 < to.group
    → ((k : ℕ) → k < to.count → g k ≡ translated from to f k)
    → (group : ℕ) → group * to.group < to.count → group_number to g group ≡ group_number from f group
unfolding translated group_number
same_number from to f g some same group here =
    let value : ℕ = number from.base f (group * from.group) (last_of from group) in
    let digits : (j : ℕ) → j ≤ last_of to group → g (group * to.group + j) ≡ digit to.base (last_of to group) j value =
    λ j within.
    let short : j < to.group = omega (arith, last_in_group to group some) in
    same (group * to.group + j) (omega (arith, last_in_count to group some here))
    ∙ ap (λ h. digit to.base (last_of to h) ((group * to.group + j) % to.group) (number from.base f (h * from.group) (last_of from h))) (div-mul-add group to.group j short)
    ∙ ap (λ r. digit to.base (last_of to group) r value) (mod-mul-add group to.group j short) in
    number_of_digits to.base g (last_of to group) (group * to.group) value digits

-- there and back: what was packed is unpacked as it was, in either direction
pub back : (from to : Side) (f g : ℕ → ℕ) → 0 < from.group → 0 < to.group
    → ((k : ℕ) → f k < from.base)
    → ((k : ℕ) → k < to.count → g k ≡ translated from to f k)
    → ((group : ℕ) → group * from.group < from.count → group * to.group < to.count)
    → (place : ℕ) → place < from.count → translated to from g place ≡ f place
unfolding translated group_number
back from to f g some_from some_to below same groups place inside =
    let group : ℕ = place / from.group in
    let here : group * to.group < to.count = groups group (group_in_count from place inside) in
    ap (digit from.base (last_of from group) (place % from.group)) (same_number from to f g some_to same group here)
    ∙ digit_of_number from.base f below (last_of from group) (place % from.group) (group * from.group) (place_in_group from place some_from inside)
    ∙ ap f (div-add-mod' place from.group)

-- the steps of the code's loops
pub digit_more : (base last place last' place' value : ℕ) → last ≡ suc last' → place ≡ suc place' → digit base last place value ≡ digit base last' place' (value / base)
unfolding digit
digit_more base last place last' place' value e f = rw (e, f) refl

pub digit_last : (base last place value : ℕ) → last ≡ 0 → digit base last place value ≡ value
unfolding digit
digit_last base last place value e = rw e refl

pub digit_first : (base last place value : ℕ) → 0 < last → place ≡ 0 → digit base last place value ≡ value % base
unfolding digit
digit_first base zero place value some e = absurd (omega arith)
digit_first base (suc last) place value some e = rw e refl

pub number_end : (base : ℕ) (f : ℕ → ℕ) (start last : ℕ) → last ≡ 0 → number base f start last ≡ f start
unfolding number
number_end base f start last e = rw e refl

pub number_step : (base : ℕ) (f : ℕ → ℕ) (start last last' : ℕ) → last ≡ suc last' → number base f start last ≡ number base f (start + 1) last' * base + f start
unfolding number
number_step base f start last last' e = rw (e, add-one) (omega arith)

-- a number of fewer digits is no larger than the greatest that fits
pub number_fits : (base : ℕ) (f : ℕ → ℕ) → ((k : ℕ) → f k < base) → (last start most : ℕ) → last ≤ most → base ^ suc most ≤ 2 ^ 64 → number base f start last < 2 ^ 64
number_fits base f below last start most within fits =
    let some : 0 < base = omega (arith, below 0) in
    let power : base ^ suc last ≤ base ^ suc most = pow-le-pow_right some (omega arith) in
    omega (arith, number_below base f below last start)

pub number_before : (base : ℕ) (f : ℕ → ℕ) (start last place : ℕ) → place ≤ last → 0 < place
    → number base f (start + (place - 1)) (last - (place - 1)) ≡ number base f (start + place) (last - place) * base + f (start + (place - 1))
number_before base f start last place within some =
    let e : start + (place - 1) + 1 ≡ start + place = omega arith in
    number_step base f (start + (place - 1)) (last - (place - 1)) (last - place) (omega arith) ∙ ap (λ s. number base f s (last - place) * base + f (start + (place - 1))) e

pub power_fits : (base last group : ℕ) → 0 < base → suc last ≤ group → base ^ group ≤ 2 ^ 64 → base ^ suc last ≤ 2 ^ 64
power_fits base last group some within fits =
    let power : base ^ suc last ≤ base ^ group = pow-le-pow_right some within in
    omega (arith, power)

-- a digit of a side whose groups have room is below its base
pub translated_below : (from to : Side) (f : ℕ → ℕ) → ((k : ℕ) → f k < from.base) → HasRoom from to → 0 < to.group → 0 < to.base → (place : ℕ) → place < to.count → translated from to f place < to.base
unfolding translated group_number
translated_below from to f below room some_group some_base place inside =
    let group : ℕ = place / to.group in
    let value : ℕ = number from.base f (group * from.group) (last_of from group) in
    let small : value < to.base ^ suc (last_of to group) =
    omega (arith, number_below from.base f below (last_of from group) (group * from.group), room group (group_in_count to place inside)) in
    digit_below to.base some_base (last_of to group) (place % to.group) value (place_in_group to place some_group inside) small
