-- Counts of words that aren't below a threshold.
use Rattle.std.proofs.Common.{◌≡◌, ℕ, zero, suc, ◌+◌, ◌-◌, ◌*◌, ◌/◌, ◌%◌, ◌<◌, ◌≤◌, ◌⊎◌, min, refl, sym, ap, ◌∙◌, inl, inr, arith, add-one}
use Rattle.std.proofs.Math.Nat.{mul-le-mul_left}
use Rattle.std.specs.Int.{div_ceil}
use Rattle.std.proofs.lemmas.Bool.{cases_lt, le-ltb, lt-ltb}
use Rattle.std.proofs.lemmas.Grind.{div_ceil_times}
use Rattle.sphinx_make.specs.Drawing.{AllPass, FirstBelow, NoneInVain, drawn_delay, most_units, passed, words_taken}
use Rattle.sphinx_make.specs.declared.drawing.Draw.{Draw}

-- words pass up to a count where all before it do, and it is the limit or its word is below the threshold
pub passed-is : (threshold : ℕ) (words : ℕ → ℕ) (most count : ℕ) → count ≤ most → AllPass threshold words count → (count ≡ most) ⊎ (words count < threshold) → passed threshold words most ≡ count
unfolding passed
passed-is threshold words zero count within before end = omega arith
passed-is threshold words (suc most) zero within before (inl e) = absurd (omega arith)
passed-is threshold words (suc most) zero within before (inr below) = rw (lt-ltb (words 0) threshold below) refl
passed-is threshold words (suc most) (suc count) within before end =
    let rest : passed threshold (λ place. words (place + 1)) most ≡ count =
    passed-is threshold (λ place. words (place + 1)) most count (omega arith) (λ place h. before (place + 1) (omega arith))
    (elim end [ inl e ↦ inl (omega arith) | inr below ↦ inr (rw add-one below) ]) in
    rw (le-ltb (words 0) threshold (before 0 (omega arith)), rest) refl

-- as many units as reach the cap
reaches_cap : (cap unit count : ℕ) → 0 < unit → div_ceil cap unit ≤ count → cap ≤ count * unit
reaches_cap cap unit count one h =
    elim (cases_lt 0 (cap % unit)) [
      | inl rest ↦ (let many : cap / unit + 1 ≤ count = omega arith in omega (arith, mul-le-mul_left unit many))
      | inr none ↦ (let many : cap / unit ≤ count = omega arith in omega (arith, mul-le-mul_left unit many))
    ]

-- the delay is so many units as words pass before the first that doesn't, and no more than the cap
pub drawn_delay-counted : (draw : Draw) (words : ℕ → ℕ) (count : ℕ) → 0 < draw.unit → FirstBelow draw.threshold words count → drawn_delay draw words ≡ min (count * draw.unit) draw.cap
drawn_delay-counted draw words count one first =
    let most : ℕ = most_units draw in
    elim (cases_lt most count) [
      | inl past ↦ (
          let all : passed draw.threshold words most ≡ most = passed-is draw.threshold words most most (omega arith) (λ place h. first.before place (omega arith)) (inl refl) in
          let reached : draw.cap ≤ most * draw.unit = reaches_cap draw.cap draw.unit most one (omega arith) in
          let also : draw.cap ≤ count * draw.unit = reaches_cap draw.cap draw.unit count one (omega arith) in
          ap (λ n. min (n * draw.unit) draw.cap) all ∙ omega arith)
      | inr within ↦ ap (λ n. min (n * draw.unit) draw.cap) (passed-is draw.threshold words most count within first.before (inr first.first))
    ]

-- the delay is the cap where no word that may be looked at is below the threshold
pub drawn_delay-capped : (draw : Draw) (words : ℕ → ℕ) → 0 < draw.unit → AllPass draw.threshold words (most_units draw) → drawn_delay draw words ≡ draw.cap
drawn_delay-capped draw words one before =
    let most : ℕ = most_units draw in
    let all : passed draw.threshold words most ≡ most = passed-is draw.threshold words most most (omega arith) before (inl refl) in
    let reached : draw.cap ≤ most * draw.unit = reaches_cap draw.cap draw.unit most one (omega arith) in
    ap (λ n. min (n * draw.unit) draw.cap) all ∙ omega arith

-- ---- no word is taken in vain

-- a word that passes, in front of those behind it that do
each_behind : (threshold : ℕ) (words : ℕ → ℕ) (count : ℕ) → threshold ≤ words 0 → AllPass threshold (λ place. words (place + 1)) count → AllPass threshold words (suc count)
each_behind threshold words count above behind zero h = above
each_behind threshold words count above behind (suc place) h = rw (sym (add-one place)) (behind place (omega arith))

-- words that pass aren't below the threshold
pub passed-all : (threshold : ℕ) (words : ℕ → ℕ) (most : ℕ) → AllPass threshold words (passed threshold words most)
unfolding passed
passed-all threshold words zero = λ place h. absurd (omega arith)
passed-all threshold words (suc most) =
    elim (cases_lt (words 0) threshold) [
      | inl below ↦ rw (lt-ltb (words 0) threshold below) (λ place h. absurd (omega arith))
      | inr above ↦ rw (le-ltb (words 0) threshold above) (each_behind threshold words (passed threshold (λ place. words (place + 1)) most) above (passed-all threshold (λ place. words (place + 1)) most))
    ]

-- units that don't reach the cap
below_cap : (cap unit count : ℕ) → 0 < unit → count < div_ceil cap unit → count * unit < cap
below_cap cap unit count one h = grind (arith, div_ceil_times cap unit one)

pub none_in_vain : (draw : Draw) (words : ℕ → ℕ) → 0 < draw.unit → NoneInVain draw words (words_taken draw words)
none_in_vain draw words one =
    let most : ℕ = most_units draw in
    let count : ℕ = passed draw.threshold words most in
    record {
      before = λ place h. passed-all draw.threshold words most place (omega arith);
      below_cap = λ some. below_cap draw.cap draw.unit (words_taken draw words - 1) one (omega arith);
    }
