-- The steps of the elimination keep what the rows stand for.
use lib.IntN.{+ℤ_idl}
use Rattle.std.proofs.Common.{◌≡◌, ℕ, ◌+◌, ◌*◌, ◌%◌, ◌<◌, ◌≤◌, ◌^◌, List, inl, inr, arith, sym, ap, ◌∙◌, subst, ℤ, pos, ◌+ℤ◌}
use Rattle.std.specs.Prelude.{◌*ℤ◌, slice_index}
use Rattle.std.proofs.lemmas.Bool.{cases_lt}
use Rattle.std.proofs.lemmas.Int.{ints}
use Rattle.std.proofs.lemmas.List.{get_or_read}
use Rattle.ntru_ring.specs.Centring.{IsCongruent}
use Rattle.field_solve.specs.Elimination.{AllBelow, AreCleared, AreRows, Combines, StandsAt, times, nothing}
use Rattle.field_solve.specs.declared.rows.Row.{Row}
use Rattle.field_solve.proofs.Congruences.{congruent-add, congruent-mul, congruent_same, congruent_chained, congruent_turned, congruent-scaled, congruent-multiple}
use Rattle.field_solve.proofs.Linear.{IsSum, coefficient_of, coefficient_of-linear, coefficient_of-congruent, coefficient_of-multiple}

times-linear : (poly : ℕ → ℤ) (sum first second : List ℕ) (factor : ℕ) → ((place : ℕ) → slice_index sum place ≡ slice_index first place + factor * slice_index second place) → IsSum (times poly sum) (times poly first) (pos factor) (times poly second)
unfolding times coefficient_of
times-linear poly sum first second factor h =
    coefficient_of-linear poly (λ i. pos (slice_index sum i)) (λ i. pos (slice_index first i)) (pos factor) (λ i. pos (slice_index second i)) (λ i. ap pos (h i))

-- a multiple of a row is added to the sums, and the same multiple of its combination to the combination
pub Combines-add_multiple : (prime : ℕ) (poly start : ℕ → ℤ) (combination entries combination-sum entries-sum row-combination row-entries : List ℕ) (factor : ℕ)
    → ((place : ℕ) → slice_index combination-sum place ≡ slice_index combination place + factor * slice_index row-combination place)
    → ((place : ℕ) → slice_index entries-sum place ≡ slice_index entries place + factor * slice_index row-entries place)
    → Combines prime poly nothing row-combination row-entries
    → Combines prime poly start combination entries
    → Combines prime poly start combination-sum entries-sum
Combines-add_multiple prime poly start combination entries combination-sum entries-sum row-combination row-entries factor c e row before = record {
  at = λ place within.
      let row-part = congruent-mul prime (pos factor) (pos (slice_index row-entries place)) (pos 0 +ℤ times poly row-combination place) (row.at place within) in
      let all = congruent-add prime (pos (slice_index entries place)) (start place +ℤ times poly combination place) (pos (factor * slice_index row-entries place)) (pos factor *ℤ (pos 0 +ℤ times poly row-combination place)) (before.at place within) row-part in
      let left : pos (slice_index entries-sum place) ≡ pos (slice_index entries place) +ℤ pos (factor * slice_index row-entries place) = ap pos (e place) in
      let linear : times poly combination-sum place ≡ times poly combination place +ℤ pos factor *ℤ times poly row-combination place = times-linear poly combination-sum combination row-combination factor c place in
      let zero_start : pos 0 +ℤ times poly row-combination place ≡ times poly row-combination place = omega (arith, ints) in
      let same : pos factor *ℤ (pos 0 +ℤ times poly row-combination place) ≡ pos factor *ℤ times poly row-combination place = ap (λ z. pos factor *ℤ z) zero_start in
      (all.0, omega (arith, ints, all.1, left, linear, same));
}

pub AllBelow-more : (low high : ℕ) (numbers : List ℕ) → low ≤ high → AllBelow low numbers → AllBelow high numbers
AllBelow-more low high numbers h all = record { below = λ place. omega (arith, all.below place) }

-- two rows that stand at one place are one
pub same_row : (rows : List Row) (place : ℕ) (first second : Row) → StandsAt rows place first → StandsAt rows place second → first ≡ second
same_row rows place first second h k = get_or_read rows place first h.within h.is second ∙ sym k.is

-- one more row is cleared, and the pivots before it stay so
pub AreCleared-next : (prime count : ℕ) (rows : List Row) (row : Row) (before after : List ℕ) → AreRows rows → StandsAt rows count row
    → AreCleared prime count rows before
    → ((place : ℕ) → slice_index row.entries.items place ≡ 0 → slice_index after place ≡ slice_index before place)
    → slice_index after row.pivot % prime ≡ 0
    → AreCleared prime (count + 1) rows after
AreCleared-next prime count rows row before after hold stands cleared kept now = record {
  at = λ place other below other_stands. elim (cases_lt place count) [
    | inl lt ↦ ap (λ (x : ℕ). x % prime) (kept other.pivot (hold.clear place count other row lt other_stands stands)) ∙ cleared.at place other lt other_stands
    | inr ge ↦
        let e : place ≡ count = omega arith in
        let same : other ≡ row = same_row rows count other row (subst (λ (n : ℕ). StandsAt rows n other) e other_stands) stands in
        ap (λ (r : Row). slice_index after r.pivot % prime) same ∙ now
  ];
}

-- the same multiple of the sums and of the combination, by remainders
pub Combines-scaled : (prime : ℕ) (poly : ℕ → ℤ) (combination entries combination-scaled entries-scaled : List ℕ) (factor : ℕ)
    → ((place : ℕ) → slice_index combination-scaled place ≡ factor * (slice_index combination place % prime) % prime)
    → ((place : ℕ) → slice_index entries-scaled place ≡ factor * (slice_index entries place % prime) % prime)
    → Combines prime poly nothing combination entries
    → Combines prime poly nothing combination-scaled entries-scaled
unfolding times coefficient_of
Combines-scaled prime poly combination entries combination-scaled entries-scaled factor c e before = record {
  at = λ place within.
      let f = pos factor in
      let old : ℕ → ℤ = λ i. pos (slice_index combination i) in
      let new : ℕ → ℤ = λ i. pos (slice_index combination-scaled i) in
      let whole = coefficient_of poly old place in
      let left = pos (slice_index entries-scaled place) in
      let first : IsCongruent prime left (f *ℤ pos (slice_index entries place)) =
      let h = congruent-scaled prime factor (slice_index entries place) in (h.0, ap pos (e place) ∙ h.1) in
      let second = congruent-mul prime f (pos (slice_index entries place)) (pos 0 +ℤ whole) (before.at place within) in
      let third : IsCongruent prime (coefficient_of poly new place) (f *ℤ whole) =
      let h = coefficient_of-congruent prime poly new (λ i. f *ℤ old i) (λ i. let k = congruent-scaled prime factor (slice_index combination i) in (k.0, ap pos (c i) ∙ k.1)) place in
      (h.0, h.1 ∙ ap (λ z. z +ℤ h.0 *ℤ pos prime) (coefficient_of-multiple poly old f place)) in
      let start : f *ℤ (pos 0 +ℤ whole) ≡ f *ℤ whole = ap (λ z. f *ℤ z) (+ℤ_idl whole) in
      let fourth : IsCongruent prime (f *ℤ (pos 0 +ℤ whole)) (f *ℤ whole) = congruent_same prime (f *ℤ (pos 0 +ℤ whole)) (f *ℤ whole) start in
      let fifth = congruent_chained prime left (f *ℤ pos (slice_index entries place)) (f *ℤ whole) first (congruent_chained prime (f *ℤ pos (slice_index entries place)) (f *ℤ (pos 0 +ℤ whole)) (f *ℤ whole) second fourth) in
      let sixth = congruent_chained prime left (f *ℤ whole) (coefficient_of poly new place) fifth (congruent_turned prime (coefficient_of poly new place) (f *ℤ whole) third) in
      (sixth.0, sixth.1 ∙ ap (λ z. z +ℤ sixth.0 *ℤ pos prime) (sym (+ℤ_idl (coefficient_of poly new place))));
}

-- where the entries are a multiple of the prime, the start and the product add up to one too
pub Combines-at_zero : (prime : ℕ) (poly start : ℕ → ℤ) (combination entries : List ℕ) (place : ℕ) → Combines prime poly start combination entries → place < 761 → slice_index entries place % prime ≡ 0
    → IsCongruent prime (pos 0) (start place +ℤ times poly combination place)
Combines-at_zero prime poly start combination entries place combined within multiple =
    congruent_chained prime (pos 0) (pos (slice_index entries place)) (start place +ℤ times poly combination place) (congruent-multiple prime (slice_index entries place) multiple) (combined.at place within)

pub Combines-same : (prime : ℕ) (poly start : ℕ → ℤ) (combination combination-same entries entries-same : List ℕ) → combination ≡ combination-same → entries ≡ entries-same → Combines prime poly start combination entries → Combines prime poly start combination-same entries-same
Combines-same prime poly start combination combination-same entries entries-same c e h =
    subst (λ (l : List ℕ). Combines prime poly start combination-same l) e (subst (λ (l : List ℕ). Combines prime poly start l entries) c h)
