use lib.IntN.{+ℤ_idl}
use Rattle.std.proofs.Common.{◌≡◌, ℕ, ◌+◌, ◌<◌, ◌≤◌, arith, refl, sym, ap, subst, ◌∙◌, ◌%◌, slice_index, List, length, pos, ◌+ℤ◌}
use Rattle.std.specs.Prelude.{◌*ℤ◌}
use Rattle.std.proofs.lemmas.List.{get_or_read}
use Rattle.ntru_ring.specs.Polynomials.{coefficient}
use Rattle.field_solve.specs.Elimination.{AreCleared, AreCombined, nothing, times}
use Rattle.field_solve.specs.declared.rows.Row.{Row}
use Rattle.field_solve.proofs.Progress.{Progress-push, cleared_everywhere}
use Rattle.field_solve.proofs.Steps.{Combines-at_zero, Combines-same}
use Rattle.field_solve.proofs.Units.{unit_list, unit_list-at, length-unit_list}
use Rattle.field_solve.proofs.elimination.add_row.Goals as goal

pub returns-in-None-clause-divisor : goal.returns-in-None-clause-divisor
returns-in-None-clause-divisor c =
    let p = c.args.prime in
    let poly = coefficient c.args.poly.now in
    let rows = c.args.rows.now.items in
    let columns = c.args.columns.now.items in
    let power = c.len-power.result in
    let made = c.in_ok-combination.combination.items in
    let all : power ≡ length rows = omega (arith, c.len-power.ensures, c.args.rows.now.ok.0) in
    let r = c.reduced-entries.result in
    let e = c.reduced-entries.ensures in
    let seen = c.deref.ensures.value in
    let start = Combines-same p poly nothing (unit_list power) made c.in_ok-entries.entries.items c.in_ok-entries.entries.items (sym c.in_ok-combination.ensures) refl c.in_ok-entries.ensures.combined in
    let combined = e.combined poly nothing (subst (AreCombined p poly) (sym seen) c.requires.progress.combined) start in
    let cleared = subst (λ (l : List Row). AreCleared p (length l) l r.entries.items) seen e.cleared in
    let none = subst (λ (l : List ℕ). (place : ℕ) → place < length l → slice_index r.entries.items (slice_index l place) % p ≡ 0) c.deref-2.ensures.value
    (subst (λ (m : List ℕ). (place : ℕ) → place < length c.deref-2.result.now → slice_index m (slice_index c.deref-2.result.now place) % p ≡ 0) c.deref-3.ensures.value c.in-None.ensures) in
    let behind : slice_index r.combination.items power ≡ slice_index made power =
    e.behind power (subst (λ (l : List Row). length l ≤ power) (sym seen) (omega arith)) in
    record {
      some = (power, omega arith, behind ∙ ap (λ (l : List ℕ). slice_index l power) c.in_ok-combination.ensures ∙ unit_list-at power);
      zero_product = λ place within.
          let h = Combines-at_zero p poly nothing r.combination.items r.entries.items place combined within (cleared_everywhere p c.args.poly.now columns rows r.entries.items c.requires.progress cleared none place within) in
          (h.0, h.1 ∙ ap (λ z. z +ℤ h.0 *ℤ pos p) (+ℤ_idl (times poly r.combination.items place)));
    }

pub returns-clause-progress : goal.returns-clause-progress
returns-clause-progress c =
    let p = c.args.prime in
    let poly = coefficient c.args.poly.now in
    let rows = c.args.rows.now.items in
    let columns = c.args.columns.now.items in
    let power = c.len-power.result in
    let made = c.in_ok-combination.combination.items in
    let all : power ≡ length rows = omega (arith, c.len-power.ensures, c.args.rows.now.ok.0) in
    let r = c.reduced-entries.result in
    let e = c.reduced-entries.ensures in
    let seen = c.deref.ensures.value in
    let start = Combines-same p poly nothing (unit_list power) made c.in_ok-entries.entries.items c.in_ok-entries.entries.items (sym c.in_ok-combination.ensures) refl c.in_ok-entries.ensures.combined in
    let combined = e.combined poly nothing (subst (AreCombined p poly) (sym seen) c.requires.progress.combined) start in
    let cleared = subst (λ (l : List Row). AreCleared p (length l) l r.entries.items) seen e.cleared in
    let place = c.in-Some.place in
    let row = c.in_ok-row-in-Some.row in
    let n = c.in_ok-row-in-Some.ensures in
    let within : place < length columns = subst (λ (l : List ℕ). place < length l) c.deref-2.ensures.value c.in-Some.ensures.0 in
    let shorter : length c.remove-pivot.new.self.items + 1 ≡ length columns = omega (arith, c.args.columns.now.ok.0, c.remove-pivot.new.self.ok.0, c.remove-pivot.ensures.len) in
    let sums_seen = c.deref-in-Some.ensures.value in
    let combination_seen = c.deref-in-Some-2.ensures.value in
    let short : length c.deref-in-Some-2.result.now ≤ length rows + 1 =
    omega (arith, ap length combination_seen, e.same_length, ap length c.in_ok-combination.ensures, length-unit_list power) in
    Progress-push p c.args.poly.now columns rows place row c.remove-pivot.new.self.items c.push.new.self.items c.requires.progress within c.remove-pivot.ensures.items shorter c.in_ok-push-in-Some.ensures.items
    (n.pivot ∙ get_or_read columns place c.index.result.now within c.index.ensures 0)
    (n.form (length rows) short)
    (λ before earlier stands. n.zero earlier.pivot (subst (λ (l : List ℕ). slice_index l earlier.pivot % p ≡ 0) (sym sums_seen) (cleared.at before earlier stands.within stands)))
    (n.combined poly (Combines-same p poly nothing r.combination.items c.deref-in-Some-2.result.now r.entries.items c.deref-in-Some.result.now (sym combination_seen) (sym sums_seen) combined))
