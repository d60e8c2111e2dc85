use Rattle.std.proofs.Common.{◌≡◌, ℕ, ◌^◌, arith, refl, sym, subst, ◌%◌, slice_index, replicate}
use Rattle.field_solve.specs.Elimination.{AllBelow, minus_one}
use Rattle.field_solve.proofs.Steps.{Combines-at_zero, Combines-same}
use Rattle.field_solve.proofs.Units.{zeros-AllBelow}
use Rattle.field_solve.proofs.elimination.inverse_by.Goals as goal

pub reduced-combination-requires-clause-room_combination : goal.reduced-combination-requires-clause-room_combination
reduced-combination-requires-clause-room_combination c =
    subst (AllBelow (2 ^ 25)) (sym c.in_ok-combination.ensures) (zeros-AllBelow 761 (2 ^ 25) (omega arith))

pub returns-clause-inverse : goal.returns-clause-inverse
returns-clause-inverse c =
    let p = c.args.prime in
    let e = c.reduced-combination.ensures in
    let r = c.reduced-combination.result in
    λ poly combined. record {
      at = λ place within.
          let pivot = c.requires.pivots place within in
          let start = Combines-same p poly minus_one (replicate 761 0) c.in_ok-combination.combination.items c.in_ok-entries.entries.items c.in_ok-entries.entries.items (sym c.in_ok-combination.ensures) refl (c.in_ok-entries.ensures.combined poly) in
          let multiple : slice_index r.entries.items place % p ≡ 0 =
          subst (λ (k : ℕ). slice_index r.entries.items k % p ≡ 0) pivot.3 (e.cleared.at pivot.0 pivot.1 pivot.2.within pivot.2) in
          Combines-at_zero p poly minus_one r.combination.items r.entries.items place (e.combined poly minus_one combined start) within multiple;
    }
