use Rattle.std.proofs.Common.{◌≡◌, ℕ, ◌+◌, ◌*◌, ◌%◌, ◌-◌, ap, ◌∙◌, slice_index, List}
use Rattle.field_solve.proofs.Primes.{cleared_by}
use Rattle.field_solve.proofs.Steps.{Combines-add_multiple}
use Rattle.field_solve.proofs.rows.clear.Goals as goal

pub returns-clause-cleared : goal.returns-clause-cleared
returns-clause-cleared c =
    let p = c.args.prime in
    let pivot = c.args.row.now.pivot in
    let e = slice_index c.args.sums.now pivot in
    let one : slice_index c.deref.result.now pivot ≡ 1 = ap (λ (l : List ℕ). slice_index l pivot) c.deref.ensures.value ∙ c.requires.form.1.one in
    let factor : (p - e % c.from.result) % p ≡ (p - e % p) % p = ap (λ (x : ℕ). (p - e % x) % p) c.from.ensures in
    let h = c.add_multiple.ensures pivot in
    ap (λ (x : ℕ). x % p) (h ∙ ap (λ (x : ℕ). e + (p - e % c.from.result) % p * x) one ∙ ap (λ (x : ℕ). e + x * 1) factor) ∙ cleared_by p e c.requires.positive

pub returns-clause-combined : goal.returns-clause-combined
returns-clause-combined c =
    let p = c.args.prime in
    let row = c.args.row.now in
    let factor = (p - slice_index c.args.sums.now row.pivot % c.from.result) % p in
    λ poly start combined before.
    Combines-add_multiple p poly start c.args.combination.now c.args.sums.now c.add_multiple-2.new.sums c.add_multiple.new.sums row.combination.items row.entries.items factor
    (λ place. c.add_multiple-2.ensures place ∙ ap (λ (l : List ℕ). slice_index c.args.combination.now place + factor * slice_index l place) c.deref-2.ensures.value)
    (λ place. c.add_multiple.ensures place ∙ ap (λ (l : List ℕ). slice_index c.args.sums.now place + factor * slice_index l place) c.deref.ensures.value)
    combined before
