use Rattle.std.proofs.Common.{◌≡◌, ◌-◌, ℕ, List, length, drop, IfOk, subst, ap, ◌∙◌}
use Rattle.sphinx_make.proofs.Fillers.{filler_end}
use Rattle.sphinx_make.specs.Making.{next_filler}
use Rattle.sphinx_make.proofs.routing.pass_filler.Goals as goal

pub returns : goal.returns
returns g c =
    let suite = g.S.Suite.meaning in
    let end = filler_end suite c.args.geo.now c.args.hop.now c.args.filler.now c.deref.result.now (c.deref.ensures.value ∙ c.in_ok-bytes.ensures.value) in
    let passed : c.split_at.result.1.now ≡ next_filler suite c.args.geo.now c.args.hop.now c.args.filler.now = c.split_at.ensures.back ∙ ap (λ n. drop (n - length c.args.filler.now) c.deref.result.now) c.routing.ensures.value ∙ end in
    subst (λ (xs : List ℕ). IfOk c.from_slice.result (λ passed. passed.items ≡ xs)) passed c.from_slice.ensures.items
