use Rattle.std.proofs.Common.{◌≡◌, ℕ, zero, suc, ◌<◌, false, replicate, Some, refl, sym, ap, subst, ◌∙◌, arith}
use Rattle.std.specs.List.{slice_get}
use Rattle.mix_shard.specs.Shards.{ShardState}
use Rattle.mix_shard.specs.Tale.{IsActive}
use Rattle.mix_shard.proofs.tests.setting.Rig.crash.Goals as goal

-- where nobody is done, the first caller isn't
first_active : (callers : ℕ) → 0 < callers → slice_get (replicate callers false) 0 ≡ Some false
first_active zero some = absurd (omega (arith, some))
first_active (suc callers) some = refl

pub invariant_of-self : goal.invariant_of-self
invariant_of-self c =
    let is = c.crash.ensures.shard in
    let inv = c.self.invariant in (
      ap (λ (s : ShardState). s.terms.setup) is ∙ inv.0,
      inv.1,
      ap (λ (s : ShardState). s.terms.callers) is ∙ inv.2,
      inv.3,
      subst (λ (s : ShardState). IsActive 0 s.state) (sym is) (first_active c.self.inside.shard.terms.callers (omega (arith, inv.2, inv.3))),
    )
