use Rattle.std.proofs.Common.{◌≡◌, ℕ, zero, suc, ◌<◌, false, replicate, Some, refl, ap, ◌∙◌, arith}
use Rattle.std.specs.List.{slice_get}
use Rattle.mix_shard.specs.Shards.{ShardState}
use Rattle.node_run.proofs.tests.seats.shard.Goals as goal

-- at first no caller is done
no_caller : (callers caller : ℕ) → caller < callers → slice_get (replicate callers false) caller ≡ Some false
no_caller zero caller low = absurd (omega (arith, low))
no_caller (suc callers) zero low = refl
no_caller (suc callers) (suc caller) low = no_caller callers caller (omega (arith, low))

pub returns-in-Ok-clause-unused : goal.returns-in-Ok-clause-unused
returns-in-Ok-clause-unused c =
    let is = c.in-Ok.ensures.shard in
    record {
      callers_are = ap (λ (s : ShardState). s.terms.callers) is;
      holds_nothing = ap (λ (s : ShardState). s.state.held) is;
      nobody_done = λ caller low. ap (λ (s : ShardState). slice_get s.state.done caller) is ∙ no_caller c.args.callers caller low;
    }
