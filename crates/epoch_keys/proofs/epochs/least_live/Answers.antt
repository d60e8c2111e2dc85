use Rattle.std.proofs.Common.{◌≡◌, ℕ, ◌+◌, ◌-◌, ◌/◌, ◌≤◌, sym, subst, arith}
use Rattle.epoch_keys.specs.Epochs.{least_live}
use Rattle.epoch_keys.proofs.LiveEpochs.{near_least}
use Rattle.epoch_keys.proofs.epochs.least_live.Goals as goal

pub returns-clause-near : goal.returns-clause-near
returns-clause-near c epoch listed =
    let early : c.saturating_sub.result ≡ c.args.moment - c.args.times.now.grace = omega (arith, c.saturating_sub.ensures, c.grace.ensures.value) in
    let same : least_live c.args.times.now c.args.moment ≡ c.saturating_sub.result / c.epoch.result
    = (λ i. sym early i / sym c.epoch.ensures.value i) in
    subst (λ (q : ℕ). (q ≤ epoch) × (epoch ≤ q + 1)) same
    (near_least c.args.times.now c.args.moment c.epoch.ensures.in_range epoch listed)
