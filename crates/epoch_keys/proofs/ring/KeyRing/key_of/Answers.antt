-- A held key is of the ring's seed, as every key in the ring is.
use Rattle.std.proofs.Common.{ap, ◌∙◌}
use Rattle.epoch_keys.specs.Ring.{RingOf}
use Rattle.epoch_keys.proofs.ring.KeyRing.key_of.Goals as goal

pub returns-in-Some-clause-seed : goal.returns-in-Some-clause-seed
returns-in-Some-clause-seed g c =
    let held = c.in_ok-key.ensures.seed c.self.inside.seed c.self.invariant.0 in
    (rw c.in-Some.is at held) ∙ ap (λ (ring : RingOf). ring.seed) c.self.view_is

pub returns-in-Some-2-clause-seed : goal.returns-in-Some-2-clause-seed
returns-in-Some-2-clause-seed g c =
    let held = c.in_ok-key-2.ensures.seed c.self.inside.seed c.self.invariant.1 in
    (rw c.in-Some-2.is at held) ∙ ap (λ (ring : RingOf). ring.seed) c.self.view_is
