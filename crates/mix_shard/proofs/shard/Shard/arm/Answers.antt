use Rattle.std.proofs.Common.{ap, arith}
use Rattle.replay_disk.specs.Disk.{RackState}
use Rattle.mix_shard.proofs.Keeping.{keeps_rack}
use Rattle.mix_shard.proofs.shard.Shard.arm.Goals as goal

pub invariant_of-self : goal.invariant_of-self
invariant_of-self g c = (
  keeps_rack g.R.Rack.tells g.S.Suite.meaning _ (g.R.Rack.state c.arm.new.self) c.self.inside.store
      (ap (λ (r : RackState). r.areas) c.arm.ensures) (omega (arith, ap (λ (r : RackState). r.faults) c.arm.ensures)) c.self.invariant.0,
  c.self.invariant.1,
  c.self.invariant.2,
  c.self.invariant.3,
)
