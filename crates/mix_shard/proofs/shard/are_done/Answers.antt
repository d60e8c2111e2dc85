use Rattle.mix_shard.specs.Kept.{AreEvenDone}
use Rattle.mix_shard.proofs.Draining.{even_step}
use Rattle.mix_shard.proofs.shard.are_done.Goals as goal

pub loop-caller-preserved : goal.loop-caller-preserved
loop-caller-preserved c =
    even_step c.args.done.now c.loop-caller.caller (AreEvenDone 0 c.args.done.now) c.loop-caller-test.true
    (c.is_over.ensures.0 c.if-not-is_over.false) c.loop-caller.invariant
