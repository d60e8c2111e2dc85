use Rattle.std.proofs.Common.{refl}
use Rattle.gate_log.proofs.Appending.{framed_is}
use Rattle.gate_log.proofs.steps.with_closed_gate.Goals as goal

pub returns : goal.returns
returns c = framed_is _ _ _ _ c.copy_from_slice.ensures.after refl c.requires refl
