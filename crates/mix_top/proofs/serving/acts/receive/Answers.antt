use Rattle.std.proofs.Common.{refl}
use Rattle.lab_text.specs.declared.statuses.Status.TheVariants.{Memory}
use Rattle.mix_top.specs.Acts.{Receives}
use Rattle.mix_top.proofs.ServedActs.{breaks_ended}
use Rattle.mix_top.proofs.serving.acts.receive.Goals as goal

pub returns-in-Err-clause-serves : goal.returns-in-Err-clause-serves
returns-in-Err-clause-serves g c =
    breaks_ended g.C.Rack.tells g.S.Suite.meaning g.met.R.Receiver.in_turn (Receives c.args.moment c.args.packet) Memory c.args.node.now c.recv.new.self c.args.receiver.now
    (refl, c.in-Err.ensures.refused)
