use Rattle.std.proofs.lemmas.Result.{err_from_is_err_and}
use Rattle.mix_top.specs.Acts.{Peels}
use Rattle.mix_top.proofs.ServedActs.{breaks_cut, breaks_ended, goes_one}
use Rattle.mix_top.proofs.serving.acts.peel.Goals as goal

pub returns-in_err-take_maybe-in-Ok-clause-serves : goal.returns-in_err-take_maybe-in-Ok-clause-serves
returns-in_err-take_maybe-in-Ok-clause-serves g c =
    let p = err_from_is_err_and c.from_residual.result c.from_residual.ensures.1 in
    rw (p.1, p.2) (breaks_cut g.C.Rack.tells g.S.Suite.meaning g.met.R.Receiver.in_turn (Peels c.args.worker) _ c.in_err-take_maybe-in-Ok.field-0.0 c.args.node.now c.peel.new.self
    c.args.receiver.now c.take_maybe.new.receiver (c.in-Ok.answer, c.in-Ok.ensures.ok, c.peel_line.ensures) c.in_err-take_maybe-in-Ok.ensures.front)

pub returns-in_ok-take_maybe-in-Ok-clause-serves : goal.returns-in_ok-take_maybe-in-Ok-clause-serves
returns-in_ok-take_maybe-in-Ok-clause-serves g c =
    goes_one g.C.Rack.tells g.S.Suite.meaning g.met.R.Receiver.in_turn (Peels c.args.worker) _ c.args.node.now c.peel.new.self c.args.receiver.now c.take_maybe.new.receiver
    (c.in-Ok.answer, c.in-Ok.ensures.ok, c.peel_line.ensures) c.in_ok-take_maybe-in-Ok.ensures.whole

pub returns-in-Err-clause-serves : goal.returns-in-Err-clause-serves
returns-in-Err-clause-serves g c =
    breaks_ended g.C.Rack.tells g.S.Suite.meaning g.met.R.Receiver.in_turn (Peels c.args.worker) c.peel_status.result c.args.node.now c.peel.new.self c.args.receiver.now
    (c.in-Err.fault, c.in-Err.ensures.no_key, c.peel_status.ensures, c.in-Err.ensures.free, c.in-Err.ensures.waits, c.in-Err.ensures.refused)
