use Rattle.std.proofs.lemmas.Result.{err_from_is_err_and}
use Rattle.mix_top.specs.Acts.{Reopens}
use Rattle.mix_top.proofs.ActAnswers.{opening_ends}
use Rattle.mix_top.proofs.ServedActs.{breaks_cut, breaks_ended, goes_one}
use Rattle.mix_top.proofs.serving.acts.reopen.Goals as goal

pub returns-in_err-line-clause-serves : goal.returns-in_err-line-clause-serves
returns-in_err-line-clause-serves g c =
    let p = err_from_is_err_and c.from_residual.result c.from_residual.ensures.1 in
    rw (p.1, p.2) (breaks_ended g.C.Rack.tells g.S.Suite.meaning g.met.R.Receiver.in_turn (Reopens c.args.shard) c.in_err-line.field-0.0 c.args.node.now c.ready.new.self c.args.receiver.now
    (opening_ends g.C.Rack.tells g.S.Suite.meaning c.args.setup.now c.args.shard c.in_err-line.field-0.0 c.args.node.now c.ready.new.self c.ready.result
    c.requires.setup c.ready.ensures.readies c.in_err-line.ensures.fails c.in_err-line.ensures.ends))

pub returns-in_err-take_maybe-clause-serves : goal.returns-in_err-take_maybe-clause-serves
returns-in_err-take_maybe-clause-serves g c =
    let p = err_from_is_err_and c.from_residual-in_err-take_maybe.result c.from_residual-in_err-take_maybe.ensures.1 in
    rw (p.1, p.2) (breaks_cut g.C.Rack.tells g.S.Suite.meaning g.met.R.Receiver.in_turn (Reopens c.args.shard) _ c.in_err-take_maybe.field-0.0 c.args.node.now c.ready.new.self
    c.args.receiver.now c.take_maybe.new.receiver (c.ready.result, c.ready.ensures.readies, c.in_ok-line.ensures.said) c.in_err-take_maybe.ensures.front)

pub returns-clause-serves : goal.returns-clause-serves
returns-clause-serves g c =
    goes_one g.C.Rack.tells g.S.Suite.meaning g.met.R.Receiver.in_turn (Reopens c.args.shard) _ c.args.node.now c.ready.new.self c.args.receiver.now c.take_maybe.new.receiver
    (c.ready.result, c.ready.ensures.readies, c.in_ok-line.ensures.said) c.in_ok-take_maybe.ensures.whole
