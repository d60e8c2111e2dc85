use Rattle.std.proofs.Common.{map, arith}
use Rattle.std.proofs.lemmas.Result.{err_from_is_err_and}
use Rattle.mix_tools.specs.Suites.{scheme_for}
use Rattle.mix_top.specs.Progress.{events_to_come, program_to_come}
use Rattle.mix_top.proofs.Promise.{all_returned, answered_over, answered_unmade, answered_unset}
use Rattle.mix_top.proofs.drive.answer.Goals as goal

pub returns-in_err-node-clause-answered : goal.returns-in_err-node-clause-answered
returns-in_err-node-clause-answered g c =
    let p = err_from_is_err_and c.from_residual.result c.from_residual.ensures.1 in
    rw (p.1, p.2) (answered_unset g.C.Rack.tells (program_to_come c.args.reader.now) c.in_err-node.field-0.0 (g.O.Sink.given c.args.sink.now)
    (map g.C.Rack.state c.args.lab.now.items) c.in_err-node.ensures.kind c.in_err-node.ensures.stops)

pub returns-in_default-clause-answered : goal.returns-in_default-clause-answered
returns-in_default-clause-answered g c =
    rw c.in_default.ensures.none (answered_unmade g.C.Rack.tells (program_to_come c.args.reader.now) (g.O.Sink.given c.args.sink.now)
    (map g.C.Rack.state c.args.lab.now.items))

pub returns-clause-answered : goal.returns-clause-answered
returns-clause-answered g c =
    let node = c.in_ok-node.node in
    answered_over g.C.Rack.tells g.C.Rack.state node (scheme_for node.ntru).ciphertext (program_to_come c.args.reader.now)
    (events_to_come node.shards c.read_first.new.reader) _ (g.O.Sink.given c.args.sink.now) (g.O.Sink.given c.answer_by-racks.new.sink)
    c.args.lab.now.items c.give_back.new.racks.items c.in-Some.racks.items c.take_racks.new.racks.items c.answer_by-racks.result.0.items
    c.answer_by-racks.ensures.served c.in_ok-node.ensures.node (omega (arith, c.requires, c.answer_by-racks.ensures.served.allowed.few))
    c.in-Some.ensures.taken c.in-Some.ensures.others c.answer_by-racks.ensures.count c.give_back.ensures c.answer_by-racks.ensures.driven

pub returns-clause-lab : goal.returns-clause-lab
returns-clause-lab g c =
    all_returned c.in_ok-node.node.shards c.args.lab.now.items c.give_back.new.racks.items c.in-Some.racks.items c.take_racks.new.racks.items c.answer_by-racks.result.0.items
    c.in-Some.ensures.taken c.in-Some.ensures.others c.answer_by-racks.ensures.count c.give_back.ensures
