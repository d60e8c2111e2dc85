use Rattle.mix_tools.specs.Suites.{scheme_for}
use Rattle.mix_top.proofs.StormPromise.{storm_done, storm_undone}
use Rattle.mix_top.proofs.storm.storm.Goals as goal

pub returns-in-Ok-clause-answered : goal.returns-in-Ok-clause-answered
returns-in-Ok-clause-answered g c =
    rw c.put_status.ensures (storm_done g.C.Rack.tells g.C.Rack.state c.args.storm.now c.node_line-node.result (scheme_for c.node_line-node.result.ntru).ciphertext
    c.args.lab.now.items c.give_back.new.racks.items c.in-Some.racks.items c.take_racks.new.racks.items c.storm_by-racks.result.0.items
    c.storm_by-racks.result.1 c.new-tally.result c.storm_by-racks.new.tally c.give_summary.result (g.O.Sink.given c.args.sink.now) (g.O.Sink.given c.give_summary.new.sink)
    (record { line = c.node_line-node.ensures.line; served = c.storm_by-racks.ensures.served; enough = c.requires.count; is_first = c.in-Some.ensures.taken; is_rest = c.in-Some.ensures.others; size = c.storm_by-racks.ensures.count; is_new = c.give_back.ensures })
    c.requires.in_range.few c.new-tally.ensures c.in-Ok.is c.storm_by-racks.ensures.drove c.give_summary.ensures.gave)

pub returns-in-Err-clause-answered : goal.returns-in-Err-clause-answered
returns-in-Err-clause-answered g c =
    storm_undone g.C.Rack.tells g.C.Rack.state c.args.storm.now c.node_line-node.result (scheme_for c.node_line-node.result.ntru).ciphertext
    c.args.lab.now.items c.give_back.new.racks.items c.in-Some.racks.items c.take_racks.new.racks.items c.storm_by-racks.result.0.items
    c.storm_by-racks.result.1 c.in-Err.status (g.O.Sink.given c.args.sink.now)
    (record { line = c.node_line-node.ensures.line; served = c.storm_by-racks.ensures.served; enough = c.requires.count; is_first = c.in-Some.ensures.taken; is_rest = c.in-Some.ensures.others; size = c.storm_by-racks.ensures.count; is_new = c.give_back.ensures })
    c.in-Err.is c.storm_by-racks.ensures.drove
