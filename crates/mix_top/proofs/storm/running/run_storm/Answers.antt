use Rattle.std.proofs.Common.{Err, ap, ◌∙◌}
use Rattle.mix_top.specs.Tallies.{tally_takes}
use Rattle.mix_top.proofs.StormRuns.{storm_served}
use Rattle.mix_top.proofs.storm.running.run_storm.Goals as goal

pub returns-clause-storms : goal.returns-clause-storms
returns-clause-storms g c =
    storm_served g.C.Rack.tells g.S.Suite.meaning c.args.setup.now c.args.count c.args.node.now tally_takes c.send_rest.result c.serve_packets.new.node c.send_rest.new.node
    c.args.tally.now c.serve_packets.new.tally c.send_rest.new.tally (λ status is same. c.send_rest.ensures.never_writes (is ∙ ap Err same)) c.in_ok-serve_packets.ensures.served c.send_rest.ensures.serves
