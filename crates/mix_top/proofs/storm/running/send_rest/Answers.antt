use Rattle.std.proofs.Common.{◌∙◌, arith}
use Rattle.std.proofs.lemmas.Result.{err_from_is_err_and}
use Rattle.mix_top.specs.Acts.{Sends}
use Rattle.mix_top.specs.Storm.{moment_of}
use Rattle.mix_top.specs.Tallies.{tally_takes}
use Rattle.mix_top.proofs.ServedActs.{round_breaks, round_goes_on}
use Rattle.mix_top.proofs.storm.running.send_rest.Goals as goal

pub sends-preserved : goal.sends-preserved
sends-preserved g c = record {
  goes = round_goes_on g.C.Rack.tells g.S.Suite.meaning tally_takes (λ place. Sends (moment_of c.args.count)) c.sends._place c.args.node.now c.sends.node c.serve.new.node
      c.args.tally.now c.sends.tally c.serve.new.receiver c.sends.invariant.goes c.in_ok-serve.ensures.serves;
  node = record {
    node = record { setup = c.serve.ensures.goes_on.node.setup ∙ c.sends.invariant.node.node.setup; kept = c.serve.ensures.goes_on.node.kept };
    next = omega (arith, c.serve.ensures.goes_on.next, c.sends.invariant.node.next);
  };
}

pub returns-in_err-serve-clause-serves : goal.returns-in_err-serve-clause-serves
returns-in_err-serve-clause-serves g c =
    let p = err_from_is_err_and c.from_residual.result c.from_residual.ensures.1 in
    rw (p.1, p.2) (round_breaks g.C.Rack.tells g.S.Suite.meaning tally_takes (λ place. Sends (moment_of c.args.count)) c.sends._place c.args.count c.in_err-serve.field-0.0
    c.args.node.now c.sends.node c.serve.new.node c.args.tally.now c.sends.tally c.serve.new.receiver c.sends-test.true c.sends.invariant.goes c.in_err-serve.ensures.serves)
