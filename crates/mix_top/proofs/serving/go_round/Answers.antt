use Rattle.std.proofs.Common.{◌∙◌, arith}
use Rattle.std.proofs.lemmas.Result.{err_from_is_err_and}
use Rattle.mix_top.specs.Progress.{act_at}
use Rattle.mix_top.proofs.ServedActs.{round_breaks, round_goes_on}
use Rattle.mix_top.proofs.serving.go_round.Goals as goal

pub returns-in_err-visit-clause-serves : goal.returns-in_err-visit-clause-serves
returns-in_err-visit-clause-serves g c =
    let p = err_from_is_err_and c.from_residual.result c.from_residual.ensures.1 in
    rw (p.1, p.2) (round_breaks g.C.Rack.tells g.S.Suite.meaning g.met.R.Receiver.in_turn (act_at c.args.round) c.loop-shard.shard c.args.setup.now.shards c.in_err-visit.field-0.0 c.args.node.now c.loop-shard.node c.visit.new.node
    c.args.receiver.now c.loop-shard.receiver c.visit.new.receiver c.loop-shard-test.true c.loop-shard.invariant.goes c.in_err-visit.ensures.serves)

pub loop-shard-preserved : goal.loop-shard-preserved
loop-shard-preserved g c = record {
  goes = round_goes_on g.C.Rack.tells g.S.Suite.meaning g.met.R.Receiver.in_turn (act_at c.args.round) c.loop-shard.shard c.args.node.now c.loop-shard.node c.visit.new.node
      c.args.receiver.now c.loop-shard.receiver c.visit.new.receiver c.loop-shard.invariant.goes c.in_ok-visit.ensures.serves;
  node = record {
    node = record { setup = c.visit.ensures.goes_on.node.setup ∙ c.loop-shard.invariant.node.node.setup; kept = c.visit.ensures.goes_on.node.kept };
    next = omega (arith, c.visit.ensures.goes_on.next, c.loop-shard.invariant.node.next);
  };
  write_faults = omega (arith, c.loop-shard.invariant.write_faults, c.visit.ensures.receiver.count);
}
