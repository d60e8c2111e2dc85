use Rattle.std.proofs.lemmas.Result.{err_from_is_err_and}
use Rattle.std.proofs.Common.{◌∙◌, ap}
use Rattle.node_core.specs.Steps.{worker_at}
use Rattle.node_core.specs.declared.setup.NodeSetup.{NodeSetup}
use Rattle.mix_top.specs.Acts.{Claims}
use Rattle.mix_top.specs.Steps.{ends_claim}
use Rattle.mix_top.proofs.ActAnswers.{claim_objects}
use Rattle.mix_top.proofs.ServedActs.{breaks_cut, breaks_ended, goes_one}
use Rattle.mix_top.proofs.serving.acts.claim.Goals as goal

pub claim_line-requires : goal.claim_line-requires
claim_line-requires g c =
    claim_objects g.C.Rack.tells g.S.Suite.meaning c.args.worker (worker_at c.args.node.now c.args.worker) c.claim.result c.args.node.now c.claim.new.self c.claim.ensures.claims

pub returns-in_err-line-clause-serves : goal.returns-in_err-line-clause-serves
returns-in_err-line-clause-serves g c =
    let p = err_from_is_err_and c.from_residual.result c.from_residual.ensures.1 in
    rw (p.1, p.2) (breaks_ended g.C.Rack.tells g.S.Suite.meaning g.met.R.Receiver.in_turn (Claims c.args.worker) c.in_err-line.field-0.0 c.args.node.now c.claim.new.self c.args.receiver.now
    (c.claim.result, c.claim.ensures.claims, ap (λ (s : NodeSetup). ends_claim s c.claim.result) c.requires.setup ∙ c.in_err-line.ensures.ends))

pub returns-in_err-take_maybe-clause-serves : goal.returns-in_err-take_maybe-clause-serves
returns-in_err-take_maybe-clause-serves g c =
    let p = err_from_is_err_and c.from_residual-in_err-take_maybe.result c.from_residual-in_err-take_maybe.ensures.1 in
    rw (p.1, p.2) (breaks_cut g.C.Rack.tells g.S.Suite.meaning g.met.R.Receiver.in_turn (Claims c.args.worker) _ c.in_err-take_maybe.field-0.0 c.args.node.now c.claim.new.self
    c.args.receiver.now c.take_maybe.new.receiver (c.claim.result, c.claim.ensures.claims, c.in_ok-line.ensures.said) c.in_err-take_maybe.ensures.front)

pub returns-clause-serves : goal.returns-clause-serves
returns-clause-serves g c =
    goes_one g.C.Rack.tells g.S.Suite.meaning g.met.R.Receiver.in_turn (Claims c.args.worker) _ c.args.node.now c.claim.new.self c.args.receiver.now c.take_maybe.new.receiver
    (c.claim.result, c.claim.ensures.claims, c.in_ok-line.ensures.said) c.in_ok-take_maybe.ensures.whole
