use Rattle.std.proofs.Common.{[], ◌∷◌, inl, inr, refl, sym}
use Rattle.std.proofs.lemmas.Result.{err_from_is_err_and}
use Rattle.mix_top.specs.Acts.{Sends}
use Rattle.mix_top.specs.Report.{HandsOn, Says}
use Rattle.mix_top.specs.declared.report.ReportLine.TheVariants.{NoneDue}
use Rattle.mix_top.proofs.ServedActs.{breaks_cut, goes_one}
use Rattle.mix_top.proofs.serving.acts.send.Goals as goal

pub returns-in_err-take_hand_on-in-Some-clause-serves : goal.returns-in_err-take_hand_on-in-Some-clause-serves
returns-in_err-take_hand_on-in-Some-clause-serves g c =
    let p = err_from_is_err_and c.from_residual.result c.from_residual.ensures.1 in
    rw (p.1, p.2) (breaks_cut g.C.Rack.tells g.S.Suite.meaning g.met.R.Receiver.in_turn (Sends c.args.moment) (HandsOn c.in-Some.held ∷ []) c.in_err-take_hand_on-in-Some.field-0.0 c.args.node.now c.send.new.self
    c.args.receiver.now c.take_hand_on.new.self (inr (c.in-Some.held, c.in-Some.ensures.sent, refl)) (c.in_err-take_hand_on-in-Some.ensures.front c.in-Some.held (record { number_is = sym c.number.ensures.value; epoch_is = sym c.epoch.ensures; tag_is = sym c.tag.ensures; out_is = sym c.out.ensures })))

pub returns-in_ok-take_hand_on-in-Some-clause-serves : goal.returns-in_ok-take_hand_on-in-Some-clause-serves
returns-in_ok-take_hand_on-in-Some-clause-serves g c =
    goes_one g.C.Rack.tells g.S.Suite.meaning g.met.R.Receiver.in_turn (Sends c.args.moment) (HandsOn c.in-Some.held ∷ []) c.args.node.now c.send.new.self
    c.args.receiver.now c.take_hand_on.new.self (inr (c.in-Some.held, c.in-Some.ensures.sent, refl)) (c.in_ok-take_hand_on-in-Some.ensures.whole c.in-Some.held (record { number_is = sym c.number.ensures.value; epoch_is = sym c.epoch.ensures; tag_is = sym c.tag.ensures; out_is = sym c.out.ensures }))

pub returns-in_err-take_line-in-None-clause-serves : goal.returns-in_err-take_line-in-None-clause-serves
returns-in_err-take_line-in-None-clause-serves g c =
    let p = err_from_is_err_and c.from_residual-in_err-take_line-in-None.result c.from_residual-in_err-take_line-in-None.ensures.1 in
    rw (p.1, p.2) (breaks_cut g.C.Rack.tells g.S.Suite.meaning g.met.R.Receiver.in_turn (Sends c.args.moment) (Says NoneDue ∷ []) c.in_err-take_line-in-None.field-0.0 c.args.node.now c.send.new.self
    c.args.receiver.now c.take_line.new.self (inl (c.in-None.ensures.none, c.in-None.ensures.unchanged, refl)) c.in_err-take_line-in-None.ensures.front)

pub returns-in_ok-take_line-in-None-clause-serves : goal.returns-in_ok-take_line-in-None-clause-serves
returns-in_ok-take_line-in-None-clause-serves g c =
    goes_one g.C.Rack.tells g.S.Suite.meaning g.met.R.Receiver.in_turn (Sends c.args.moment) (Says NoneDue ∷ []) c.args.node.now c.send.new.self
    c.args.receiver.now c.take_line.new.self (inl (c.in-None.ensures.none, c.in-None.ensures.unchanged, refl)) c.in_ok-take_line-in-None.ensures.whole
