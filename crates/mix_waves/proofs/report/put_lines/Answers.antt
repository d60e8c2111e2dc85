use Rattle.std.proofs.Common.{◌∙◌, List, ℕ, suc, drop, drop-cons, get_or, IfSome, IsSomeAnd, subst}
use Rattle.mix_base.specs.Writing.{GivesFront}
use Rattle.mix_waves.specs.declared.report.ReportLine.TheVariants as lines
use Rattle.mix_waves.proofs.Giving.{gave_front, gave_part, on_err}
use Rattle.mix_waves.proofs.report.put_lines.Goals as goal

pub returns-in_err-text-clause-front : goal.returns-in_err-text-clause-front
returns-in_err-text-clause-front g c =
    on_err c.from_residual.result _ (gave_front (g.O.Sink.given c.args.sink.now) (g.O.Sink.given c.lines.sink) c.args.lines.now c.lines.line-index c.lines.invariant.0)

pub returns-in_err-put-clause-front : goal.returns-in_err-put-clause-front
returns-in_err-put-clause-front g c =
    let all = c.args.lines.now in
    let place = c.lines.line-index in
    let mid = g.O.Sink.given c.lines.sink in
    let after = g.O.Sink.given c.put.new.self in
    on_err c.from_residual-in_err-put.result _
    (gave_part (g.O.Sink.given c.args.sink.now) mid after all place (get_or all place (lines.Messages 0 0)) (drop (suc place) all) c.lines.invariant.0
    (drop-cons all place (lines.Messages 0 0) c.lines-test.true)
    (subst (λ (text : List ℕ). IfSome mid (λ given. IsSomeAnd after (λ last. GivesFront given last text))) (c.as_bytes.ensures.value ∙ c.in_ok-text.ensures) c.in_err-put.ensures.front))
