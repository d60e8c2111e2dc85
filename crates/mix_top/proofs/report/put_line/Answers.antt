-- A line that wants memory gives nothing.
use Rattle.std.proofs.Common.{[], ◌∷◌}
use Rattle.std.proofs.lemmas.Result.{err_from_is_err_and}
use Rattle.mix_top.specs.Report.{Says}
use Rattle.mix_top.proofs.Giving.{gave_no_front}
use Rattle.mix_top.proofs.report.put_line.Goals as goal

pub returns-in_err-text-clause-front : goal.returns-in_err-text-clause-front
returns-in_err-text-clause-front g c =
    let p = err_from_is_err_and c.from_residual.result c.from_residual.ensures.1 in
    rw p.1 (gave_no_front (g.O.Sink.given c.args.sink.now) (Says c.args.line.now ∷ []))
