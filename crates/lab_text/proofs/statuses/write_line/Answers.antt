-- Without memory nothing is given; else the sink is given the whole piece at once.
use Rattle.std.proofs.Common.{◌≡◌, [], ◌∷◌, ◌++◌, ◌∙◌}
use Rattle.std.specs.Fmt.{decimal}
use Rattle.lab_text.proofs.Giving.{gives_nothing}
use Rattle.lab_text.proofs.statuses.write_line.Goals as goal

pub returns-in-Err-clause-front : goal.returns-in-Err-clause-front
returns-in-Err-clause-front g c =
    gives_nothing (g.O.Sink.given c.args.sink.now) (c.args.text.now ++ decimal c.args.line ++ (10 ∷ []))

pub returns-in-Ok-clause-front : goal.returns-in-Ok-clause-front
returns-in-Ok-clause-front g c =
    let e : c.as_bytes.result.now ≡ c.args.text.now ++ decimal c.args.line ++ (10 ∷ []) = c.as_bytes.ensures.value ∙ c.in-Ok.ensures in
    rw e at c.put.ensures.front
