-- At the source's end what was kept is the last line.
use Rattle.std.proofs.Common.{◌<◌, length, arith, refl}
use Rattle.std.proofs.lemmas.Bool.Decides.{nat_tests}
use Rattle.lab_text.proofs.LinesOf.{rest_taken}
use Rattle.lab_text.proofs.lines.LineReader.take_rest.Goals as goal

pub returns-clause-line : goal.returns-clause-line
returns-clause-line g c =
    let s = c.args.self.now in
    let some : 0 < length s.line.items = grind (arith, nat_tests, s.line.ok.0) in
    λ left. rest_taken (g.I.Source.left s.source) s.used s.place s.end c.len.result s.line.items s.block.items c.replace.new.dest.items c.replace.result.items left c.requires (omega (arith, s.line.ok.0)) s.one_line some (omega (arith, s.line.ok.0)) (omega (arith, s.line.ok.0))
    (rw c.replace.ensures.after c.new.ensures.items)
    (rw c.replace.ensures.value refl)
