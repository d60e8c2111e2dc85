-- A line feed in the block ends the line that comes next, or one that is past a limit.
use Rattle.std.proofs.Common.{◌≡◌, ℕ, ◌+◌, ◌-◌, List, length, take, drop, arith, refl, sym, ◌∙◌}
use Rattle.lab_text.proofs.LinesOf.{feed_too_long, line_taken, length-front, chunk_split, same_number}
use Rattle.lab_text.proofs.lines.LineReader.take_line.Goals as goal

pub returns-then-passes_limit-clause-bad_line : goal.returns-then-passes_limit-clause-bad_line
returns-then-passes_limit-clause-bad_line g c =
    let s = c.args.self.now in
    let front : List ℕ = take c.args.length (drop s.place s.block.items) in
    let after : List ℕ = take (s.end - (s.place + (c.args.length + 1))) (drop (s.place + (c.args.length + 1)) s.block.items) in
    let long : length front ≡ c.args.length = length-front s.block.items s.place c.args.length (omega (arith, s.block.ok.0)) in
    let cut = chunk_split s.block.items s.place c.args.length s.end c.requires.inside (omega (arith, s.block.ok.0)) c.requires.feed in
    λ n e. (same_number _ n e, rw cut (feed_too_long (g.I.Source.left s.source) s.used (c.len.result + c.args.length) s.line.items front after s.one_line c.requires.first (omega (arith, s.line.ok.0)) (sym c.passes_limit.ensures ∙ c.if-passes_limit.true)))

pub returns-clause-line : goal.returns-clause-line
returns-clause-line g c =
    let s = c.args.self.now in
    let front : s.place + c.args.length - s.place ≡ c.args.length = omega arith in
    line_taken (g.I.Source.left s.source) s.used (c.len.result + c.args.length) s.place c.args.length s.end s.line.items s.block.items c.replace-line.new.dest.items c.drop_return.new.line.items
    s.one_line c.requires.first c.requires.inside (omega (arith, s.block.ok.0)) c.requires.feed (omega (arith, s.line.ok.0)) (sym c.passes_limit.ensures ∙ c.if-passes_limit.false)
    (rw c.replace-line.ensures.after c.new.ensures.items)
    (rw (c.drop_return.ensures, c.replace-line.ensures.value, c.in_ok-extend_from_slice.ensures.items, c.deref.ensures.value, front) refl)
