-- What is kept has no line feed; what is refused is past a limit, whatever follows.
use Rattle.std.proofs.Common.{◌≡◌, ℕ, ◌+◌, ◌-◌, List, length, take, drop, arith, sym, ◌∙◌}
use Rattle.lab_text.proofs.LinesOf.{too_long_comes, has_feed-append, length-chunk, same_number}
use Rattle.lab_text.proofs.lines.LineReader.keep_block.Goals as goal

pub returns-then-passes_limit-clause-bad_line :
    goal.returns-then-passes_limit-clause-bad_line
returns-then-passes_limit-clause-bad_line g c =
    let s = c.args.self.now in
    let chunk : List ℕ = take (s.end - s.place) (drop s.place s.block.items) in
    let size : length chunk ≡ s.end - s.place = length-chunk s.block.items s.place s.end (omega arith) (omega (arith, s.block.ok.0)) in
    λ n e. (same_number _ n e, too_long_comes (g.I.Source.left s.source) s.used (c.len.result + (s.end - s.place)) s.line.items chunk s.one_line c.requires.no_feed (omega (arith, s.line.ok.0)) (omega arith) (sym c.passes_limit.ensures ∙ c.if-passes_limit.true))

pub invariant_of-self-2-clause-one_line : goal.invariant_of-self-2-clause-one_line
invariant_of-self-2-clause-one_line g c =
    let block = c.deref.ensures.value in
    rw (c.in_ok-extend_from_slice.ensures.items, block) (has_feed-append c.args.self.now.line.items (take (c.args.self.now.end - c.args.self.now.place) (drop c.args.self.now.place c.args.self.now.block.items)) c.args.self.now.one_line c.requires.no_feed)
