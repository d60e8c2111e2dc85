use Rattle.std.proofs.Common.{◌≤◌}
use Rattle.mix_waves.proofs.Giving.{HasGiven}
use Rattle.mix_waves.proofs.report.put_lines.Given as goal

-- what was given so far
abbrev pub invariant-lines : goal.invariant-lines
invariant-lines g l = HasGiven (g.O.Sink.given l.initial.sink) (g.O.Sink.given l.sink) l.lines l.line-index × (g.O.Sink.faults l.initial.sink ≤ g.O.Sink.faults l.sink)
