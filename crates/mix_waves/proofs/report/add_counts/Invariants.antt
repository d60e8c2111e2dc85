use Rattle.std.proofs.Common.{◌≡◌, ◌++◌, map, drop}
use Rattle.mix_waves.specs.Report as reports
use Rattle.mix_waves.proofs.report.add_counts.Given as goal

-- the lines so far, and those to come, are all
abbrev pub invariant-counts : goal.invariant-counts
invariant-counts l = l.lines.items ++ map reports.node_line (drop l.count-index l.counts) ≡ l.initial.lines.items ++ map reports.node_line l.counts
