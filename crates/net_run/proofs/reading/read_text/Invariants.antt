use Rattle.std.proofs.Common.{◌≡◌, ◌++◌, ◌≤◌, ◌-◌, vec_len, IfSome, IsSomeAnd}
use Rattle.net_run.proofs.reading.read_text.Given as goal

abbrev pub invariant-reads : goal.invariant-reads
invariant-reads g l = record {
  left : IfSome (g.I.Source.left l.initial.source) (λ before. IsSomeAnd (g.I.Source.left l.source) (λ after. before ≡ l.text.items ++ after));
  count : g.I.Source.faults l.initial.source ≤ g.I.Source.faults l.source;
}

abbrev pub decreases-reads : goal.decreases-reads
decreases-reads g l = 65537 - vec_len l.text
