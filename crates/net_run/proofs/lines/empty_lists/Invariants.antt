use Rattle.std.proofs.Common.{◌≡◌, replicate}
use Rattle.net_run.specs.Lines.{sizes}
use Rattle.net_run.proofs.lines.empty_lists.Given as goal

abbrev pub invariant-lists : goal.invariant-lists
invariant-lists g l = sizes l.lists.items ≡ replicate l.counter 0
