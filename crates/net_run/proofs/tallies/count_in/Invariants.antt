use Rattle.std.proofs.Common.{◌≡◌, ◌+◌, ◌≤◌, drop}
use Rattle.net_run.specs.Tallies.{takes_in}
use Rattle.net_run.proofs.tallies.count_in.Given as goal

abbrev pub invariant-entries : goal.invariant-entries
invariant-entries l = record {
  all : l.count + takes_in (drop l.entry-index l.tale) ≡ takes_in l.tale;
  few : l.count ≤ l.entry-index;
}
