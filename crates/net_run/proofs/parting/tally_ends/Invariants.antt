use Rattle.std.proofs.Common.{◌≡◌, ◌++◌, map, drop}
use Rattle.net_run.specs.Parting.{takes_left}
use Rattle.net_run.proofs.parting.tally_ends.Given as goal

-- the counts so far, and those to come, are all
abbrev pub invariant-ends : goal.invariant-ends
invariant-ends g l = map (λ list. list.items) l.takes.items ++ map takes_left (drop l.end-index l.ends) ≡ map takes_left l.ends
