use Rattle.std.proofs.Common.{◌≡◌, drop}
use Rattle.std.specs.List.{list_any}
use Rattle.net_run.specs.Parting.{has_dropped}
use Rattle.net_run.proofs.parting.any_dropped.Given as goal

-- the nodes to come decide
abbrev pub invariant-ends : goal.invariant-ends
invariant-ends g l = list_any has_dropped (drop l.end-index l.ends) ≡ list_any has_dropped l.ends
