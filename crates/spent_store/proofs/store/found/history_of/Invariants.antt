use Rattle.std.proofs.Common.{◌≡◌, take}
use Rattle.spent_store.proofs.store.found.history_of.Given as goal

abbrev pub invariant-noting : goal.invariant-noting
invariant-noting l = l.history.items ≡ take l.root-index l.roots
