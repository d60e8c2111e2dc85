use Rattle.std.proofs.Common.{◌≡◌, map, take}
use Rattle.spent_store.specs.Root.{root_record}
use Rattle.spent_store.proofs.logs.roots_of.Given as goal

abbrev pub invariant-reading : goal.invariant-reading
invariant-reading l = l.roots.items ≡ map root_record (take l.record-index l.whole)
