use Rattle.std.proofs.Common.{◌≡◌, map, take}
use Rattle.spent_store.specs.Joined.{cut_log}
use Rattle.spent_store.proofs.reading.logs_of.Given as goal

abbrev pub invariant-reading : goal.invariant-reading
invariant-reading l = l.logs.items ≡ map (cut_log l.one l.two) (take l.epoch-index l.begun)
