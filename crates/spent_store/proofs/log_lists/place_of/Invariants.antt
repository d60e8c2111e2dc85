-- It is none of those so far.
use Rattle.std.proofs.Common.{◌≡◌, ◌==◌, false, take}
use Rattle.std.specs.List.{list_any}
use Rattle.spent_store.proofs.log_lists.place_of.Given as goal

abbrev pub invariant-looking : goal.invariant-looking
invariant-looking l = list_any (λ log. log.epoch == l.epoch) (take l.i l.logs) ≡ false
