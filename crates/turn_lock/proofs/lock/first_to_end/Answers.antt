use Rattle.std.proofs.Common.{rules}
use Rattle.std.proofs.lemmas.List.Sorted.{IsPermutation-swap}
use Rattle.turn_lock.proofs.lock.first_to_end.Goals as goal

pub returns-clause-same : goal.returns-clause-same
returns-clause-same g c = IsPermutation-swap _ _ _ _ (search rules) (search rules) c.swap.ensures.items
