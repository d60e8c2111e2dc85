use Rattle.turn_lock.proofs.Rounds.{all_tested, grown}
use Rattle.turn_lock.proofs.tests.Book.add.Goals as goal

pub returns-clause-begins : goal.returns-clause-begins
returns-clause-begins c = let g = grown _ _ _ _ c.args.caller c.extend_from_slice.ensures.items (all_tested _ _ c.requires) in (g.0, g.1)

pub returns-clause-own : goal.returns-clause-own
returns-clause-own c = (grown _ _ _ _ c.args.caller c.extend_from_slice.ensures.items (all_tested _ _ c.requires)).2
