use Rattle.std.proofs.Common.{rules}
use Rattle.turn_lock.proofs.Keeps.{turns_kept}
use Rattle.turn_lock.proofs.steps.begin.Goals as goal

pub compare_exchange-requires : goal.compare_exchange-requires
compare_exchange-requires g c = let rests = c.requires.rests in
    (search rules, search rules, turns_kept g.T.Storied.origin g.T.Storied.story g.T.Storied.caller _ _ _ _ _ _ rests.2.0 rests.0 rests.1 rests.2.1)
