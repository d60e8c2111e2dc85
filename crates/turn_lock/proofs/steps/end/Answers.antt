use Rattle.std.proofs.Common.{rules}
use Rattle.turn_lock.proofs.Keeps.{end_kept}
use Rattle.turn_lock.proofs.steps.end.Goals as goal

pub swap-requires : goal.swap-requires
swap-requires g c = let b = c.requires.back in
    (search rules, search rules, end_kept g.T.Storied.origin g.T.Storied.story g.T.Storied.caller _ _ _ _ _ _ b.value b.turns b.hand b.told b.same)
