use Rattle.std.proofs.Common.{rules}
use Rattle.turn_lock.proofs.Keeps.{count_kept}
use Rattle.turn_lock.proofs.steps.count.Goals as goal

pub fetch_add-requires : goal.fetch_add-requires
fetch_add-requires g c = let b = c.requires.brings in
    (search rules, search rules, count_kept g.T.Storied.origin g.T.Storied.story g.T.Storied.caller _ _ _ _ _ _ b.number b.made _ _ b.turns b.one b.his b.many)
