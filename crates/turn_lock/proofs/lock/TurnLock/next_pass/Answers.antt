use Rattle.std.proofs.Common.{rules, ap}
use Rattle.turn_lock.proofs.Keeps.{split_kept}
use Rattle.turn_lock.proofs.lock.TurnLock.next_pass.Goals as goal

pub split_seat-seat-requires : goal.split_seat-seat-requires
split_seat-seat-requires g c = (
  search rules,
  search rules,
  split_kept g.T.Storied.origin g.T.Storied.story g.T.Storied.caller _ _ _ _ _ _ (ap (λ m. m.0.role) c.requires.first.1) (ap (λ m. m.0.next) c.requires.first.1) (search rules),
)
