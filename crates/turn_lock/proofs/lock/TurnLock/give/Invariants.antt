use Rattle.turn_lock.specs.Stories.{after}
use Rattle.turn_lock.proofs.lock.TurnLock.give.Given as goal

abbrev pub ghosts-count : goal.ghosts-count
ghosts-count g a = record { added = after a.seat.now.me.0.seen (g.T.Storied.story a.value.now) }
