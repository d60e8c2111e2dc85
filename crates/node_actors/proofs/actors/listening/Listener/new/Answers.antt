use Rattle.std.proofs.Common.{◌+◌, refl}
use Rattle.node_actors.proofs.Listening.{listened_first, next_by}
use Rattle.node_actors.proofs.actors.listening.Listener.new.Goals as goal

pub invariant_of-result : goal.invariant_of-result
invariant_of-result g c = (
  c.requires.size,
  listened_first g.C.Clock.may_give _ c.requires.some c.requires.open c.requires.senders c.requires.log
      (next_by c.checked_add.result (c.args.place + 1) c.checked_add.ensures) refl c.new.ensures,
)
