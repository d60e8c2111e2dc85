use Rattle.std.proofs.Common.{◌≡◌, List, ◌++◌, length}
use Rattle.node_actors.specs.Queues.{Sending, after_take_in}
use Rattle.node_run.proofs.Columns.{Spread}
use Rattle.node_run.proofs.life.settling.take_in.Given as goal

abbrev pub invariant-loop-sender : goal.invariant-loop-sender
invariant-loop-sender l =
    (rest : List Sending) × (l.senders.items ++ rest ≡ l.fn.senders.items)
    × Spread (λ was sender is. is ≡ after_take_in was sender) l.initial.receivers.items l.fn.senders.items (length l.senders.items) l.receivers.items

abbrev pub decreases-loop-sender : goal.decreases-loop-sender
decreases-loop-sender l = goal.left-loop-sender l
