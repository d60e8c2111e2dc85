-- The root is in order, so its begun epochs are the floor and the one above it alone.
use Rattle.std.proofs.Common.{◌∙◌}
use Rattle.spent_store.proofs.LogsOf.{logs_near, logs_two}
use Rattle.spent_store.proofs.reading.read_book.Goals as goal

pub of-requires-clause-near : goal.of-requires-clause-near
of-requires-clause-near g c =
    logs_near c.deref.result.now c.deref-2.result.now c.in_ok-standing.standing.floor c.in_ok-logs.logs.items c.in_ok-standing.ensures.in_order c.in_ok-standing.ensures.floor
    (c.deref-2.ensures.value ∙ c.in_ok-standing.ensures.begun) c.in_ok-logs.ensures.epochs

pub of-requires-clause-two : goal.of-requires-clause-two
of-requires-clause-two g c =
    logs_two c.in_ok-standing.standing.floor c.in_ok-logs.logs.items
    (logs_near c.deref.result.now c.deref-2.result.now c.in_ok-standing.standing.floor c.in_ok-logs.logs.items c.in_ok-standing.ensures.in_order c.in_ok-standing.ensures.floor
    (c.deref-2.ensures.value ∙ c.in_ok-standing.ensures.begun) c.in_ok-logs.ensures.epochs)
