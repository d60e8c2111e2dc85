use Rattle.std.proofs.Common.{◌≡◌, ◌+◌, take}
use Rattle.node_run.specs.Crews.{callers_in}
use Rattle.node_run.proofs.life.crews.count_threads.Given as goal

abbrev pub invariant-loop-seat : goal.invariant-loop-seat
invariant-loop-seat g l = l.many ≡ callers_in l.workers (take l.seat-index l.nodes) + l.feeds
