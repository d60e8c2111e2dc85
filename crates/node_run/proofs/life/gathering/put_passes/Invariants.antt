use Rattle.std.proofs.Common.{◌≡◌, List, ◌++◌, length}
use Rattle.node_run.specs.Closings.{GetsPass}
use Rattle.node_run.proofs.Columns.{Spread}
use Rattle.node_run.proofs.life.gathering.put_passes.Given as goal

abbrev pub invariant-loop-pass : goal.invariant-loop-pass
invariant-loop-pass g l =
    (rest : List g.row.Q.Denot) × (l.passes.items ++ rest ≡ l.fn.passes.items)
    × Spread GetsPass l.initial.lists.items l.fn.passes.items (length l.passes.items) l.lists.items

abbrev pub decreases-loop-pass : goal.decreases-loop-pass
decreases-loop-pass g l = goal.left-loop-pass g l
