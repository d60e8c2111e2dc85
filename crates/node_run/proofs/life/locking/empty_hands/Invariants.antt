use Rattle.node_run.specs.Openings.{AreEmptyHands}
use Rattle.node_run.proofs.life.locking.empty_hands.Given as goal

abbrev pub invariant-making : goal.invariant-making
invariant-making g l = AreEmptyHands l.counter l.room l.hands.items
