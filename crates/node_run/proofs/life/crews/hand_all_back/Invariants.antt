use Rattle.std.proofs.Common.{◌≡◌, ◌≤◌, ◌++◌, length, vec_len, vec_capacity}
use Rattle.std.specs.List.{AllZip}
use Rattle.std.specs.Vec.Iter.{into_iter_items, into_iter_len}
use Rattle.node_run.specs.Crews.{IsHandOf}
use Rattle.node_run.proofs.life.crews.hand_all_back.Given as goal

abbrev pub invariant-loop-actor : goal.invariant-loop-actor
invariant-loop-actor g l = record {
  whole : l.fn.actors.items ≡ l.yielded ++ into_iter_items l.actor-iterator;
  count : into_iter_len l.actor-iterator ≡ length (into_iter_items l.actor-iterator);
  hands : AllZip IsHandOf l.yielded l.hands.items;
  len : vec_len l.hands ≡ length l.yielded;
  room : length l.fn.actors.items ≤ vec_capacity l.hands;
}
