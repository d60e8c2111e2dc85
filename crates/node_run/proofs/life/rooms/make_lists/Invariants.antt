use Rattle.std.proofs.Common.{◌≡◌, ◌≤◌, length, vec_capacity}
use Rattle.std.specs.Prelude.{All}
use Rattle.node_run.specs.Rooms.{HasRoom}
use Rattle.node_run.proofs.life.rooms.make_lists.Given as goal

abbrev pub invariant-loop : goal.invariant-loop
invariant-loop g l = record {
  count : length l.lists.items ≡ l.counter;
  each : All (HasRoom l.callers) l.lists.items;
  room : l.shards ≤ vec_capacity l.lists;
}
