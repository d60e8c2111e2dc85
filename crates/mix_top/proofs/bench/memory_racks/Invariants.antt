use Rattle.std.proofs.Common.{◌≡◌, length, map}
use Rattle.std.specs.List.{All}
use Rattle.replay_disk.specs.Disk.{AreAtRest}
use Rattle.mix_top.proofs.bench.memory_racks.Given as goal

abbrev pub invariant-loop : goal.invariant-loop
invariant-loop l = record {
  size : length l.racks.items ≡ l.counter;
  rest : All (λ rack. AreAtRest rack.areas) (map (λ one. one.rack) l.racks.items);
}
