use Rattle.std.proofs.Common.{◌≡◌, ◌++◌, ◌+◌, ◌≤◌, reverse, vec_len, vec_capacity}
use Rattle.mix_top.proofs.bench.take_racks.Given as goal

abbrev pub invariant-loop : goal.invariant-loop
invariant-loop g l = record {
  are : l.fn.racks.items ≡ l.taken.items ++ reverse l.racks.items;
  size : vec_len l.taken ≡ l.counter;
  more : l.count ≤ vec_len l.taken + vec_len l.racks;
  room : l.count ≤ vec_capacity l.taken;
  fit : vec_len l.racks + vec_len l.taken ≤ vec_capacity l.racks;
}
