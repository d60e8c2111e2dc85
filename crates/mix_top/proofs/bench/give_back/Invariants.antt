use Rattle.std.proofs.Common.{◌≡◌, ◌++◌, ◌+◌, ◌≤◌, reverse, vec_len, vec_capacity}
use Rattle.mix_top.proofs.bench.give_back.Given as goal

abbrev pub invariant-loop-rack : goal.invariant-loop-rack
invariant-loop-rack g l = record {
  are : l.fn.taken.items ++ l.fn.racks.items ≡ l.taken.items ++ reverse l.racks.items;
  fit : vec_len l.racks + vec_len l.taken ≤ vec_capacity l.racks;
}

abbrev pub decreases-loop-rack : goal.decreases-loop-rack
decreases-loop-rack g l = goal.left-loop-rack g l
