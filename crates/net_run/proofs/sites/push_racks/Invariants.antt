use Rattle.std.proofs.Common.{◌≡◌, ◌++◌, ◌+◌, ◌≤◌, reverse, vec_len, vec_capacity}
use Rattle.net_run.proofs.sites.push_racks.Given as goal

abbrev pub invariant-loop-rack : goal.invariant-loop-rack
invariant-loop-rack g l = record {
  are : l.fn.taken.items ++ reverse l.initial.racks.items ≡ l.taken.items ++ reverse l.racks.items;
  fit : vec_len l.racks + vec_len l.taken ≤ vec_capacity l.racks;
  len : vec_len l.racks + vec_len l.taken ≡ vec_len l.initial.racks + vec_len l.fn.taken;
  capacity : vec_capacity l.racks ≡ vec_capacity l.initial.racks;
}

abbrev pub decreases-loop-rack : goal.decreases-loop-rack
decreases-loop-rack g l = goal.left-loop-rack g l
