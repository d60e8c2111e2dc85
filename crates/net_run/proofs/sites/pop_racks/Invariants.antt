use Rattle.std.proofs.Common.{◌≡◌, ◌++◌, ◌+◌, ◌≤◌, reverse, vec_len, vec_capacity}
use Rattle.net_run.proofs.sites.pop_racks.Given as goal

abbrev pub invariant-racks : goal.invariant-racks
invariant-racks g l = record {
  are : reverse l.initial.racks.items ≡ l.taken.items ++ reverse l.racks.items;
  size : vec_len l.taken ≡ l.counter;
  more : l.count ≤ vec_len l.taken + vec_len l.racks;
  room : l.count ≤ vec_capacity l.taken;
  len : vec_len l.racks + vec_len l.taken ≡ vec_len l.initial.racks;
  capacity : vec_capacity l.racks ≡ vec_capacity l.initial.racks;
}
