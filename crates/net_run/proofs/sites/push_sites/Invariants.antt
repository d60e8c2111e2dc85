use Rattle.std.proofs.Common.{◌≡◌, ◌++◌, ◌+◌, ◌≤◌, length, reverse, vec_len, vec_capacity}
use Rattle.net_run.specs.Sites.{all_racks}
use Rattle.net_run.proofs.sites.push_sites.Given as goal

abbrev pub invariant-loop-site : goal.invariant-loop-site
invariant-loop-site g l = record {
  are : all_racks l.fn.sites.items ++ reverse l.initial.racks.items ≡ all_racks l.sites.items ++ reverse l.racks.items;
  fit : vec_len l.racks + length (all_racks l.sites.items) ≤ vec_capacity l.racks;
}

abbrev pub decreases-loop-site : goal.decreases-loop-site
decreases-loop-site g l = goal.left-loop-site g l
