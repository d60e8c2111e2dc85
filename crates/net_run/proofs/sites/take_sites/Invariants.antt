use Rattle.std.proofs.Common.{◌≡◌, ◌++◌, ◌+◌, ◌*◌, ◌≤◌, All, length, reverse, vec_len, vec_capacity}
use Rattle.net_run.specs.Sites.{HasSizes, all_racks}
use Rattle.net_run.proofs.sites.take_sites.Given as goal

abbrev pub invariant-sites : goal.invariant-sites
invariant-sites g l = record {
  are : l.fn.racks.items ≡ all_racks l.sites.items ++ reverse l.racks.items;
  size : vec_len l.sites ≡ l.counter;
  sizes : All (HasSizes l.shards) l.sites.items;
  more : 16 * l.count ≤ vec_len l.racks + 16 * l.counter;
  room : l.count ≤ vec_capacity l.sites;
  fit : vec_len l.racks + length (all_racks l.sites.items) ≤ vec_capacity l.racks;
}
