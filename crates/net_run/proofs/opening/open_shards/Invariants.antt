use Rattle.std.proofs.Common.{◌≡◌, ◌++◌, ◌+◌, ◌≤◌, List, length, map, reverse, vec_len, vec_capacity}
use Rattle.replay_disk.specs.Disk.{RackState}
use Rattle.net_run.specs.Opening.{AreOpened}
use Rattle.net_run.proofs.opening.open_shards.Given as goal

abbrev pub invariant-shards : goal.invariant-shards
invariant-shards g l = record {
  met : List RackState;
  are : map g.R.Rack.state l.fn.racks.items ≡ met ++ map g.R.Rack.state (reverse l.racks.items);
  count : length met ≡ l.index;
  opened : AreOpened g.R.Rack.tells g.S.Suite.meaning l.plan 0 met l.shards.items;
  size : vec_len l.shards ≡ l.index;
  room : l.plan.shards ≤ vec_capacity l.shards;
  len : vec_len l.racks + vec_len l.shards ≡ l.plan.shards;
  fit : l.plan.shards ≤ vec_capacity l.racks;
  capacity : vec_capacity l.racks ≡ vec_capacity l.fn.racks;
}
