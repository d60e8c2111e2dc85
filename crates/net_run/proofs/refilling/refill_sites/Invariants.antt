use Rattle.std.proofs.Common.{◌≡◌, ◌++◌, ◌+◌, ◌≤◌, All, List, reverse, vec_len, vec_capacity}
use Rattle.std.specs.Global.{Vec}
use Rattle.std.specs.List.{AllZip}
use Rattle.mix_shard.specs.Shards.{ShardState}
use Rattle.net_run.specs.Refilling.{AreAllKept, AreRefilled, HasRoomFor}
use Rattle.net_run.specs.declared.sites.Site.{Site}
use Rattle.net_run.proofs.refilling.refill_sites.Given as goal

abbrev pub invariant-sites : goal.invariant-sites
invariant-sites g l = record {
  gone : List (Site g.row.R.Denot);
  lists : List (Vec ShardState);
  refilled : List (Site g.row.R.Denot);
  waiting_are : l.fn.waiting.items ≡ l.waiting.items ++ gone;
  shards_are : l.fn.shards.items ≡ l.shards.items ++ lists;
  are : reverse l.sites.items ≡ refilled ++ reverse l.initial.sites.items;
  each : AreRefilled g.R.Rack.state gone lists refilled;
  kept : All (AreAllKept g.R.Rack.tells g.S.Suite.meaning) lists;
  fit : AllZip HasRoomFor (reverse l.waiting.items) (reverse l.shards.items);
  room : vec_len l.sites + vec_len l.waiting ≤ vec_capacity l.sites;
  capacity : vec_capacity l.sites ≡ vec_capacity l.initial.sites;
}

abbrev pub decreases-sites : goal.decreases-sites
decreases-sites g l = vec_len l.waiting
