use Rattle.std.proofs.Common.{◌≡◌, ◌++◌, ◌+◌, ◌≤◌, All, List, length, reverse, vec_len, vec_capacity}
use Rattle.mix_waves.specs.Network.{node_count}
use Rattle.net_run.specs.Nodes.{AreNodesOpened}
use Rattle.net_run.specs.Sites.{HasSizes}
use Rattle.net_run.specs.declared.sites.Site.{Site}
use Rattle.net_run.proofs.nodes.open_nodes.Given as goal

abbrev pub invariant-nodes : goal.invariant-nodes
invariant-nodes g l = record {
  met : List (Site g.row.R.Denot);
  are : l.fn.sites.items ≡ met ++ reverse l.sites.items;
  count : length met ≡ l.number;
  opened : AreNodesOpened g.R.Rack.state g.R.Rack.tells g.S.Suite.meaning l.config 0 met l.nodes.items;
  size : vec_len l.nodes ≡ l.number;
  room : node_count l.config ≤ vec_capacity l.nodes;
  len : vec_len l.sites + vec_len l.nodes ≡ node_count l.config;
  fit : node_count l.config ≤ vec_capacity l.sites;
  capacity : vec_capacity l.sites ≡ vec_capacity l.fn.sites;
}
