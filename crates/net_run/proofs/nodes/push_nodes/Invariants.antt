use Rattle.std.proofs.Common.{◌≡◌, ◌++◌, ◌+◌, ◌≤◌, All, List, reverse, vec_len, vec_capacity}
use Rattle.std.specs.List.{AllZip}
use Rattle.net_run.specs.Nodes.{AreKept, HasShards, IsClosedTo}
use Rattle.net_run.specs.declared.nodes.OpenNode.{OpenNode}
use Rattle.net_run.specs.declared.sites.Site.{Site}
use Rattle.net_run.proofs.nodes.push_nodes.Given as goal

abbrev pub invariant-loop-node : goal.invariant-loop-node
invariant-loop-node g l = record {
  gone : List (OpenNode g.row.R.Denot g.row.S.Denot g.row.S-K.Denot g.row.S-M.Denot g.row.S-D.Denot g.row.S-C.Denot g.row.S-W.Denot);
  closed : List (Site g.row.R.Denot);
  nodes : l.fn.nodes.items ≡ l.nodes.items ++ gone;
  sites : reverse l.sites.items ≡ closed ++ reverse l.initial.sites.items;
  each : AllZip (IsClosedTo g.R.Rack.state) gone closed;
  kept : All (AreKept g.R.Rack.tells g.S.Suite.meaning) gone;
  shards : All (HasShards) l.nodes.items;
  fit : vec_len l.sites + vec_len l.nodes ≤ vec_capacity l.sites;
  capacity : vec_capacity l.sites ≡ vec_capacity l.initial.sites;
}

abbrev pub decreases-loop-node : goal.decreases-loop-node
decreases-loop-node g l = goal.left-loop-node g l
