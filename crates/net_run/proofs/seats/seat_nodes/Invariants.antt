use Rattle.std.proofs.Common.{◌≡◌, ◌++◌, ◌+◌, ◌≤◌, All, List, length, map, reverse, vec_len, vec_capacity}
use Rattle.std.specs.List.{AllZip}
use Rattle.node_run.specs.Seats.{CanLive, setup_in}
use Rattle.net_run.specs.Seats.{CanSit, shards_in, site_of}
use Rattle.net_run.specs.declared.nodes.OpenNode.{OpenNode}
use Rattle.net_run.proofs.seats.seat_nodes.Given as goal

abbrev pub invariant-nodes : goal.invariant-nodes
invariant-nodes g l = record {
  met : List (OpenNode g.row.R.Denot g.row.S.Denot g.row.S-K.Denot g.row.S-M.Denot g.row.S-D.Denot g.row.S-C.Denot g.row.S-W.Denot);
  are : l.fn.nodes.items ≡ met ++ reverse l.nodes.items;
  can_sit : AllZip (CanSit g.R.Rack.tells g.S.Suite.meaning g.S.K.Kem.CT l.workers) (reverse l.nodes.items) (reverse l.links.items);
  can_live : All (CanLive g.S.K.Kem.CT l.workers) l.seats.items;
  shards : map shards_in l.seats.items ≡ map (λ node. node.shards.items) met;
  setups : map setup_in l.seats.items ≡ map (λ node. node.plan.setup) met;
  sites : l.sites.items ≡ map site_of met;
  seats_room : vec_len l.nodes + vec_len l.seats ≤ vec_capacity l.seats;
  sites_room : vec_len l.nodes + vec_len l.sites ≤ vec_capacity l.sites;
}

abbrev pub decreases-nodes : goal.decreases-nodes
decreases-nodes g l = vec_len l.nodes
