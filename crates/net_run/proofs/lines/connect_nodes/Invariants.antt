use Rattle.std.proofs.Common.{◌≡◌, ◌+◌, ◌*◌, ◌<◌, ◌≤◌, length, replicate}
use Rattle.net_run.specs.Lines.{AreLinked, sizes}
use Rattle.net_run.specs.Plans.{links_into}
use Rattle.net_run.proofs.lines.connect_nodes.Given as goal

abbrev pub invariant-layers : goal.invariant-layers
invariant-layers g l = record {
  incoming : l.layer < l.config.layers → sizes l.incoming.items ≡ replicate l.config.width (links_into l.config l.layer);
  many : length l.nodes.items ≡ l.layer * l.config.width;
  each : AreLinked l.config 0 l.nodes.items;
  count : g.N.Net.faults l.fn.net ≤ g.N.Net.faults l.net;
}
