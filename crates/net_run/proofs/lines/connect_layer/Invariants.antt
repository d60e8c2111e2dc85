use Rattle.std.proofs.Common.{◌≡◌, ◌++◌, ◌≤◌, length, replicate, vec_len}
use Rattle.std.specs.Vec.Iter.{into_iter_items, into_iter_len}
use Rattle.net_run.specs.Lines.{AddsLinked, ids_onto, sizes}
use Rattle.net_run.specs.Plans.{links_into, links_onto}
use Rattle.net_run.proofs.lines.connect_layer.Given as goal

abbrev pub invariant-nodes : goal.invariant-nodes
invariant-nodes g l = record {
  whole : l.fn.incoming.items ≡ l.yielded ++ into_iter_items l.ends-iterator;
  rest : into_iter_len l.ends-iterator ≡ length (into_iter_items l.ends-iterator);
  next : sizes l.next.items ≡ replicate (links_onto l.config l.layer) (length l.yielded);
  added : AddsLinked (length l.yielded) (links_into l.config l.layer) (ids_onto l.config l.layer) l.fn.nodes.items l.nodes.items;
  count : g.N.Net.faults l.fn.net ≤ g.N.Net.faults l.net;
}
