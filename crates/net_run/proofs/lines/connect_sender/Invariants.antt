use Rattle.std.proofs.Common.{◌≡◌, ◌++◌, ◌+◌, ◌≤◌, length, map, vec_len}
use Rattle.std.specs.Vec.Iter.{into_iter_items, into_iter_len}
use Rattle.net_run.specs.Lines.{ids_in, ids_of, sizes}
use Rattle.net_run.proofs.lines.connect_sender.Given as goal

abbrev pub invariant-places : goal.invariant-places
invariant-places g l = record {
  whole : l.fn.incoming.items ≡ l.yielded ++ into_iter_items l.ends-iterator;
  rest : into_iter_len l.ends-iterator ≡ length (into_iter_items l.ends-iterator);
  ids : ids_of l.outgoing.items ≡ ids_in l.layer (length l.yielded);
  len : vec_len l.outgoing ≡ length l.yielded;
  one_more : sizes l.grown.items ≡ map (λ n. n + 1) (sizes l.yielded);
  count : g.N.Net.faults l.initial.net ≤ g.N.Net.faults l.net;
}
