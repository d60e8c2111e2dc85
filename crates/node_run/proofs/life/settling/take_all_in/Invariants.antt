use Rattle.std.proofs.Common.{◌≡◌, ◌++◌, length}
use Rattle.std.specs.Vec.Iter.{into_iter_items, into_iter_len}
use Rattle.node_run.specs.Settlings.{KnowAll}
use Rattle.node_run.proofs.life.settling.take_all_in.Given as goal

abbrev pub invariant-loop-of_one : goal.invariant-loop-of_one
invariant-loop-of_one l = record {
  whole : l.yielded ++ into_iter_items l.of_one-iterator ≡ l.fn.senders.items;
  count : into_iter_len l.of_one-iterator ≡ length (into_iter_items l.of_one-iterator);
  know : KnowAll l.yielded l.initial.receivers.items l.receivers.items;
}
