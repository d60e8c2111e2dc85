use Rattle.std.proofs.Common.{◌≡◌, ◌<◌, ◌≤◌, ℕ, length, None}
use Rattle.std.specs.Prelude.{Some, slice_get}
use Rattle.node_actors.specs.Queues.{after_push, Sending}
use Rattle.node_actors.proofs.actors.listening.finish_all.Given as goal

abbrev pub invariant-loop-worker : goal.invariant-loop-worker
invariant-loop-worker g l = record {
  many : length l.senders.items ≡ length l.initial.senders.items;
  ended : (i : ℕ) (was is : Sending) → i < l.worker → slice_get l.initial.senders.items i ≡ Some was → slice_get l.senders.items i ≡ Some is → is ≡ after_push was None;
  same : (i : ℕ) (is : Sending) → l.worker ≤ i → slice_get l.senders.items i ≡ Some is → slice_get l.initial.senders.items i ≡ Some is;
}
