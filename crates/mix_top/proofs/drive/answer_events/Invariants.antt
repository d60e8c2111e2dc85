use Rattle.std.proofs.Common.{◌+◌, ◌-◌, ◌^◌, ◌≤◌}
use Rattle.lab_text.specs.Readers.{SourceGoesOn, lines_given}
use Rattle.mix_top.specs.Progress.{IsKeptNode, Progress, events_to_come}
use Rattle.mix_top.proofs.drive.answer_events.Given as goal

-- what was answered so far; what stays of the node and of the source; the sink's count of faults doesn't fall, and each
-- arrival took a line
abbrev pub invariant-events : goal.invariant-events
invariant-events g l = record {
  answered : Progress g.C.Rack.tells g.S.Suite.meaning (events_to_come l.setup.shards l.initial.reader) (events_to_come l.setup.shards l.reader)
      l.fn.node l.node (g.O.Sink.given l.fn.sink) (g.O.Sink.given l.sink);
  source : SourceGoesOn l.initial.reader l.reader;
  node : IsKeptNode g.C.Rack.tells g.S.Suite.meaning l.fn.node l.node;
  next : l.node.next ≤ lines_given l.reader + 1;
  write_faults : g.O.Sink.faults l.fn.sink ≤ g.O.Sink.faults l.sink;
}

abbrev pub decreases-events : goal.decreases-events
decreases-events g l = 2 ^ 30 + 1 - lines_given l.reader
