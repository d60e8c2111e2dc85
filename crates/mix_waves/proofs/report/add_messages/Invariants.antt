use Rattle.std.proofs.Common.{◌≡◌, ◌++◌, map, drop}
use Rattle.mix_waves.specs.Report as reports
use Rattle.mix_waves.proofs.report.add_messages.Given as goal

-- the lines so far, and those to come, are all
abbrev pub invariant-messages : goal.invariant-messages
invariant-messages l = l.lines.items ++ map reports.message_line (drop l.message-index l.messages) ≡ l.initial.lines.items ++ map reports.message_line l.messages
