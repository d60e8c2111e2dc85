use Rattle.std.proofs.Common.{◌≡◌, ◌++◌, drop}
use Rattle.std.specs.List.{flat_map}
use Rattle.mix_waves.specs.Report as reports
use Rattle.mix_waves.proofs.report.add_replies.Given as goal

-- the lines so far, and those to come, are all
abbrev pub invariant-messages : goal.invariant-messages
invariant-messages l = l.lines.items ++ flat_map reports.reply_lines_of (drop l.message-index l.messages) ≡ l.initial.lines.items ++ flat_map reports.reply_lines_of l.messages
