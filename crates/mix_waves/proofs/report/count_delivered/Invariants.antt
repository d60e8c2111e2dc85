use Rattle.std.proofs.Common.{◌≡◌, take}
use Rattle.std.specs.List.{count_by}
use Rattle.mix_waves.specs.Report as reports
use Rattle.mix_waves.proofs.report.count_delivered.Given as goal

abbrev pub invariant-messages : goal.invariant-messages
invariant-messages l = l.count ≡ count_by reports.was_delivered (take l.message-index l.messages)
