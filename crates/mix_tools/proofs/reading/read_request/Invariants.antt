use Rattle.std.proofs.Common.{◌≡◌, ◌+◌, ◌-◌, ◌^◌, Some, IfSome}
use Rattle.lab_text.specs.Readers.{SourceGoesOn, lines_given}
use Rattle.mix_tools.specs.Reading.{request_to_come}
use Rattle.mix_tools.specs.Drafts.{IsDraftInRange}
use Rattle.mix_tools.proofs.reading.read_request.Given as goal

-- the lines to come say behind the draft so far what all lines say behind the first
abbrev pub invariant-lines : goal.invariant-lines
invariant-lines g l = record {
  same : IfSome (request_to_come l.initial.reader l.initial.draft) (λ outcome. request_to_come l.reader l.draft ≡ Some outcome);
  in_range : IsDraftInRange l.draft;
  source : SourceGoesOn l.initial.reader l.reader;
}

abbrev pub decreases-lines : goal.decreases-lines
decreases-lines g l = 2 ^ 30 + 1 - lines_given l.reader
