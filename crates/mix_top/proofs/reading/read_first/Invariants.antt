use Rattle.std.proofs.Common.{◌≡◌, ◌+◌, ◌-◌, ◌^◌, Some, IfSome}
use Rattle.lab_text.specs.Readers.{SourceGoesOn, lines_given}
use Rattle.mix_top.specs.Progress.{program_to_come}
use Rattle.mix_top.proofs.reading.read_first.Given as goal

-- only skipped lines were read, so the program to come is still the same
abbrev pub invariant-lines : goal.invariant-lines
invariant-lines g l = record {
  same : IfSome (program_to_come l.initial.reader) (λ program. program_to_come l.reader ≡ Some program);
  source : SourceGoesOn l.initial.reader l.reader;
}

abbrev pub decreases-lines : goal.decreases-lines
decreases-lines g l = 2 ^ 30 + 1 - lines_given l.reader
