-- Until a line is found, what comes stays, and each block makes the kept line longer.
use Rattle.std.proofs.Common.{◌≡◌, ◌+◌, ◌-◌, vec_len}
use Rattle.lab_text.specs.Readers.{coming, lines_given, SourceGoesOn, Stays}
use Rattle.lab_text.proofs.lines.LineReader.next_line.Given as goal

abbrev pub invariant-blocks-2 : goal.invariant-blocks-2
invariant-blocks-2 g l =
    Stays (coming l.initial.self) (coming l.self)
    × (lines_given l.self ≡ lines_given l.initial.self)
    × SourceGoesOn l.initial.self l.self

abbrev pub decreases-blocks-2 : goal.decreases-blocks-2
decreases-blocks-2 g l = 65536 - vec_len l.self.line + (1 - (l.self.end - l.self.place))
