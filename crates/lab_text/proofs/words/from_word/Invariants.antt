-- The words stay as they were while blanks are passed.
use Rattle.std.proofs.Common.{◌≡◌, length}
use Rattle.lab_text.specs.Words.{words_of}
use Rattle.lab_text.proofs.words.from_word.Given as goal

abbrev pub invariant-loop-first : goal.invariant-loop-first
invariant-loop-first l = words_of l.rest ≡ words_of l.line

abbrev pub decreases-loop-first : goal.decreases-loop-first
decreases-loop-first l = length l.rest
