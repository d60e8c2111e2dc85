use Rattle.std.proofs.Common.{◌≡◌, drop}
use Rattle.lab_text.specs.Words.{digits_value}
use Rattle.lab_text.proofs.words.read_digits.Given as goal

abbrev pub invariant-loop-byte : goal.invariant-loop-byte
invariant-loop-byte l = digits_value l.value (drop l.byte-index l.word) ≡ digits_value 0 l.word
