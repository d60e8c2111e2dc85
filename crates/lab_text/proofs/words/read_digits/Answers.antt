-- A number that its next digit takes past 2^64 stays there.
use Rattle.lab_text.proofs.WordsOf.{too_large}
use Rattle.lab_text.proofs.words.read_digits.Goals as goal

pub returns-in-None-clause-none : goal.returns-in-None-clause-none
returns-in-None-clause-none c =
    too_large c.args.word.now c.loop-byte.byte-index c.loop-byte.value c.loop-byte-test.true c.loop-byte.invariant (c.in-None.ensures.none)
