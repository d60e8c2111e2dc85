-- The bytes before the first blank are the first word.
use Rattle.std.proofs.Common.{sym, ◌∙◌, arith, refl}
use Rattle.lab_text.proofs.WordsOf.{word_before_blank, word_to_end}
use Rattle.lab_text.proofs.words.word_length.Goals as goal

pub returns-then-blank-clause-word : goal.returns-then-blank-clause-word
returns-then-blank-clause-word c =
    word_before_blank c.args.line.now c.loop-place.place c.loop-place-test.true c.requires.starts c.loop-place.invariant (sym c.blank.ensures ∙ c.if-blank.true)

pub returns-clause-word : goal.returns-clause-word
returns-clause-word c = word_to_end c.args.line.now _ c.requires.some refl (λ k l. c.loop-place.invariant k (omega arith))
