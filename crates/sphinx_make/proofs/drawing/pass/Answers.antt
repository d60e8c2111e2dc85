use Rattle.std.proofs.Common.{◌≡◌, ◌+◌, ◌<◌, min, inl, inr, refl, sym, ap, ◌∙◌, arith, add-zero}
use Rattle.sphinx_make.proofs.Counting.{passed-is}
use Rattle.sphinx_make.specs.Drawing.{passed}
use Rattle.sphinx_make.proofs.drawing.pass.Goals as goal

pub returns-then-next-threshold-clause-value : goal.returns-then-next-threshold-clause-value
returns-then-next-threshold-clause-value g c =
    let words = g.W.Words.to_come c.args.words.now in
    let word : c.next.result ≡ words c.passing.count = c.next.ensures.word ∙ c.passing.invariant.moved 0 ∙ ap words (add-zero c.passing.count) in
    let below : words c.passing.count < c.args.threshold = omega (arith, word, c.if-next-threshold.true) in
    sym (passed-is c.args.threshold words c.args.most c.passing.count (omega arith) c.passing.invariant.before (inr below))

pub returns-then-next-threshold-clause-words : goal.returns-then-next-threshold-clause-words
returns-then-next-threshold-clause-words g c = λ place.
    let words = g.W.Words.to_come c.args.words.now in
    let word : c.next.result ≡ words c.passing.count = c.next.ensures.word ∙ c.passing.invariant.moved 0 ∙ ap words (add-zero c.passing.count) in
    let below : words c.passing.count < c.args.threshold = omega (arith, word, c.if-next-threshold.true) in
    let count : passed c.args.threshold words c.args.most ≡ c.passing.count = passed-is c.args.threshold words c.args.most c.passing.count (omega arith) c.passing.invariant.before (inr below) in
    let taken : c.passing.count + (place + 1) ≡ min (passed c.args.threshold words c.args.most + 1) c.args.most + place = omega arith in
    c.next.ensures.rest place ∙ c.passing.invariant.moved (place + 1) ∙ ap words taken

pub returns-clause-value : goal.returns-clause-value
returns-clause-value g c =
    let words = g.W.Words.to_come c.args.words.now in
    sym (passed-is c.args.threshold words c.args.most c.args.most (omega arith) (λ place h. c.passing.invariant.before place (omega arith)) (inl refl))

pub returns-clause-words : goal.returns-clause-words
returns-clause-words g c = λ place.
    let words = g.W.Words.to_come c.args.words.now in
    let count : passed c.args.threshold words c.args.most ≡ c.args.most = passed-is c.args.threshold words c.args.most c.args.most (omega arith) (λ place h. c.passing.invariant.before place (omega arith)) (inl refl) in
    let taken : c.passing.count + place ≡ min (passed c.args.threshold words c.args.most + 1) c.args.most + place = omega arith in
    c.passing.invariant.moved place ∙ ap words taken
