use Rattle.std.proofs.Common.{◌≡◌, ℕ, ◌+◌}
use Rattle.mix_base.proofs.word_streams.skip_words.Given as goal

abbrev pub invariant-passing : goal.invariant-passing
invariant-passing g l = (place : ℕ) → g.W.Words.to_come l.words place ≡ g.W.Words.to_come l.initial.words (l._place + place)
