use Rattle.std.proofs.Common.{◌≡◌, ℕ, ◌+◌, take}
use Rattle.mix_base.specs.WordStreams.{first_words}
use Rattle.mix_base.proofs.word_streams.draw.Given as goal

abbrev pub invariant-drawing : goal.invariant-drawing
invariant-drawing g l = record {
  words : take l.i l.drawn ≡ first_words (g.W.Words.to_come l.initial.words) l.i;
  rest : (place : ℕ) → g.W.Words.to_come l.words place ≡ g.W.Words.to_come l.initial.words (l.i + place);
}
