use Rattle.std.proofs.Common.{◌≡◌, ◌+◌, ◌<◌, ◌≤◌, ℕ}
use Rattle.sphinx_make.proofs.drawing.pass.Given as goal

abbrev pub invariant-passing : goal.invariant-passing
invariant-passing g l = record {
  before : (place : ℕ) → place < l.count → l.threshold ≤ g.W.Words.to_come l.initial.words place;
  moved : (place : ℕ) → g.W.Words.to_come l.words place ≡ g.W.Words.to_come l.initial.words (l.count + place);
}
